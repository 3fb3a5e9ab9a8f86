-- What happens to the objects of an allocator, and why it can't. All of it is this profile's own.
use Rattle.std.specs.Prelude.{◌≡◌, ℕ, ◌==◌, if◌then◌else◌, Bool, true, false, not, List, [], ◌∷◌, count_by, IsSome}
use Rattle.std.specs.Prelude.{Some, None}
use Rattle.cap_bounds.specs.{declared.decoding.Interval.Interval, Bounds.IsInside, Rounding.{rounded_base, rounded_top}}
use Rattle.cap_heap.specs.declared.events.{Event.{Event, TheVariants.{Malloc, Free}}, EventEnd.EventEnd}
use Rattle.cap_heap.specs.declared.{events.EventEnd.TheVariants.{Refused, NoMemory}, refusal.HeapRefusal.HeapRefusal}
use Rattle.cap_heap.specs.declared.refusal.HeapRefusal.TheVariants.{AddressTaken, OutsideHeap, Overlaps, NotLive}
use Rattle.cap_heap.specs.Objects.{Objects, Shares, LieApart}

-- the objects after an event
abbrev pub after_event : Objects → Event → Objects
after_event objects (Malloc at size) other = if at == other then Some size else objects other
after_event objects (Free at) other = if at == other then None else objects other

-- each object comes to live where none lives and is freed where it lives, and at every moment a fact holds of the live
-- objects
abbrev pub Throughout : (Objects → Type 0) → Objects → List Event → Type 0
Throughout Fact objects [] = Fact objects
Throughout Fact objects (Malloc at size ∷ events) = Fact objects × (objects at ≡ None) × Throughout Fact (after_event objects (Malloc at size)) events
Throughout Fact objects (Free at ∷ events) = Fact objects × IsSome (objects at) × Throughout Fact (after_event objects (Free at)) events

-- an object comes to live
abbrev pub is_malloc : Event → Bool
is_malloc (Malloc at size) = true
is_malloc (Free at) = false

-- how many objects came to live, and how many were freed
abbrev pub mallocs : List Event → ℕ
mallocs events = count_by is_malloc events

abbrev pub frees : List Event → ℕ
frees events = count_by (λ event. not (is_malloc event)) events

-- a request can be met
pub record HasRoom (heap : Interval) (objects : Objects) (at length : ℕ) : Type 0 where
  pub fresh : objects at ≡ None
  pub inside : IsInside (rounded_base at length) (rounded_top at length) heap.base heap.top
  pub apart : (other size : ℕ) → objects other ≡ Some size → LieApart at length other size

-- an event can happen
abbrev pub CanHappen : Interval → Objects → Event → Type 0
CanHappen heap objects (Malloc address length) = HasRoom heap objects address length
CanHappen heap objects (Free address) = IsSome (objects address)

-- why an event can't happen: the first of its checks that fails
abbrev pub RefusesEvent : Interval → Objects → Event → HeapRefusal → Type 0
RefusesEvent heap live (Malloc at size) AddressTaken = IsSome (live at)
RefusesEvent heap live (Malloc at size) OutsideHeap = (live at ≡ None) × (IsInside (rounded_base at size) (rounded_top at size) heap.base heap.top → ⊥)
RefusesEvent heap live (Malloc at size) Overlaps = (live at ≡ None) × IsInside (rounded_base at size) (rounded_top at size) heap.base heap.top
    × (other : ℕ) × (length : ℕ) × Shares rounded_base rounded_top live at size other length
RefusesEvent heap live (Malloc at size) refusal = ⊥
RefusesEvent heap live (Free at) refusal = (refusal ≡ NotLive) × (live at ≡ None)

-- why an event did not happen: a check fails, or none does and there was no memory for a new object
abbrev pub IsEndOf : Interval → Objects → Event → EventEnd → Type 0
IsEndOf heap objects event (Refused refusal) = RefusesEvent heap objects event refusal
IsEndOf heap objects (Malloc at length) NoMemory = HasRoom heap objects at length
IsEndOf heap objects (Free at) NoMemory = ⊥
