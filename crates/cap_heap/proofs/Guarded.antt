-- Events at each moment of which words can be given are those at each moment of which rounded bounds lie apart.
use Rattle.std.specs.List.{AllByRecursion}
use Rattle.std.proofs.{Common.{ℕ, ◌<◌, ◌^◌, inl, inr, List, [], ◌∷◌, ◌++◌, length, map, subst}, lemmas.Option.none-some}
use Rattle.cap_bounds.specs.declared.decoding.Interval.{Interval}
use Rattle.cap_heap.specs.declared.{events.Event.{Event, TheVariants.{Malloc, Free}}, lines.HeapLine.HeapLine}
use Rattle.cap_heap.specs.{declared.lines.HeapLine.TheVariants.{Happens, End}, Events.{Throughout, after_event}}
use Rattle.cap_heap.specs.{HeapLines.IsHeapLineInRange, HeapLogs.IsHeapLogOf}
use Rattle.cap_heap.specs.Objects.{Objects, no_objects, IsApart, CanBeGuarded}
use Rattle.cap_heap.proofs.{Guarding.{AreRequests, guards, guarded}, Objects.{with_object-some, without_object-some}}

-- objects of events in range have numbers of 64 bits
with_request : (objects : Objects) (at size : ℕ) → AreRequests objects → at < 2 ^ 64 → size < 2 ^ 64 → AreRequests (after_event objects (Malloc at size))
with_request objects at size requests fits fits' other length is = elim (with_object-some objects at size other length is) [
  | inl same ↦ (subst (λ (n : ℕ). n < 2 ^ 64) same.0 fits, subst (λ (n : ℕ). n < 2 ^ 64) same.1 fits')
  | inr was ↦ requests other length was.1
]

-- so what follows at each moment from one fact for such objects follows from all
throughout : (P Q : Objects → Type 0) → ((objects : Objects) → AreRequests objects → P objects → Q objects) → (objects : Objects)
    (events : List Event) (later : List HeapLine) → AreRequests objects → AllByRecursion IsHeapLineInRange (map Happens events ++ later)
    → Throughout P objects events → Throughout Q objects events
throughout P Q follows objects [] later requests range all = follows objects requests all
throughout P Q follows objects (Malloc at size ∷ events) later requests range all = (
  follows objects requests all.0,
  all.1,
  throughout P Q follows (after_event objects (Malloc at size)) events later (with_request objects at size requests range.0.0 range.0.1) range.1 all.2,
)
throughout P Q follows objects (Free at ∷ events) later requests range all = (
  follows objects requests all.0,
  all.1,
  throughout P Q follows (after_event objects (Free at)) events later (λ other size is. requests other size (without_object-some objects at other size is))
      range.1 all.2,
)

no_requests : AreRequests no_objects
no_requests at size is = absurd (none-some size is)

pub guards_log : (lines : List HeapLine) (root : Interval) (events : List Event) → IsHeapLogOf IsApart lines root events
    → IsHeapLogOf CanBeGuarded lines root events
guards_log lines root events (are, range, always) =
    let ranges = subst (AllByRecursion IsHeapLineInRange) are range in (
      are,
      range,
      throughout (IsApart root) (CanBeGuarded root) (λ objects requests. guards root objects ranges.1.0.2 requests) no_objects events (End (length events) ∷ []) no_requests ranges.1.1 always,
    )

pub guarded_log : (lines : List HeapLine) (root : Interval) (events : List Event) → IsHeapLogOf CanBeGuarded lines root events
    → IsHeapLogOf IsApart lines root events
guarded_log lines root events (are, range, always) =
    let ranges = subst (AllByRecursion IsHeapLineInRange) are range in (
      are,
      range,
      throughout (CanBeGuarded root) (IsApart root) (λ objects requests. guarded root objects ranges.1.0.2 requests) no_objects events (End (length events) ∷ []) no_requests ranges.1.1 always,
    )
