-- What handing out, widening and freeing do to the present objects (this profile's own).
use Rattle.std.specs.Prelude.{◌≡◌, ◌≢◌, ◌⊎◌, ℕ, ◌-◌, ◌<◌, ◌≤◌, min, max, Bool, true, false, nat_lt, if◌then◌else◌, Option, Some, None, option_and_then}
use Rattle.std.specs.Prelude.{List, codes}
use Rattle.cap_objects.specs.declared.{objects.Object.Object, handouts.HandOutFault.{HandOutFault, TheVariants.{Overlaps, StillHeld, NoMemory}}}
use Rattle.cap_objects.specs.declared.handouts.NumberFault.{NumberFault, TheVariants.{NoObject, AlreadyFreed}}
use Rattle.cap_objects.specs.Extents.{AreLong, IsFirstMet, MeetsNone, Objects, Sets, is_compared, is_present}
use Rattle.cap_objects.specs.declared.moments.Moment.{Moment}
use Rattle.cap_objects.specs.{Indexes.{IsIndex, base_key, kept, number_key}, Moments.never, Objects.{Share, top_of_extent}}

-- the last address below a top
abbrev pub last_below : ℕ → ℕ → ℕ
last_below base top = if nat_lt base top then top - 1 else base

-- a new object, which no place holds
abbrev pub handed_out : ℕ → Moment → ℕ → ℕ → Object
handed_out number_is moment base_is top = record {
  base = base_is;
  last = last_below base_is top;
  held = 0;
  number = number_is;
  handed_at = moment;
  freed_at = never;
  long = nat_lt base_is top;
  freed = false;
}

-- an object whose extent is the least that holds its own and these bounds
abbrev pub widened : Object → ℕ → ℕ → Object
widened object base_is top =
    let low = min object.base base_is in
    let high = max (top_of_extent object) top in
    if nat_lt low high then record object { base = low; last = high - 1; long = true } else object

-- an object that was freed at a moment
abbrev pub freed_in : Moment → Object → Object
freed_in moment object = record object { freed = true; freed_at = moment }

-- an object that so many places hold
abbrev pub with_held : Object → ℕ → Object
with_held object count = record object { held = count }

-- how many places hold an object, and none where there is none
abbrev pub held_of : Option Object → ℕ
held_of None = 0
held_of (Some object) = object.held

-- the objects are the same but for their counts; those that so come to be neither live nor held are gone
abbrev pub IsRecounted : Objects → Objects → Type 0
IsRecounted old new =
    (slot : ℕ) → new slot ≡ option_and_then (λ object. kept (with_held object (held_of (new slot)))) (old slot)

-- no extent that is compared shares an address with an interval
abbrev pub HasRoom : Bool → Option ℕ → Objects → ℕ → ℕ → Type 0
HasRoom keeps left_out objects base top = base < top → MeetsNone keeps left_out false objects base (top - 1)

-- why an interval becomes no object's extent: it shares an address with that of a live object; or with none's that is
-- live, but with that of a freed one; or there was no memory. Of several objects the one of least base is told
abbrev pub RefusesExtent : Bool → Option ℕ → Objects → ℕ → ℕ → HandOutFault → Type 0
RefusesExtent keeps left_out objects base top (Overlaps slot) =
    (base < top) × IsFirstMet keeps left_out true objects base (top - 1) slot
RefusesExtent keeps left_out objects base top (StillHeld slot) =
    (base < top) × MeetsNone keeps left_out true objects base (top - 1) × IsFirstMet keeps left_out false objects base (top - 1) slot
RefusesExtent keeps left_out objects base top NoMemory = HasRoom keeps left_out objects base top

-- the same as a text
abbrev pub hand_out_fault_text : HandOutFault → List ℕ
hand_out_fault_text (Overlaps slot) = codes "the extent overlaps that of a live object"
hand_out_fault_text (StillHeld slot) = codes "the extent overlaps that of a freed object that is held"
hand_out_fault_text NoMemory = codes "out of memory"

-- an object more, in a slot that none had
abbrev pub AddsObject : Objects → ℕ → Object → Objects → Type 0
AddsObject old slot object new = (old slot ≡ None) × Sets old slot (Some object) new

-- the live object with a number is in a slot
pub record IsLive (objects : Objects) (number_is slot : ℕ) : Type 0 where
  pub object : Object
  pub there : objects slot ≡ Some object
  pub number : object.number ≡ number_is
  pub live : object.freed ≡ false

-- why no live object has a number: none of so many that were handed out had it, or it was freed
abbrev pub HasNoLive : ℕ → Objects → ℕ → NumberFault → Type 0
HasNoLive count objects number NoObject = (number ≡ 0) ⊎ (count < number)
HasNoLive count objects number AlreadyFreed =
    (0 < number) × (number ≤ count) × ((slot : ℕ) → IsLive objects number slot → ⊥)

-- the present object of least number from a number on
abbrev pub IsNextNumber : Objects → ℕ → Option (ℕ × ℕ) → Type 0
IsNextNumber objects from None = (slot : ℕ) (object : Object) → objects slot ≡ Some object → object.number < from
IsNextNumber objects from (Some entry) = (from ≤ entry.0)
    × ((object : Object) × (objects entry.1 ≡ Some object) × (object.number ≡ entry.0))
    × ((slot : ℕ) (object : Object) → objects slot ≡ Some object → from ≤ object.number → entry.0 ≤ object.number)

-- the present objects with their indexes: numbers from 1 to the count of all that were handed out, and extents that
-- share no address where they are compared
pub record AreKept (keeps : Bool) (count : ℕ) (objects : Objects) (numbers bases : ℕ → Option ℕ) : Type 0 where
  pub numbered : IsIndex number_key objects numbers
  pub based : IsIndex (base_key keeps) objects bases
  pub long : AreLong objects
  pub apart : (one two : ℕ) (a b : Object) → objects one ≡ Some a → objects two ≡ Some b → one ≢ two → is_compared keeps a ≡ true
      → is_compared keeps b ≡ true → a.base ≤ b.base → a.last < b.base
  pub some : (slot : ℕ) (object : Object) → objects slot ≡ Some object → 0 < object.number
  pub few : (slot : ℕ) (object : Object) → objects slot ≡ Some object → object.number ≤ count

-- what is true of present objects: numbers from 1 to the count of all that were handed out, each of one object alone;
-- and no address lies in the extents of two of them, or of two live ones where those of freed ones aren't compared
pub record ArePresent (keeps : Bool) (count : ℕ) (objects : Objects) : Type 0 where
  pub present : (slot : ℕ) (object : Object) → objects slot ≡ Some object → is_present object ≡ true
  pub some : (slot : ℕ) (object : Object) → objects slot ≡ Some object → 0 < object.number
  pub few : (slot : ℕ) (object : Object) → objects slot ≡ Some object → object.number ≤ count
  pub alone : (one two : ℕ) (a b : Object) → objects one ≡ Some a → objects two ≡ Some b → a.number ≡ b.number → one ≡ two
  pub apart : (one two : ℕ) (a b : Object) → objects one ≡ Some a → objects two ≡ Some b → one ≢ two
      → (keeps ≡ false → (a.freed ≡ false) × (b.freed ≡ false))
      → Share a.base (top_of_extent a) b.base (top_of_extent b) → ⊥
