-- Present objects by their slots, and whose extents new ones are compared with (this profile's own).
use Rattle.std.specs.Prelude.{◌≡◌, ◌≢◌, ◌&&◌, ◌||◌, ℕ, ◌≤◌, Bool, true, false, not, nat_lt, Option, Some}
use Rattle.cap_objects.specs.declared.objects.Object.{Object}

-- an object is live, or a place holds it
abbrev pub is_present : Object → Bool
is_present object = not object.freed || nat_lt 0 object.held

-- new extents are compared with that of a present object if it has an address and the object is live; with `keeps`
-- also if it was freed
abbrev pub is_compared : Bool → Object → Bool
is_compared keeps object = object.long && (keeps || not object.freed)

-- present objects by their slots
abbrev pub Objects : Type 0
Objects = ℕ → Option Object

-- a table with another entry at one key
abbrev pub Sets : {A : Type 0} → (ℕ → Option A) → ℕ → Option A → (ℕ → Option A) → Type 0
Sets old key entry new = (new key ≡ entry) × ((other : ℕ) → other ≢ key → new other ≡ old other)

-- an extent of an address ends at its last one
abbrev pub AreLong : Objects → Type 0
AreLong objects = (slot : ℕ) (object : Object) → objects slot ≡ Some object → object.long ≡ true → object.base ≤ object.last

-- an extent shares an address with the addresses from a base to a last one
abbrev pub Meets : ℕ → ℕ → Object → Type 0
Meets base last object = (object.base ≤ last) × (base ≤ object.last)

-- an object in a slot is compared, isn't the one left out, and is live if that is asked
pub record IsAsked (keeps : Bool) (left_out : Option ℕ) (live : Bool) (slot : ℕ) (object : Object) : Type 0 where
  pub compared : is_compared keeps object ≡ true
  pub other : left_out ≢ Some slot
  pub lives : live ≡ true → object.freed ≡ false

-- no such object's extent shares an address with these
abbrev pub MeetsNone : Bool → Option ℕ → Bool → Objects → ℕ → ℕ → Type 0
MeetsNone keeps left_out live objects base last =
    (slot : ℕ) (object : Object) → objects slot ≡ Some object → IsAsked keeps left_out live slot object → Meets base last object → ⊥

-- of such objects whose extents share an address with these, the one in a slot has the least base
pub record IsFirstMet (keeps : Bool) (left_out : Option ℕ) (live : Bool) (objects : Objects) (base last slot : ℕ) : Type 0 where
  pub object : Object
  pub there : objects slot ≡ Some object
  pub asked : IsAsked keeps left_out live slot object
  pub meets : Meets base last object
  pub least : (other : ℕ) (it : Object) → objects other ≡ Some it → IsAsked keeps left_out live other it → Meets base last it
      → object.base ≤ it.base
