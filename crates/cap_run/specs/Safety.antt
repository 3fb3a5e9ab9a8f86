-- What is safe at each moment of a run (this profile's own).
use Rattle.std.specs.Prelude.{◌≡◌, ◌≢◌, ℕ, Bool, false, IsTrue, Some}
use Rattle.cap_bounds.specs.Bounds.{base_of, top_of}
use Rattle.cap_objects.specs.{Counts.owned_by, declared.objects.Object.Object, Extents.is_present, Objects.{Share, top_of_extent}}
use Rattle.cap_run.specs.{Owned.IsWithin, Run.Run}

-- an object is one of those whose extents are kept apart: each present one, or where extents of freed ones aren't
-- compared each live one
abbrev pub IsKeptApart : Bool → Object → Type 0
IsKeptApart keeps object = keeps ≡ false → object.freed ≡ false

-- no address lies in the extents of two objects, nor in what two capabilities of two objects reach
pub record IsSafe (keeps : Bool) (run : Run) : Type 0 where
  -- what an object owns is tagged, and has bounds inside the extent of the object, which is present
  pub within : (place slot : ℕ) → run.owners place ≡ Some slot
      → (object : Object) × (run.objects slot ≡ Some object) × IsTrue (is_present object) × IsWithin (run.state place) object
  pub extents : (one two : ℕ) (a b : Object) → run.objects one ≡ Some a → run.objects two ≡ Some b → one ≢ two → IsKeptApart keeps a
      → IsKeptApart keeps b → Share a.base (top_of_extent a) b.base (top_of_extent b) → ⊥
  pub reach : (place other one two : ℕ) (a b : Object) → run.owners place ≡ Some one → run.owners other ≡ Some two → one ≢ two
      → run.objects one ≡ Some a → run.objects two ≡ Some b → IsKeptApart keeps a → IsKeptApart keeps b
      → (let w = (run.state place).word.0 in let v = (run.state other).word.0 in Share (base_of w) (top_of w) (base_of v) (top_of v) → ⊥)
  -- an object's number is its own, and its count is that of the places that it owns
  pub alone : (one two : ℕ) (a b : Object) → run.objects one ≡ Some a → run.objects two ≡ Some b → a.number ≡ b.number → one ≡ two
  pub held : (slot : ℕ) (object : Object) → run.objects slot ≡ Some object → object.held ≡ owned_by run.owners slot
