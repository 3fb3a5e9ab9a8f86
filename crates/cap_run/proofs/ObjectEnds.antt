-- How steps that hand out objects, widen them and free them end, where objects are told by their slots.
use Rattle.std.proofs.Common.{◌≡◌, ◌⊎◌, ℕ, ◌+◌, Bool, true, false, MatchOption, IsSomeAnd, Some, None}
use Rattle.std.specs.Prelude.{IsSomeAnd}
use Rattle.cap_bounds.specs.Bounds.{base_of, top_of}
use Rattle.cap_objects.specs.{Counts.at_key, Handed.{AddsObject, HasNoLive, IsLive, handed_out, with_held}}
use Rattle.cap_objects.specs.declared.handouts.NumberFault.TheVariants as numbers
use Rattle.cap_run.specs.declared.ends.RunEnd.{RunEnd, TheVariants.Refused}
use Rattle.cap_run.specs.declared.ends.RunRefusal.TheVariants.{AlreadyFreed, NoCapability, NoObject, NoOwner, Usual}
use Rattle.cap_run.specs.{ObjectSteps.{ExtentEnds, WidenEnds, first_holders, object_refusal}, Owned.owner_for, Run.{Run, moment}, RunSteps.step_limit}

-- why `object cN` is refused
abbrev pub ObjectEnds : Run → Bool → ℕ → RunEnd → Type 0
ObjectEnds old keeps register end =
    MatchOption (object_refusal old register)
    (ExtentEnds old keeps None (base_of (old.state register).word.0) (top_of (old.state register).word.0) end)
    (λ refusal. end ≡ Refused refusal)

-- why a number is that of no live object
abbrev pub NumberEnds : Run → ℕ → RunEnd → Type 0
NumberEnds old number (Refused NoObject) = HasNoLive old.count old.objects number numbers.NoObject
NumberEnds old number (Refused AlreadyFreed) = HasNoLive old.count old.objects number numbers.AlreadyFreed
NumberEnds old number end = ⊥

-- why `object cN K` is refused
abbrev pub AgainEnds : Run → Bool → ℕ → ℕ → RunEnd → Type 0
AgainEnds old keeps register number end =
    MatchOption (object_refusal old register)
    (NumberEnds old number end ⊎ ((slot : ℕ) × IsLive old.objects number slot × WidenEnds old keeps register slot end))
    (λ refusal. end ≡ Refused refusal)

-- `object cN`: an object of the next number, in a slot that none had, with the bounds of what the register holds as its
-- extent; it is live, and owns the register unless they are empty
pub record HandsOut (old : Run) (register slot : ℕ) (new : Run) : Type 0 where
  pub adds : (let cap = old.state register in AddsObject old.objects slot
      (with_held (handed_out (old.count + 1) (moment old) (base_of cap.word.0) (top_of cap.word.0)) (first_holders cap)) new.objects)
  pub state : new.state ≡ old.state
  pub owners : (other : ℕ) → new.owners other ≡ at_key old.owners register (owner_for (old.state register) (Some slot)) other
  pub count : new.count ≡ old.count + 1
  pub harts : new.harts ≡ old.harts
  pub rules : new.rules ≡ old.rules
  pub limits : new.limits ≡ old.limits
  pub roots : new.roots ≡ old.roots
  pub steps : new.steps ≡ old.steps + 1
  pub is_named : new.is_named ≡ old.is_named
  pub granules : new.granules ≡ old.granules

-- why `free cN` is refused
abbrev pub FreeEnds : Run → ℕ → RunEnd → Type 0
FreeEnds old register (Refused NoCapability) = (old.state register).tag ≡ false
FreeEnds old register (Refused NoOwner) = ((old.state register).tag ≡ true) × (old.owners register ≡ None)
FreeEnds old register (Refused AlreadyFreed) =
    (slot : ℕ) × (old.owners register ≡ Some slot) × IsSomeAnd (old.objects slot) (λ object. object.freed ≡ true)
FreeEnds old register (Refused (Usual refusal)) =
    (slot : ℕ) × (old.owners register ≡ Some slot) × IsSomeAnd (old.objects slot) (λ object. object.freed ≡ false)
    × (step_limit old ≡ Some (Usual refusal))
FreeEnds old register end = ⊥

-- why `free K` is refused
abbrev pub FreeNumberEnds : Run → ℕ → RunEnd → Type 0
FreeNumberEnds old number (Refused (Usual refusal)) = ((slot : ℕ) × IsLive old.objects number slot) × (step_limit old ≡ Some (Usual refusal))
FreeNumberEnds old number end = NumberEnds old number end
