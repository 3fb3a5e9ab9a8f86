-- Steps that hand out objects, widen them and free them (this profile's own).
use Rattle.std.specs.Prelude.{◌≡◌, ℕ, ◌+◌, Bool, false, ◌&&◌, not, min, max, if◌then◌else◌, is_some, IsSomeAnd, Option, Some, None}
use Rattle.cap_word.specs.declared.word.Cap.{Cap}
use Rattle.cap_bounds.specs.Bounds.{base_of, top_of}
use Rattle.cap_ops.specs.{Permissions.is_sealed}
use Rattle.cap_objects.specs.{Counts.at_key, declared.objects.Object.Object, Extents.Sets, Indexes.kept, Objects.top_of_extent}
use Rattle.cap_objects.specs.Handed.{HasRoom, RefusesExtent, freed_in, widened, with_held}
use Rattle.cap_objects.specs.declared.handouts.HandOutFault.{HandOutFault}
use Rattle.cap_objects.specs.declared.handouts.HandOutFault.TheVariants as hand
use Rattle.cap_run.specs.declared.ends.RunEnd.{RunEnd, TheVariants.{Refused, NoMemory}}
use Rattle.cap_run.specs.declared.ends.RunRefusal.TheVariants.{Usual, Overlaps, StillHeld, NoCapability, HasOwner}
use Rattle.cap_run.specs.{declared.ends.RunRefusal.RunRefusal, Owned.{is_empty, owner_for}, Run.{Run, moment}, RunSteps.{IsStepped, step_limit}}

-- a capability that can be handed out: tagged and unsealed
abbrev pub is_capability : Cap → Bool
is_capability cap = cap.tag && not (is_sealed cap.word.0)

-- how a step ends where an interval can't be an extent
abbrev pub ended : HandOutFault → RunEnd
ended (hand.Overlaps slot) = Refused Overlaps
ended (hand.StillHeld slot) = Refused StillHeld
ended hand.NoMemory = NoMemory

-- why an interval becomes no extent: it meets that of a live object, or else of a freed one that is held; or there are
-- too many steps; or there was no memory
abbrev pub ExtentEnds : Run → Bool → Option ℕ → ℕ → ℕ → RunEnd → Type 0
ExtentEnds old keeps left_out base top (Refused Overlaps) = (slot : ℕ) × RefusesExtent keeps left_out old.objects base top (hand.Overlaps slot)
ExtentEnds old keeps left_out base top (Refused StillHeld) = (slot : ℕ) × RefusesExtent keeps left_out old.objects base top (hand.StillHeld slot)
ExtentEnds old keeps left_out base top (Refused (Usual refusal)) =
    HasRoom keeps left_out old.objects base top × (step_limit old ≡ Some (Usual refusal))
ExtentEnds old keeps left_out base top NoMemory = HasRoom keeps left_out old.objects base top × (step_limit old ≡ None)
ExtentEnds old keeps left_out base top end = ⊥

-- why a register can't be an object's: it holds no capability that can be handed out, or it has an owner
abbrev pub object_refusal : Run → ℕ → Option RunRefusal
object_refusal old register =
    if is_capability (old.state register) then (if is_some (old.owners register) then Some HasOwner else None) else Some NoCapability

-- why the extent of the object in a slot isn't widened
abbrev pub WidenEnds : Run → Bool → ℕ → ℕ → RunEnd → Type 0
WidenEnds old keeps register slot end = (object : Object) → old.objects slot ≡ Some object → let w = (old.state register).word.0 in
    ExtentEnds old keeps (Some slot) (min object.base (base_of w)) (max (top_of_extent object) (top_of w)) end

-- the extent of the object in a slot can be widened
abbrev pub CanWiden : Run → Bool → ℕ → ℕ → Type 0
CanWiden old keeps register slot = (object : Object) → old.objects slot ≡ Some object → let w = (old.state register).word.0 in
    HasRoom keeps (Some slot) old.objects (min object.base (base_of w)) (max (top_of_extent object) (top_of w))

-- how many places hold an object that a capability was handed out as: none where its bounds are empty
abbrev pub first_holders : Cap → ℕ
first_holders cap = if is_empty cap.word.0 then 0 else 1

-- `object cN K`: the extent of the live object becomes the least that holds it and the bounds of what the register holds,
-- which it owns as well unless they are empty
pub record Widens (old : Run) (register slot : ℕ) (new : Run) : Type 0 where
  pub objects : (object : Object) → old.objects slot ≡ Some object → let cap = old.state register in
      Sets old.objects slot (Some (with_held (widened object (base_of cap.word.0) (top_of cap.word.0)) (object.held + first_holders cap))) new.objects
  pub state : new.state ≡ old.state
  pub owners : (other : ℕ) → new.owners other ≡ at_key old.owners register (owner_for (old.state register) (Some slot)) other
  pub rest : IsStepped old new

-- `free`: the live object in a slot is freed, and gone if no place holds it
pub record Frees (old : Run) (slot : ℕ) (new : Run) : Type 0 where
  pub live : IsSomeAnd (old.objects slot) (λ object. object.freed ≡ false)
  pub objects : (object : Object) → old.objects slot ≡ Some object → Sets old.objects slot (kept (freed_in (moment old) object)) new.objects
  pub state : new.state ≡ old.state
  pub owners : new.owners ≡ old.owners
  pub rest : IsStepped old new
