-- What a step leaves of authority: each tagged capability after it reaches no more than the one that it comes from.
use Rattle.std.specs.Prelude.{◌≡◌, ℕ, Some, IsTrue}
use Rattle.cap_word.specs.declared.word.Cap.{Cap}
use Rattle.cap_bounds.specs.Bounds.{IsSound}
use Rattle.cap_ops.specs.Authority.{ReachesNoMore}
use Rattle.cap_log.specs.declared.kinds.Step.{Step}
use Rattle.cap_machine.specs.{Runs.parent_of, States.State}

-- a capability is sound where it is tagged (this profile's own, as are all below)
abbrev pub IsSoundCap : Cap → Type 0
IsSoundCap cap = IsTrue cap.tag → IsSound cap.word.0

-- each tagged capability of a state is sound
abbrev pub IsSoundState : State → Type 0
IsSoundState state = (key : ℕ) → IsSoundCap (state key)

-- what a place holds after a step comes from what another, or the same, held before it: that was tagged, and the new
-- word is sound, with bounds inside and permissions among those of the old one
pub record ComesFrom (old : State) (step : Step) (new : State) (key from : ℕ) : Type 0 where
  pub parent : parent_of old step new key ≡ Some from
  pub tag : IsTrue (old from).tag
  pub no_more : ReachesNoMore (new key).word.0 (old from).word.0
  pub sound : IsSound (new key).word.0

-- each place that is tagged after a step comes so from one before it
abbrev pub StaysWithinParents : State → Step → State → Type 0
StaysWithinParents old step new = (key : ℕ) → IsTrue (new key).tag → (from : ℕ) × ComesFrom old step new key from
