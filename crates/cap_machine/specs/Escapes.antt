-- When a step that sets bounds is refused for them, or loses its tag.
use Rattle.std.specs.Prelude.{◌≡◌, ◌≢◌, ◌↔◌, ℕ, suc, List, Option, Some, None, IsTrue, IsFalse, slice_get}
use Rattle.cap_ops.specs.{Operations.HasRoomFor, Permissions.is_sealed}
use Rattle.cap_log.specs.declared.kinds.Step.{Step, TheVariants.SetBounds}
use Rattle.cap_machine.specs.{declared.rules.Rules.{Rules, TheVariants.TwoClear}, Runs.state_at}
use Rattle.cap_machine.specs.{States.{State, DeclaredRoot, start}, Steps.asked_by}

-- the requested bounds, before rounding, do not lie inside those of a tagged, unsealed source
abbrev pub AsksBeyond : State → Option (ℕ × ℕ) → Type 0
AsksBeyond state None = ⊥
AsksBeyond state (Some asked) =
    IsTrue (state asked.0).tag × IsFalse (is_sealed (state asked.0).word.0) × (HasRoomFor (state asked.0) asked.1 → ⊥)

-- a step is refused for its bounds: by strict rules, if it asks for bounds beyond its source's (the check of
-- CSetBounds, UCAM-CL-TR-987)
abbrev pub Escapes : Rules → State → Step → Type 0
Escapes rules state step = (rules ≢ TwoClear) × AsksBeyond state (asked_by step)

-- in clear mode, new bounds of a tagged, unsealed source that may be rounded lose its tag exactly where they do not lie
-- inside the source's
abbrev pub ClearsBeyond : Rules → State → Step → State → Type 0
ClearsBeyond rules old (SetBounds step) new =
    rules ≡ TwoClear → IsTrue (old step.source).tag → IsFalse (is_sealed (old step.source).word.0)
    → IsFalse (new step.target).tag ↔ (HasRoomFor (old step.source) step.number → ⊥)
ClearsBeyond rules old step new = Unit {0}

-- the same of each step of a run, from the state at its moment to the next
abbrev pub ClearsExactly : Rules → List DeclaredRoot → List Step → List State → Type 0
ClearsExactly rules roots steps states =
    (moment : ℕ) (step : Step) → slice_get steps moment ≡ Some step
    → ClearsBeyond rules (state_at (start roots) states moment) step (state_at (start roots) states (suc moment))
