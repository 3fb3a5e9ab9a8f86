-- Why a root or a step was not made, as a text (this profile's own).
use Rattle.std.specs.Prelude.{ℕ, List, codes}
use Rattle.cap_ops.specs.Refusals.{refusal_name}
use Rattle.cap_machine.specs.declared.ends.StepEnd.{StepEnd, TheVariants.{Refused, NoMemory}}

-- the name of the first check that fails, or that there was no memory
abbrev pub step_end_text : StepEnd → List ℕ
step_end_text (Refused refusal) = refusal_name refusal
step_end_text NoMemory = codes "out of memory"
