-- Why a step of a run was not made, as a text (this profile's own).
use Rattle.std.specs.Prelude.{ℕ, List, codes}
use Rattle.cap_run.specs.declared.ends.RunEnd.{RunEnd, TheVariants.{Refused, NoMemory}}

abbrev pub run_end_text : RunEnd → List ℕ
run_end_text (Refused refusal) = codes "a check of the step fails"
run_end_text NoMemory = codes "out of memory"
