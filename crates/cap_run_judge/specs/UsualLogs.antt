-- Logs of version 2, read as run logs. All of it is this profile's own.
use Rattle.std.specs.Prelude.{◌≡◌, ◌≢◌, ℕ, List, ◌∷◌, ◌++◌}
use Rattle.std.specs.List.{AllByRecursion}
use Rattle.cap_ops.specs.declared.refusal.Refusal.TheVariants.{LimitPassed}
use Rattle.cap_log.specs.{declared.lines.Line.Line, Lines.IsInRange}
use Rattle.cap_judge.specs.{Logs.text_of, declared.verdict.Verdict.{Verdict, TheVariants.{No, Yes}}}
use Rattle.cap_run_log.specs.{declared.lines.RunLine.RunLine, RunLines.SpellsRun, UsualLines.IsUsualLine}
use Rattle.cap_run.specs.declared.ends.RunRefusal.TheVariants.{Usual}
use Rattle.cap_run_judge.specs.declared.verdict.RunVerdict.{RunVerdict}
use Rattle.cap_run_judge.specs.declared.verdict.RunVerdict.TheVariants as runs

-- no line of the bytes, after lines that logs have, is one that only run logs have
abbrev pub AreUsual : List ℕ → Type 0
AreUsual bytes = (lines : List Line) (text more : List ℕ) (line : RunLine) → AllByRecursion IsInRange lines
    → bytes ≡ text_of lines ++ text ++ 10 ∷ more → SpellsRun text line → IsUsualLine line

-- the verdict on a run log that says the same: no object was handed out
abbrev pub as_run_verdict : Verdict → RunVerdict
as_run_verdict (Yes steps roots) = runs.Yes steps roots 0
as_run_verdict (No line refusal) = runs.No line (Usual refusal)

-- no limit of logs is passed
abbrev pub NamesNoLimit : Verdict → Type 0
NamesNoLimit (Yes steps roots) = Unit {0}
NamesNoLimit (No line refusal) = refusal ≢ LimitPassed
