-- What a judge that explains a no writes (this profile's own).
use Rattle.std.specs.Prelude.{◌≡◌, ℕ, Bool, true, false, List, [], ◌++◌, Option, None, Some, if◌then◌else◌}
use Rattle.cap_machine.specs.Helds.{Held, account_of}
use Rattle.cap_judge.specs.{declared.verdict.Verdict.{Verdict, TheVariants.{Yes, No}}, Judgings.IsVerdictOf}
use Rattle.cap_judge.specs.{OriginLists.report_text, Readings.BeginsWhole, Reports.Tells, VerdictLines.verdict_line}
use Rattle.cap_report.specs.FaultReports.{IsLineReport, IsReport}

-- the text that belongs to a verdict on bytes, with the report of a no: after a yes it is that of a judge that may be
-- asked for origins, and after a no the verdict's line and the report of the first fault, which stands whatever bytes
-- follow where the source has not ended
abbrev pub Explains : Bool → List ℕ → Bool → Verdict → List ℕ → Type 0
Explains origins bytes ended (Yes steps roots) text = Tells origins bytes (Yes steps roots) text
Explains origins bytes ended (No line refusal) text =
    (report : List ℕ) × ((more : List ℕ) → (ended ≡ true → more ≡ []) → IsReport (bytes ++ more) line refusal report)
    × (text ≡ verdict_line (No line refusal) ++ report)

-- the text of a verdict by what the machine holds and the line that was refused
abbrev pub IsWhyText : Bool → Held → List ℕ → Verdict → List ℕ → Type 0
IsWhyText origins held line (Yes steps roots) told =
    told ≡ (if origins then report_text held (Yes steps roots) else verdict_line (Yes steps roots))
IsWhyText origins held line (No number refusal) told =
    (report : List ℕ) × IsLineReport (account_of held) line refusal report × (told ≡ verdict_line (No number refusal) ++ report)

-- the text of how a log stands that begins with these bytes: none while no line of theirs is at fault, and otherwise
-- that of a judge that explains the no, which stands whatever bytes follow
abbrev pub ExplainsSoFar : List ℕ → Option Verdict → List ℕ → Type 0
ExplainsSoFar bytes None text = BeginsWhole bytes × (text ≡ [])
ExplainsSoFar bytes (Some verdict) text = IsVerdictOf bytes false verdict × Explains false bytes false verdict text

-- the text of the verdict on these bytes as a whole log, as a judge that explains writes it without origins
abbrev pub ExplainsEnd : List ℕ → Verdict → List ℕ → Type 0
ExplainsEnd bytes verdict text = IsVerdictOf bytes true verdict × Explains false bytes true verdict text
