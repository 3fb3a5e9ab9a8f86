-- What a judge answers at the line where it stops (this profile's own).
use Rattle.std.specs.Prelude.{ℕ, Bool, List, Result, Ok, Err, IfOk}
use Rattle.cap_streams.specs.declared.judging.judge_faults.JudgeFault.{JudgeFault, TheVariants.NoMemory}
use Rattle.cap_heap.specs.declared.{events.EventEnd.EventEnd, progress.Progress.Progress}
use Rattle.cap_heap.specs.declared.refusal.HeapRefusal.{HeapRefusal, TheVariants.{Misplaced, Truncated}}
use Rattle.cap_heap.specs.declared.{log_parts.LogPart.{LogPart, TheVariants.Ended}, verdict.HeapVerdict.HeapVerdict}
use Rattle.cap_heap.specs.declared.verdict.HeapVerdict.TheVariants.{Yes, No}
use Rattle.cap_heap.specs.{HeapVerdicts.{HeapJudged, Lasts, ReportsAfter}, Progresses.IsStopped}
use Rattle.cap_heap.specs.declared.events.EventEnd.TheVariants as ends

-- what a line that is not taken makes the answer
abbrev pub answer_at : ℕ → EventEnd → Result HeapVerdict JudgeFault
answer_at line (ends.Refused refusal) = Ok (No line refusal)
answer_at line ends.NoMemory = Err NoMemory

-- the verdict on a line that is too long or cut: after the end line it is misplaced
abbrev pub refused_in : LogPart → ℕ → HeapRefusal → HeapVerdict
refused_in Ended line refusal = No line Misplaced
refused_in stage line refusal = No line refusal

-- the verdict where the bytes end at a line's start: a yes after the end line
abbrev pub finished_in : LogPart → ℕ → ℕ → ℕ → HeapVerdict
finished_in Ended events live line = Yes events live
finished_in stage events live line = No line Truncated

-- where a judge stopped that answers no
abbrev pub StopsAfter : List ℕ → Bool → Progress → List ℕ → HeapVerdict → Type 0
StopsAfter bytes ended progress text (Yes events live) = Unit {0}
StopsAfter bytes ended progress text (No line refusal) = Lasts bytes ended (λ all. IsStopped all progress text line refusal)

-- an answer with what was read, and after a no the line that was refused
pub record JudgedBy {S : Type 0} (gave : S → S → List ℕ → Type 0) (ended : S → Bool) (old new : S)
    (result : Result HeapVerdict JudgeFault) (progress : Progress) (text : List ℕ) : Type 0 where
  pub judged : HeapJudged gave ended old new result
  pub reported : IfOk result (ReportsAfter judged.given progress.report)
  pub stopped : IfOk result (StopsAfter judged.given (ended new) progress text)
