-- The line of a verdict on an allocator's log, and what a judge that writes it answers and writes (this profile's own,
-- as are all below).
use Rattle.std.specs.Prelude.{◌≡◌, ℕ, Bool, true, false, List, [], ◌++◌, take, codes, decimal, Result, Ok, Err}
use Rattle.cap_streams.specs.declared.judging.judge_faults.JudgeToFault.{JudgeToFault, TheVariants.{Pull, NoMemory, Push}}
use Rattle.cap_streams.specs.declared.judging.judge_faults.JudgeFault.TheVariants as faults
use Rattle.cap_heap.specs.declared.{report.HeapReport.HeapReport, verdict.HeapVerdict.HeapVerdict}
use Rattle.cap_heap.specs.{declared.verdict.HeapVerdict.TheVariants.{Yes, No}, HeapReports.report_lines}
use Rattle.cap_heap.specs.{HeapVerdicts.{IsHeapAnswerOf, Lasts, ReportsAfter}, HeapWhys.IsHeapReport}
use Rattle.cap_heap.specs.Refusals.{heap_refusal_number, heap_refusal_name}

-- the verdict in words and decimal numbers, with its line feed
abbrev pub heap_line : HeapVerdict → List ℕ
heap_line (Yes events live) = codes "yes " ++ decimal events ++ codes " " ++ decimal live ++ codes "\n"
heap_line (No line refusal) =
    codes "no " ++ decimal line ++ codes " " ++ decimal (heap_refusal_number refusal) ++ codes " " ++ heap_refusal_name refusal ++ codes "\n"

-- the exit status of a verdict
abbrev pub heap_status : HeapVerdict → ℕ
heap_status (Yes events live) = 0
heap_status (No line refusal) = 1

-- the text that belongs to a verdict on bytes: its line, and where it is asked for, after a yes the report of the log,
-- and after a no that of the line that was refused
abbrev pub TellsHeap : Bool → Bool → List ℕ → Bool → HeapVerdict → List ℕ → Type 0
TellsHeap false why bytes ended (Yes events live) text = text ≡ heap_line (Yes events live)
TellsHeap true why bytes ended (Yes events live) text =
    (report : HeapReport) × ReportsAfter bytes report (Yes events live) × (text ≡ heap_line (Yes events live) ++ report_lines report)
TellsHeap reports false bytes ended (No line refusal) text = text ≡ heap_line (No line refusal)
TellsHeap reports true bytes ended (No line refusal) text =
    (report : List ℕ) × Lasts bytes ended (λ all. IsHeapReport all line refusal report) × (text ≡ heap_line (No line refusal) ++ report)

-- with a verdict its text was taken, without one nothing, and where the sink failed a beginning of the text
abbrev pub IsHeapTold : Bool → Bool → List ℕ → Bool → (List ℕ → Type 0) → Result HeapVerdict JudgeToFault → Type 0
IsHeapTold reports why bytes ended took (Ok verdict) =
    IsHeapAnswerOf bytes ended (Ok verdict) × (text : List ℕ) × TellsHeap reports why bytes ended verdict text × took text
IsHeapTold reports why bytes ended took (Err Pull) = IsHeapAnswerOf bytes ended (Err faults.Pull) × took []
IsHeapTold reports why bytes ended took (Err NoMemory) = IsHeapAnswerOf bytes ended (Err faults.NoMemory) × took []
IsHeapTold reports why bytes ended took (Err Push) =
    (verdict : HeapVerdict) × IsHeapAnswerOf bytes ended (Ok verdict) × (text : List ℕ) × TellsHeap reports why bytes ended verdict text
    × (n : ℕ) × took (take n text)

-- an answer is that of the bytes that the source gave in the call, and of those that the sink took
pub record Told {S K : Type 0} (reports why : Bool) (gave : S → S → List ℕ → Type 0) (ended : S → Bool) (took : K → K → List ℕ → Type 0)
    (old new : S) (before after : K) (result : Result HeapVerdict JudgeToFault) : Type 0 where
  pub given : List ℕ
  pub gives : gave old new given
  pub told : IsHeapTold reports why given (ended new) (took before after) result
