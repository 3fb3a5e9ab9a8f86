-- The verdict on an allocator's log (this profile's own, as are all below).
use Rattle.std.specs.Prelude.{◌≡◌, ℕ, ◌+◌, ◌-◌, ◌^◌, ◌<◌, Bool, true, not, List, [], ◌∷◌, ◌++◌, length, count_by, fold}
use Rattle.std.specs.Prelude.{Result, IfOk, IfErr}
use Rattle.cap_bounds.specs.declared.decoding.Interval.{Interval}
use Rattle.cap_streams.specs.{declared.judging.judge_faults.JudgeFault.{JudgeFault, TheVariants.{Pull, NoMemory}}, Front.IsCut}
use Rattle.cap_heap.specs.declared.{events.Event.{Event, TheVariants.Malloc}, lines.HeapLine.HeapLine}
use Rattle.cap_heap.specs.declared.{lines.HeapLine.TheVariants.{Happens, End}, report.HeapReport.HeapReport}
use Rattle.cap_heap.specs.declared.verdict.HeapVerdict.{HeapVerdict, TheVariants.{Yes, No}}
use Rattle.cap_heap.specs.{Events.{HasRoom, after_event, is_malloc}, HeapLines.{IsHeapLineInRange, heap_spelling}}
use Rattle.cap_heap.specs.HeapLogs.{IsHeapLogOf, IsFirstHeapFault, CanBeGuardedThroughout, heap_text_of}
use Rattle.cap_heap.specs.{HeapReports.IsReportOf, Objects.{no_objects, IsApart}}

-- a fact holds of the bytes, whatever follows them where their source has not ended
abbrev pub Lasts : List ℕ → Bool → (List ℕ → Type 0) → Type 0
Lasts bytes ended Fact = (more : List ℕ) → (ended ≡ true → more ≡ []) → Fact (bytes ++ more)

-- the verdict on these bytes: yes, where their source has ended, for a log of so many events, at each moment of which
-- the rounded bounds of the live objects lie apart and inside the root, and so many objects live at its end: those that
-- came to live and were not freed; and otherwise no with the first fault
abbrev pub IsHeapVerdictOf : List ℕ → Bool → HeapVerdict → Type 0
IsHeapVerdictOf bytes ended (Yes count live) = (ended ≡ true) × (lines : List HeapLine) × (root : Interval) × (events : List Event)
    × (bytes ≡ heap_text_of lines) × IsHeapLogOf IsApart lines root events × (count ≡ length events)
    × (live + count_by (λ event. not (is_malloc event)) events ≡ count_by is_malloc events)
IsHeapVerdictOf bytes ended (No line refusal) = Lasts bytes ended (λ all. IsFirstHeapFault all line refusal)

-- no choice of words does better: after a yes, at every moment sound words can be given to the live objects, with
-- bounds that hold them and lie apart and inside the root; after a no, the bytes are no log of which this could be said
abbrev pub IsOptimal : List ℕ → Bool → HeapVerdict → Type 0
IsOptimal bytes ended (Yes events live) = CanBeGuardedThroughout bytes
IsOptimal bytes ended (No line refusal) = Lasts bytes ended (λ all. CanBeGuardedThroughout all → ⊥)

-- the whole lines are the first ones of a log, and less than a line follows them
pub record BeginsHeapLog (bytes : List ℕ) : Type 0 where
  pub root : Interval
  pub events : List Event
  pub before : List HeapLine
  pub due : List HeapLine
  pub rest : List ℕ
  pub log : IsHeapLogOf IsApart (before ++ due) root events
  pub bytes_are : bytes ≡ heap_text_of before ++ rest
  pub cut : IsCut rest

-- the bytes are the text of a log up to its end line, the line of an object that comes to live and that no
-- check refuses, and what comes after it
pub record MayLackHeapMemory (bytes : List ℕ) : Type 0 where
  pub root : Interval
  pub events : List Event
  pub before : List HeapLine
  pub address : ℕ
  pub size : ℕ
  pub more : List ℕ
  pub log : IsHeapLogOf IsApart (before ++ End (length events) ∷ []) root events
  pub bytes_are : bytes ≡ heap_text_of before ++ (heap_spelling (Happens (Malloc address size)) ++ 10 ∷ more)
  pub range : IsHeapLineInRange (Happens (Malloc address size))
  pub few : length events < 2 ^ 32 - 1
  pub room : HasRoom root (fold after_event no_objects events) address size

-- why there is no verdict: the source failed behind whole lines that begin a log, or there was no memory for such an
-- object
abbrev pub NoHeapVerdictIn : List ℕ → JudgeFault → Type 0
NoHeapVerdictIn bytes Pull = BeginsHeapLog bytes
NoHeapVerdictIn bytes NoMemory = MayLackHeapMemory bytes

-- what an answer says of the bytes given, and of whether their source has ended
pub record IsHeapAnswerOf (bytes : List ℕ) (ended : Bool) (result : Result HeapVerdict JudgeFault) : Type 0 where
  pub verdict : IfOk result (IsHeapVerdictOf bytes ended)
  pub optimal : IfOk result (IsOptimal bytes ended)
  pub fault : IfErr result (NoHeapVerdictIn bytes)

-- an answer is that of the bytes that the source gave in the call
pub record HeapJudged {S : Type 0} (gave : S → S → List ℕ → Type 0) (ended : S → Bool) (old new : S)
    (result : Result HeapVerdict JudgeFault) : Type 0 where
  pub given : List ℕ
  pub gives : gave old new given
  pub answer : IsHeapAnswerOf given (ended new) result

-- after a yes, a report is that of the log that the bytes are
abbrev pub ReportsAfter : List ℕ → HeapReport → HeapVerdict → Type 0
ReportsAfter bytes report (Yes events live) = (lines : List HeapLine) × (root : Interval) × (happened : List Event)
    × (bytes ≡ heap_text_of lines) × IsHeapLogOf IsApart lines root happened × IsReportOf report happened
ReportsAfter bytes report (No line refusal) = Unit {0}
