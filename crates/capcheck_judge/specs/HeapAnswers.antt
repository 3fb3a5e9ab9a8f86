-- What the judge of allocators' logs answers to C (this profile's own, as are all below).
use Rattle.std.specs.Prelude.{◌≡◌, ℕ, true, List, [], Option, None, Some, Ok, Err}
use Rattle.cap_streams.specs.declared.judging.judge_faults.JudgeFault.TheVariants.{NoMemory}
use Rattle.cap_heap.specs.declared.verdict.HeapVerdict.{HeapVerdict, TheVariants.{Yes, No}}
use Rattle.cap_heap.specs.{HeapVerdicts.IsHeapAnswerOf, Refusals.heap_refusal_number, VerdictLines.TellsHeap}
use Rattle.cap_report.specs.Texts.{IsTold}
use Rattle.capcheck_judge.specs.declared.heaps.{HeapAnswer.HeapAnswer, HeapWhy.HeapWhy}

-- an answer that is no verdict, and says why by this number
abbrev pub heap_without_verdict : ℕ → HeapAnswer
heap_without_verdict state_is = record { line = 0; live = 0; events = 0; state = state_is; refusal = 0 }

-- a verdict in numbers: the state 1 is a yes, and 2 a no
abbrev pub heap_numbers_of : HeapVerdict → HeapAnswer
heap_numbers_of (Yes event_count live_count) = record { line = 0; live = live_count; events = event_count; state = 1; refusal = 0 }
heap_numbers_of (No number why) = record { line = number; live = 0; events = 0; state = 2; refusal = heap_refusal_number why }

-- the answer on all the bytes of an allocator's log is this verdict with this text; or there is none, and no text, since
-- memory was wanted for an object
abbrev pub IsHeapAnswered : List ℕ → Option HeapVerdict → List ℕ → HeapAnswer → Type 0
IsHeapAnswered bytes (Some verdict) text answer =
    IsHeapAnswerOf bytes true (Ok verdict) × TellsHeap true true bytes true verdict text × (answer ≡ heap_numbers_of verdict)
IsHeapAnswered bytes None text answer =
    IsHeapAnswerOf bytes true (Err NoMemory) × (text ≡ []) × (answer ≡ heap_without_verdict 3)

-- C gets the verdict on these bytes, and its text, where there is room for it
pub record AnswersHeapWhy (bytes old new : List ℕ) (why : HeapWhy) : Type 0 where
  pub verdict : Option HeapVerdict
  pub text : List ℕ
  pub answered : IsHeapAnswered bytes verdict text why.answer
  pub told : IsTold 0 why.length text old new
