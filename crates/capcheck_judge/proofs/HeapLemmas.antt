-- What an answer on the bytes that were given of an allocator's log says of all its bytes.
use Rattle.std.proofs.Common.{◌≡◌, ◌≢◌, ℕ, Bool, true, List, [], ◌++◌, refl, sym, ap, subst, ◌∙◌, append-nil, append_assoc}
use Rattle.std.proofs.Common.{Ok, Err, Option, Some, None}
use Rattle.cap_streams.specs.declared.judging.judge_faults.JudgeToFault.{JudgeToFault}
use Rattle.cap_heap.specs.declared.verdict.HeapVerdict.{HeapVerdict, TheVariants.{Yes, No}}
use Rattle.cap_heap.specs.HeapVerdicts.{IsHeapAnswerOf, Lasts, MayLackHeapMemory}
use Rattle.cap_heap.specs.{HeapLogs.{CanBeGuardedThroughout, IsFirstHeapFault}, HeapWhys.IsHeapReport, VerdictLines.{IsHeapTold, TellsHeap}}
use Rattle.capcheck_judge.specs.HeapAnswers.{IsHeapAnswered, heap_numbers_of, heap_without_verdict}
use Rattle.capcheck_judge.specs.declared.heaps.HeapAnswer.{HeapAnswer}

-- what lasts with any bytes after those given is so of all bytes
lasts_for_all : (Fact : List ℕ → Type 0) (given rest : List ℕ) (ended : Bool) → (ended ≡ true → rest ≡ []) → Lasts given ended Fact
    → Lasts (given ++ rest) true Fact
lasts_for_all Fact given rest ended end lasts = λ more is.
    subst Fact (ap (λ (m : List ℕ). (given ++ rest) ++ m) (sym (is refl)))
    (subst Fact (sym (append-nil (given ++ rest))) (lasts rest end))

-- a text and its verdict
told_of_all : (given rest : List ℕ) (ended : Bool) (verdict : HeapVerdict) (text : List ℕ) → (ended ≡ true → rest ≡ [])
    → IsHeapAnswerOf given ended (Ok verdict) → TellsHeap true true given ended verdict text
    → IsHeapAnswerOf (given ++ rest) true (Ok verdict) × TellsHeap true true (given ++ rest) true verdict text
told_of_all given rest ended (Yes events live) text end answer tells =
    let v = answer.verdict in
    let all = sym (ap (λ (r : List ℕ). given ++ r) (end v.0) ∙ append-nil given) in
    subst (λ (b : List ℕ). IsHeapAnswerOf b true (Ok (Yes events live)) × TellsHeap true true b true (Yes events live) text) all
    (record { verdict = (refl, v.1, v.2, v.3, v.4, v.5, v.6, v.7); optimal = answer.optimal; fault = tt }, tells)
told_of_all given rest ended (No line refusal) text end answer tells = (
  record {
    verdict = lasts_for_all (λ all. IsFirstHeapFault all line refusal) given rest ended end answer.verdict;
    optimal = lasts_for_all (λ all. CanBeGuardedThroughout all → ⊥) given rest ended end answer.optimal;
    fault = tt;
  },
  (tells.0, lasts_for_all (λ all. IsHeapReport all line refusal tells.0) given rest ended end tells.1, tells.2),
)

-- want of memory, with more bytes after it
lack_of_all : (given rest : List ℕ) → MayLackHeapMemory given → MayLackHeapMemory (given ++ rest)
lack_of_all given rest lack = record {
  root = lack.root;
  events = lack.events;
  before = lack.before;
  address = lack.address;
  size = lack.size;
  more = lack.more ++ rest;
  log = lack.log;
  bytes_are = ap (λ (b : List ℕ). b ++ rest) lack.bytes_are ∙ simp (append_assoc);
  range = lack.range;
  few = lack.few;
  room = lack.room;
}

module _ (bytes given rest : List ℕ) (ended : Bool) (took : List ℕ → Type 0) (are : bytes ≡ given ++ rest) (end : ended ≡ true → rest ≡ [])
    (answer : HeapAnswer) where
  -- the answer of a verdict
  pub heap_answered : (verdict : HeapVerdict) → answer ≡ heap_numbers_of verdict → IsHeapTold true true given ended took (Ok verdict)
      → (found : Option HeapVerdict) × (text : List ℕ) × IsHeapAnswered bytes found text answer × took text
  heap_answered verdict is told =
      let all = told_of_all given rest ended verdict told.1 end told.0 told.2 in (
        Some verdict,
        told.1,
        (
          subst (λ (b : List ℕ). IsHeapAnswerOf b true (Ok verdict)) (sym are) all.0,
          subst (λ (b : List ℕ). TellsHeap true true b true verdict told.1) (sym are) all.1,
          is,
        ),
        told.3,
      )

  -- there is no other fault than want of memory, and then there is no text
  pub heap_lacking : (fault : JudgeToFault) → fault ≢ JudgeToFault.Pull → fault ≢ JudgeToFault.Push → answer ≡ heap_without_verdict 3
      → IsHeapTold true true given ended took (Err fault)
      → (found : Option HeapVerdict) × (text : List ℕ) × IsHeapAnswered bytes found text answer × took text
  heap_lacking JudgeToFault.Pull pulls pushes is told = absurd (pulls refl)
  heap_lacking JudgeToFault.Push pulls pushes is told = absurd (pushes refl)
  heap_lacking JudgeToFault.NoMemory pulls pushes is told = (
    None,
    [],
    (
      record {
        verdict = tt;
        optimal = tt;
        fault = subst MayLackHeapMemory (sym are) (lack_of_all given rest told.0.fault);
      },
      refl,
      is,
    ),
    told.1,
  )
