-- Laws of the answer of a judge of an allocator's log.
use Rattle.std.proofs.Common.{◌≡◌, ◌≢◌, ◌≤◌, ℕ, Bool, true, false, List, [], ◌∷◌, ◌++◌, Result, Ok, Err, refl, sym, ap}
use Rattle.std.proofs.{Common.{subst, ◌∙◌, append-nil, append_assoc, arith}, lemmas.List.Elements.All-nil}
use Rattle.std.proofs.lemmas.Option.{none-some}
use Rattle.cap_streams.specs.declared.judging.judge_faults.JudgeToFault.{JudgeToFault, TheVariants.{Pull, NoMemory, Push}}
use Rattle.cap_heap.specs.declared.{lines.HeapLine.TheVariants.{Header, Root, End}, refusal.HeapRefusal.HeapRefusal}
use Rattle.cap_heap.specs.declared.verdict.HeapVerdict.{HeapVerdict, TheVariants.{Yes, No}}
use Rattle.cap_heap.specs.HeapLogs.{CanBeGuardedThroughout, IsFirstHeapFault}
use Rattle.cap_heap.specs.{HeapVerdicts.{BeginsHeapLog, IsHeapAnswerOf, Lasts}, HeapWhys.IsHeapReport}
use Rattle.cap_heap.specs.VerdictLines.{IsHeapTold, TellsHeap, heap_status}
use Rattle.cap_program.specs.{Doings.IsDone, Judging.{StopsJudging, judged}}
use Rattle.capdiag.specs.Judgings.{ShowsHeap}

-- no bytes are the beginning of a log
pub nothing_begins : BeginsHeapLog []
nothing_begins = record {
  root = record { base = 0; top = 0 };
  events = [];
  before = [];
  due = Header ∷ Root (record { base = 0; top = 0 }) ∷ End 0 ∷ [];
  rest = [];
  log = (
    refl,
    (tt, ((omega arith, omega arith, omega arith), (omega arith, tt))),
    record {
      inside = λ at size is. absurd (none-some size is);
      apart = λ at other size length is differ shares. absurd (none-some size is);
    },
  );
  bytes_are = refl;
  cut = (omega arith, All-nil (λ b. b ≢ 10));
}

-- what was pushed for an answer is what was done for the order
pub heap_done : (report why : Bool) (given : List ℕ) (ended : Bool) (took : List ℕ → Type 0) (answer : Result HeapVerdict JudgeToFault)
    → IsHeapTold report why given ended took answer
    → IsDone (ShowsHeap report why given ended) (StopsJudging (IsHeapAnswerOf given true)) took (judged heap_status answer)
heap_done report why given ended took (Ok verdict) p = (p.1, (verdict, p.0, p.2, refl), p.3)
heap_done report why given ended took (Err Pull) p = (record { verdict = tt; optimal = tt; fault = p.0.fault }, p.1)
heap_done report why given ended took (Err NoMemory) p = (record { verdict = tt; optimal = tt; fault = p.0.fault }, p.1)
heap_done report why given ended took (Err Push) p = (p.2, heap_status p.0, (p.0, p.1, p.3, refl), p.4, p.5)

-- what lasts for the bytes given holds of all bytes
lasts_known : (Fact : List ℕ → Type 0) (known given rest : List ℕ) (ended : Bool) → known ≡ given ++ rest → (ended ≡ true → rest ≡ [])
    → Lasts given ended Fact → Lasts known true Fact
lasts_known Fact known given rest ended are end lasts = λ more none.
    subst Fact (sym (append_assoc given rest more) ∙ ap (λ (b : List ℕ). b ++ more) (sym are))
    (lasts (rest ++ more) (λ e. ap (λ (r : List ℕ). r ++ more) (end e) ∙ none refl))

-- and so does the text of a no
module _ (known given rest : List ℕ) (ended : Bool) (are : known ≡ given ++ rest) (end : ended ≡ true → rest ≡ []) where
  tells_no : (report why : Bool) (line : ℕ) (refusal : HeapRefusal) (text : List ℕ) → TellsHeap report why given ended (No line refusal) text
      → TellsHeap report why known true (No line refusal) text
  tells_no false false line refusal text is = is
  tells_no true false line refusal text is = is
  tells_no false true line refusal text is =
      (is.0, lasts_known (λ all. IsHeapReport all line refusal is.0) known given rest ended are end is.1, is.2)
  tells_no true true line refusal text is =
      (is.0, lasts_known (λ all. IsHeapReport all line refusal is.0) known given rest ended are end is.1, is.2)

  -- what is shown of the bytes given is shown of all bytes
  shown : (report why : Bool) (verdict : HeapVerdict) (text : List ℕ) → IsHeapAnswerOf given ended (Ok verdict)
      → TellsHeap report why given ended verdict text → IsHeapAnswerOf known true (Ok verdict) × TellsHeap report why known true verdict text
  shown report why (Yes events live) text answer tells =
      let same = are ∙ ap (λ (r : List ℕ). given ++ r) (end answer.verdict.0) ∙ append-nil given in
      subst (λ (bytes : List ℕ). IsHeapAnswerOf bytes true (Ok (Yes events live)) × TellsHeap report why bytes true (Yes events live) text) (sym same)
      (subst (λ (e : Bool). IsHeapAnswerOf given e (Ok (Yes events live)) × TellsHeap report why given e (Yes events live) text) answer.verdict.0 (answer, tells))
  shown report why (No line refusal) text answer tells = (
    record {
      verdict = lasts_known (λ all. IsFirstHeapFault all line refusal) known given rest ended are end answer.verdict;
      optimal = lasts_known (λ all. CanBeGuardedThroughout all → ⊥) known given rest ended are end answer.optimal;
      fault = tt;
    },
    tells_no report why line refusal text tells,
  )

pub heap_known : (report why : Bool) (known given rest : List ℕ) (ended : Bool) (text : List ℕ) (status : ℕ) → known ≡ given ++ rest
    → (ended ≡ true → rest ≡ []) → ShowsHeap report why given ended text status → ShowsHeap report why known true text status
heap_known report why known given rest ended text status are end shows =
    let both = shown known given rest ended are end report why shows.0 text shows.1 shows.2 in
    (shows.0, both.0, both.1, shows.3)

pub heap_few : (verdict : HeapVerdict) → heap_status verdict ≤ 1
heap_few (Yes events live) = omega arith
heap_few (No line refusal) = omega arith
