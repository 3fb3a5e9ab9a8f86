-- What a judge of run logs answers on the bytes that a source gave.
use Rattle.std.proofs.Common.{◌≡◌, ◌≢◌, ℕ, ◌+◌, ◌≤◌, Bool, true, false, List, [], ◌∷◌, ◌++◌, length, refl, sym, ap}
use Rattle.std.proofs.Common.{subst, ◌∙◌, append-nil, append_assoc, arith, Result, Ok, Err, IfOk, IfErr, ◌-◌, ◌*◌, ◌<◌}
use Rattle.cap_streams.specs.{declared.judging.judge_faults.JudgeFault.{JudgeFault, TheVariants.{Pull, NoMemory}}, Front.IsCut, Streams.CountsOnly}
use Rattle.cap_run.specs.{declared.asks.Asks.Asks, Run.Run}
use Rattle.cap_run_judge.specs.declared.faults.RefusedRunLine.{RefusedRunLine}
use Rattle.cap_run_judge.specs.{declared.verdict.RunVerdict.{RunVerdict, TheVariants.{Yes, No}}, Turns.{RunStage, unread, run_turns}}
use Rattle.cap_run_judge.specs.{Verdicts.{IsRunVerdict, NoRunVerdictIn}, Judgings.{IsAnswerOf, IsVerdictOf, JudgedBy}}
use Rattle.cap_run_judge.specs.Readings.{AnswerAtEnd, VerdictAtEnd, VerdictWith, IsAnswered}
use Rattle.cap_run_judge.proofs.GuardLemmas.{run_guarded}
use Rattle.cap_turns.specs.{Turns.Goes, Verdicts.MayLackMemory}

-- want of memory with more bytes after it
lack-more : (asks_are : Asks) (bytes rest more : List ℕ) → MayLackMemory run_turns (unread asks_are) bytes rest → MayLackMemory run_turns (unread asks_are) (bytes ++ more) (rest ++ more)
lack-more asks_are bytes rest more lack = record {
  stage = lack.stage;
  rest = lack.rest ++ more;
  behind = record {
    front = lack.behind.front;
    bytes_are = ap (λ (b : List ℕ). b ++ more) lack.behind.bytes_are ∙ append_assoc lack.behind.front lack.rest more;
    goes = lack.behind.goes;
  };
  lacks = record {
    line = lack.lacks.line;
    begins = (lack.lacks.begins.0, ap (λ (b : List ℕ). b ++ more) lack.lacks.begins.1 ∙ simp (append_assoc));
    allowed = lack.lacks.allowed;
    wants = lack.lacks.wants;
  };
}

whole_verdict : (asks_are : Asks) (given rest : List ℕ) (ended : Bool) (verdict : RunVerdict) → (ended ≡ true → rest ≡ [])
    → IsVerdictOf asks_are given ended verdict → IsRunVerdict asks_are (given ++ rest) verdict
whole_verdict asks_are given rest true verdict end is =
    subst (λ (b : List ℕ). IsRunVerdict asks_are b verdict) (sym (ap (λ (r : List ℕ). given ++ r) (end refl) ∙ append-nil given)) is
whole_verdict asks_are given rest false (Yes steps roots objects) end is = absurd is
whole_verdict asks_are given rest false (No line refusal) end is = is rest

whole_answer : (asks_are : Asks) (given rest : List ℕ) (ended : Bool) (result : Result RunVerdict JudgeFault) → (ended ≡ true → rest ≡ [])
    → IsAnswerOf asks_are given ended result → result ≢ Err Pull
    → IfOk result (IsRunVerdict asks_are (given ++ rest)) × IfErr result (NoRunVerdictIn asks_are (given ++ rest))
whole_answer asks_are given rest ended (Ok verdict) end answer no_pull =
    (whole_verdict asks_are given rest ended verdict end answer.verdict, tt)
whole_answer asks_are given rest ended (Err Pull) end answer no_pull = absurd (no_pull refl)
whole_answer asks_are given rest ended (Err NoMemory) end answer no_pull =
    (tt, (answer.fault.0 ++ rest, lack-more asks_are given answer.fault.0 rest answer.fault.1))

-- what an answer for bytes given out of all bytes says of all
pub of_all : (asks_are : Asks) (bytes given rest : List ℕ) (ended : Bool) (result : Result RunVerdict JudgeFault) → bytes ≡ given ++ rest
    → (ended ≡ true → rest ≡ []) → IsAnswerOf asks_are given ended result → result ≢ Err Pull
    → IfOk result (IsRunVerdict asks_are bytes) × IfErr result (NoRunVerdictIn asks_are bytes)
of_all asks_are bytes given rest ended result are end answer no_pull =
    subst (λ (b : List ℕ). IfOk result (IsRunVerdict asks_are b) × IfErr result (NoRunVerdictIn asks_are b)) (sym are)
    (whole_answer asks_are given rest ended result end answer no_pull)

-- a yes or a no, where a log ends
pub ended_answer : (stage : RunStage) (rest text : List ℕ) (end : Result RunVerdict RefusedRunLine) (answer : Result RunVerdict JudgeFault)
    → IsAnswered end answer text → AnswerAtEnd stage rest end → (verdict : RunVerdict) × (answer ≡ Ok verdict) × VerdictAtEnd stage rest verdict text
ended_answer stage rest text (Ok (Yes steps roots objects)) answer is ends = (Yes steps roots objects, is, ends)
ended_answer stage rest text (Ok (No line refusal)) answer is ends = absurd ends
ended_answer stage rest text (Err fault) answer is ends =
    (No fault.line fault.refusal, is.0, subst (VerdictAtEnd stage rest (No fault.line fault.refusal)) (sym is.1) ends)

-- a verdict counts no fault of the source
pub answered_counts : (end : Result RunVerdict RefusedRunLine) (answer : Result RunVerdict JudgeFault) (text : List ℕ) (before after : ℕ)
    → IsAnswered end answer text → after ≡ before → CountsOnly (Err Pull) before after answer
answered_counts (Ok verdict) answer text before after is same = (λ _. same, λ pull. cc)
answered_counts (Err fault) answer text before after is same = (λ _. same, λ pull. cc (is.0))

-- nor does want of memory
pub lacking_counts : (before after : ℕ) → after ≡ before → CountsOnly {R = Result RunVerdict JudgeFault} (Err Pull) before after (Err NoMemory)
lacking_counts before after same = (λ _. same, λ pull. cc)

module _ {S : Type 0} (asks_are : Asks) (gave : S → S → List ℕ → Type 0) (ended : S → Bool) (old new : S) (run_is : Run) (text given : List ℕ) where
  -- the answer of a verdict
  pub verdict_judged : (answer : Result RunVerdict JudgeFault) (verdict : RunVerdict) → answer ≡ Ok verdict
      → VerdictWith asks_are given (ended new) run_is verdict text → gave old new given → JudgedBy asks_are gave ended old new answer run_is text
  verdict_judged answer verdict is ends gives =
      rw is
      (record {
        judged = record { given = given; gives = gives; answer = record { verdict = ends.0; guarded = run_guarded asks_are given; fault = tt } };
        stops = ends.1;
        leaves = tt;
      })

  -- want of memory
  pub lacking_judged : (stage : RunStage) (taken rest more : List ℕ) → Goes run_turns (unread asks_are) taken stage → given ≡ taken ++ rest → run_is ≡ stage.state.run
      → MayLackMemory run_turns (unread asks_are) given more → gave old new given → JudgedBy asks_are gave ended old new (Err JudgeFault.NoMemory) run_is text
  lacking_judged stage taken rest more goes are is lack gives = record {
    judged = record { given = given; gives = gives; answer = record { verdict = tt; guarded = run_guarded asks_are given; fault = (more, lack) } };
    stops = tt;
    leaves = record { stage = stage; rest = rest; behind = record { front = taken; bytes_are = are; goes = goes }; run_is = is };
  }

  -- a source that failed after lines that begin a run log, and less than a line
  pub pull_judged : (stage : RunStage) (taken rest : List ℕ) → Goes run_turns (unread asks_are) taken stage → IsCut rest → given ≡ taken ++ rest
      → run_is ≡ stage.state.run → gave old new given → JudgedBy asks_are gave ended old new (Err JudgeFault.Pull) run_is text
  pull_judged stage taken rest goes cut are is gives = record {
    judged = record {
      given = given;
      gives = gives;
      answer = record {
        verdict = tt;
        guarded = run_guarded asks_are given;
        fault = record { stage = stage; rest = rest; behind = record { front = taken; bytes_are = are; goes = goes }; cut = cut };
      };
    };
    stops = tt;
    leaves = record { stage = stage; rest = rest; behind = record { front = taken; bytes_are = are; goes = goes }; run_is = is };
  }
