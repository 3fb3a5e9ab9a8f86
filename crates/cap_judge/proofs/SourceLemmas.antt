-- What a judge answers on the bytes that a source gave.
use Rattle.std.proofs.Common.{◌≡◌, ◌≢◌, ℕ, ◌+◌, ◌≤◌, Bool, true, false, List, [], ◌∷◌, ◌++◌, length, refl, sym, ap}
use Rattle.std.proofs.Common.{subst, ◌∙◌, append-nil, append_assoc, arith, Result, Ok, Err, IfOk, IfErr, ◌-◌, ◌*◌, ◌<◌}
use Rattle.std.proofs.Common.{length-append}
use Rattle.cap_streams.specs.{declared.judging.judge_faults.JudgeFault.{JudgeFault, TheVariants.{Pull, NoMemory}}, Front.IsCut}
use Rattle.cap_machine.specs.Helds.{Held}
use Rattle.cap_judge.specs.{declared.faults.RefusedLine.RefusedLine, declared.verdict.Verdict.{Verdict, TheVariants.{Yes, No}}}
use Rattle.cap_judge.specs.{Judgings.{IsVerdictOf, BeginsLog, IsAnswerOf, JudgedBy, JudgedAll}, Logs.{MayLackMemory, text_of}}
use Rattle.cap_judge.specs.{Readings.{AnswerAtEnd, VerdictAtEnd, VerdictWith, IsAnswered}, Turns.{LogStage, unread, log_turns}}
use Rattle.cap_judge.specs.Verdicts.{IsVerdict, NoVerdictIn}
use Rattle.cap_judge.proofs.{JudgeLemmas.{guarded, no_lack}, TurnLaws.begun}
use Rattle.cap_turns.specs.Turns.{Goes}

-- a verdict, want of memory, and a fault of the source
pub answer_ok : (given : List ℕ) (ended : Bool) (verdict : Verdict) → IsVerdictOf given ended verdict → IsAnswerOf given ended (Ok verdict)
answer_ok given ended verdict is =
    record {
      verdict = is;
      authority = guarded given;
      fault = tt;
      answers = λ none e. cc;
    }

pub answer_memory : (given more : List ℕ) (ended : Bool) → MayLackMemory given more → IsAnswerOf given ended (Err NoMemory)
answer_memory given more ended lack =
    record { verdict = tt; authority = guarded given; fault = (more, lack); answers = λ none e. no_lack given more none lack }

pub answer_pull : (given : List ℕ) (ended : Bool) → BeginsLog given → IsAnswerOf given ended (Err Pull)
answer_pull given ended is = record { verdict = tt; authority = guarded given; fault = is; answers = λ none e. cc }

-- want of memory with more bytes behind
lack-more : (bytes behind more : List ℕ) → MayLackMemory bytes behind → MayLackMemory (bytes ++ more) (behind ++ more)
lack-more bytes behind more lack = record {
  rules = lack.rules;
  roots = lack.roots;
  steps = lack.steps;
  line = lack.line;
  text = lack.text;
  bytes_are = ap (λ (l : List ℕ). l ++ more) lack.bytes_are ∙ simp (append_assoc);
  runs = lack.runs;
  spelled = lack.spelled;
  free = lack.free;
  first = lack.first;
}

pub whole_verdict : (given rest : List ℕ) (ended : Bool) (verdict : Verdict) → (ended ≡ true → rest ≡ []) → IsVerdictOf given ended verdict
    → IsVerdict (given ++ rest) verdict
whole_verdict given rest true verdict end is =
    subst (λ (b : List ℕ). IsVerdict b verdict) (sym (ap (λ (r : List ℕ). given ++ r) (end refl) ∙ append-nil given)) is
whole_verdict given rest false (Yes steps roots) end is = absurd is
whole_verdict given rest false (No line refusal) end is = is rest

whole_answer : (given rest : List ℕ) (ended : Bool) (result : Result Verdict JudgeFault) → (ended ≡ true → rest ≡ [])
    → IsAnswerOf given ended result → result ≢ Err Pull
    → IfOk result (IsVerdict (given ++ rest)) × IfErr result (NoVerdictIn (given ++ rest))
whole_answer given rest ended (Ok verdict) end answer no_pull = (whole_verdict given rest ended verdict end answer.verdict, tt)
whole_answer given rest ended (Err Pull) end answer no_pull = absurd (no_pull refl)
whole_answer given rest ended (Err NoMemory) end answer no_pull =
    (tt, (answer.fault.0 ++ rest, lack-more given answer.fault.0 rest answer.fault.1))

-- what an answer for bytes given out of all bytes says of all
pub of_all : (bytes given rest : List ℕ) (ended : Bool) (result : Result Verdict JudgeFault) → bytes ≡ given ++ rest
    → (ended ≡ true → rest ≡ []) → IsAnswerOf given ended result
    → result ≢ Err Pull → IfOk result (IsVerdict bytes) × IfErr result (NoVerdictIn bytes)
of_all bytes given rest ended result are end answer no_pull =
    subst (λ (b : List ℕ). IfOk result (IsVerdict b) × IfErr result (NoVerdictIn b)) (sym are)
    (whole_answer given rest ended result end answer no_pull)

-- where nothing more was given
pub nothing_more : (kept more now : List ℕ) → now ≡ kept ++ more → length more ≡ 0 → now ≡ kept
nothing_more kept [] now is none = is ∙ append-nil kept
nothing_more kept (b ∷ more) now is none = absurd (omega (arith, none))

-- what a source gave, and more of it
pub given_more : {S : Type 0} (gave : S → S → List ℕ → Type 0) {a b c : S} (taken kept now : List ℕ) {more : List ℕ}
    → ((x y z : S) (xs ys : List ℕ) → gave x y xs → gave y z ys → gave x z (xs ++ ys)) → gave a b (taken ++ kept) → gave b c more
    → now ≡ kept ++ more → gave a c (taken ++ now)
given_more gave {a} {b} {c} taken kept now {more} joined before after is =
    subst (gave a c) (append_assoc taken kept more ∙ ap (λ (n : List ℕ). taken ++ n) (sym is))
    (joined a b c (taken ++ kept) more before after)

-- a yes or a no, where a log ends
pub ended_answer : (stage : LogStage) (rest text : List ℕ) (end : Result Verdict RefusedLine) (answer : Result Verdict JudgeFault)
    → IsAnswered end answer text → AnswerAtEnd stage rest end → (verdict : Verdict) × (answer ≡ Ok verdict) × VerdictAtEnd stage rest verdict text
ended_answer stage rest text (Ok (Yes steps roots)) answer is ends = (Yes steps roots, is, ends)
ended_answer stage rest text (Ok (No line refusal)) answer is ends = absurd ends
ended_answer stage rest text (Err fault) answer is ends =
    (No fault.line fault.refusal, is.0, subst (VerdictAtEnd stage rest (No fault.line fault.refusal)) (sym is.1) ends)

-- which is no want of memory
pub answered_some : (end : Result Verdict RefusedLine) (answer : Result Verdict JudgeFault) (text : List ℕ) → IsAnswered end answer text
    → answer ≡ Err NoMemory → ⊥
answered_some (Ok verdict) answer text is none = cc
answered_some (Err fault) answer text is none = cc (is.0)

module _ {S : Type 0} (gave : S → S → List ℕ → Type 0) (ended : S → Bool) (old new : S) (held : Held) (text given : List ℕ) where
  -- the answer of a verdict
  pub verdict_judged : (answer : Result Verdict JudgeFault) (verdict : Verdict) → answer ≡ Ok verdict
      → VerdictWith given (ended new) held verdict text → gave old new given → JudgedBy gave ended old new answer held text
  verdict_judged answer verdict is ends gives =
      rw is
      (record {
        judged = record { given = given; gives = gives; answer = answer_ok given (ended new) verdict ends.0 };
        leads = ends.1;
        stops = ends.2;
      })

  -- want of memory
  pub lacking_judged : (more : List ℕ) → MayLackMemory given more → gave old new given
      → JudgedBy gave ended old new (Err JudgeFault.NoMemory) held text
  lacking_judged more lack gives = record {
    judged = record { given = given; gives = gives; answer = answer_memory given more (ended new) lack };
    leads = tt;
    stops = tt;
  }

  -- a source that failed behind lines that begin a log, and less than a line
  pub pull_judged : (stage : LogStage) (taken rest : List ℕ) → Goes log_turns unread taken stage → IsCut rest → given ≡ taken ++ rest
      → gave old new given → JudgedBy gave ended old new (Err JudgeFault.Pull) held text
  pull_judged stage taken rest goes cut are gives =
      let b = begun taken stage goes in
      record {
        judged = record {
          given = given;
          gives = gives;
          answer = answer_pull given (ended new) (record {
            beginning = b.0;
            rest = rest;
            behind = record {
              bytes_are = are ∙ ap (λ (t : List ℕ). t ++ rest) (goes.bytes_are ∙ ap text_of (sym b.2));
              accepted = b.1;
            };
            cut = cut;
          });
        };
        leads = tt;
        stops = tt;
      }

-- Bytes that are judged at once

-- the answer of a verdict
pub all_judged : (bytes text : List ℕ) (held : Held) (answer : Result Verdict JudgeFault) (verdict : Verdict) → answer ≡ Ok verdict
    → VerdictWith bytes true held verdict text → JudgedAll bytes answer held text
all_judged bytes text held answer verdict is ends =
    rw is (record { answer = answer_ok bytes true verdict ends.0; leads = ends.1; stops = ends.2; pulls_nothing = λ e. cc })

-- want of memory
pub all_lack : (bytes more text : List ℕ) (held : Held) → MayLackMemory bytes more → JudgedAll bytes (Err NoMemory) held text
all_lack bytes more text held lack = record {
  answer = answer_memory bytes more true lack;
  leads = tt;
  stops = tt;
  pulls_nothing = λ e. cc;
}
