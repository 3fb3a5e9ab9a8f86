-- An answer on all the bytes of a log, in numbers.
use Rattle.std.proofs.Common.{◌≡◌, ◌≢◌, ℕ, List, Result, true, refl, ap, arith, Err, Ok, None, Some}
use Rattle.cap_streams.specs.declared.judging.judge_faults.JudgeFault.{JudgeFault, TheVariants.{NoMemory, Pull}}
use Rattle.cap_judge.specs.{declared.verdict.Verdict.{Verdict, TheVariants.{Yes, No}}, Judgings.IsAnswerOf}
use Rattle.cap_report.specs.{declared.answers.Answer.Answer, Answers.{AnswersBytes, numbers_of, without_verdict}}

abbrev pub of_verdict : (bytes : List ℕ) (verdict : Verdict) (answer : Answer) → IsAnswerOf bytes true (Ok verdict)
    → answer ≡ numbers_of verdict → AnswersBytes bytes answer
of_verdict bytes verdict answer judged is = record {
  verdict = Some verdict;
  numbers = is;
  is_verdict = judged.verdict;
  authority = judged.authority;
  no_memory = tt;
  answers = λ none. refl;
}

abbrev pub of_lack : (bytes : List ℕ) (answer : Answer) → IsAnswerOf bytes true (Err NoMemory) → answer ≡ without_verdict 3
    → AnswersBytes bytes answer
of_lack bytes answer judged is = record {
  verdict = None;
  numbers = is;
  is_verdict = tt;
  authority = judged.authority;
  no_memory = judged.fault;
  answers = λ none. absurd (judged.answers none refl);
}

-- a verdict is no want of memory
pub no_want : (verdict : Verdict) (answer : Answer) → answer ≡ numbers_of verdict → answer.state ≡ 3 → ⊥
no_want (Yes steps roots) answer is three = omega (arith, ap (λ (a : Answer). a.state) is, three)
no_want (No line refusal) answer is three = omega (arith, ap (λ (a : Answer). a.state) is, three)

-- and what isn't a fault of a source is one
pub no_pull : (fault : JudgeFault) (result : Result Verdict JudgeFault) → result ≡ Err fault → result ≢ Err Pull → result ≡ Err NoMemory
no_pull Pull result is pulls = absurd (pulls is)
no_pull NoMemory result is pulls = is
