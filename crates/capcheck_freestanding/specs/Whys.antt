-- What the judge answers to C with its text (this profile's own, as are all below).
use Rattle.std.specs.Prelude.{◌≡◌, ℕ, Bool, true, List, [], Option, None, Some}
use Rattle.cap_judge.specs.declared.verdict.Verdict.{Verdict}
use Rattle.cap_report.specs.{Answers.AnswersBytes, Texts.IsTold, Whys.Explains}
use Rattle.capcheck_freestanding.specs.declared.explanations.Why.{Why}

-- the text of an answer on all the bytes of a log: without a verdict it is empty
abbrev pub IsWhyOf : Bool → List ℕ → Option Verdict → List ℕ → Type 0
IsWhyOf origins bytes None text = text ≡ []
IsWhyOf origins bytes (Some verdict) text = Explains origins bytes true verdict text

-- C gets the verdict on these bytes, and its text, where there is room for it
pub record AnswersWhy (origins : Bool) (bytes old new : List ℕ) (why : Why) : Type 0 where
  pub answer : AnswersBytes bytes why.answer
  pub text : List ℕ
  pub explains : IsWhyOf origins bytes answer.verdict text
  pub told : IsTold 0 why.length text old new
