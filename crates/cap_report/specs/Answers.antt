-- What the judge answers to C (this profile's own, as are all below).
use Rattle.std.specs.Prelude.{◌≡◌, ℕ, List, Option, None, Some, IfSome, IfNone, IsSome}
use Rattle.cap_ops.specs.Refusals.{refusal_number}
use Rattle.cap_judge.specs.declared.verdict.Verdict.{Verdict, TheVariants.{Yes, No}}
use Rattle.cap_judge.specs.{Logs.{MayLackMemory, NamesNoGranules}, Verdicts.{IsVerdict, IsGuarded, NamesEscapes}}
use Rattle.cap_report.specs.declared.answers.Answer.{Answer}

-- an answer that is no verdict, and says why by this number
abbrev pub without_verdict : ℕ → Answer
without_verdict state = record { line = 0; steps = 0; roots = 0; state = state; refusal = 0 }

-- a verdict in numbers: the state 1 is a yes, and 2 a no
abbrev pub numbers_of : Verdict → Answer
numbers_of (Yes steps roots) = record (without_verdict 1) { steps = steps; roots = roots }
numbers_of (No line refusal) = record (without_verdict 2) { line = line; refusal = refusal_number refusal }

-- the answer on the bytes of a log is this verdict, or none: the state 3 says that memory was wanted for a granule
abbrev pub Answers : Option Verdict → Answer → Type 0
Answers (Some verdict) answer = answer ≡ numbers_of verdict
Answers None answer = answer ≡ without_verdict 3

-- C gets the verdict on these bytes, with what follows from it; or it learns that there is none, only if after lines
-- that begin a log one that fails no check names a granule for the first time
pub record AnswersBytes (bytes : List ℕ) (answer : Answer) : Type 0 where
  pub verdict : Option Verdict
  pub numbers : Answers verdict answer
  pub is_verdict : IfSome verdict (IsVerdict bytes)
  pub authority : IsGuarded bytes
  pub no_memory : IfNone verdict ((more : List ℕ) × MayLackMemory bytes more)
  pub answers : NamesNoGranules bytes → IsSome verdict

-- an answer that is a no names BoundsEscape exactly where its line asks for bounds beyond its source's, whatever bytes
-- it is of
abbrev pub NamesEscapesIn : Answer → Type 0
NamesEscapesIn answer = (verdict : Verdict) → answer ≡ numbers_of verdict → NamesEscapes verdict
