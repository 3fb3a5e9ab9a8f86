-- What a judge that writes its verdict answers and writes (this profile's own).
use Rattle.std.specs.Prelude.{◌≡◌, ℕ, Bool, true, false, List, [], ◌++◌, take, Result, Ok, Err}
use Rattle.cap_streams.specs.declared.judging.judge_faults.JudgeToFault.{JudgeToFault, TheVariants.{Pull, NoMemory, Push}}
use Rattle.cap_streams.specs.declared.judging.judge_faults.JudgeFault.TheVariants as judge_faults
use Rattle.cap_judge.specs.{declared.verdict.Verdict.{Verdict, TheVariants.{Yes, No}}, Judgings.IsAnswerOf}
use Rattle.cap_judge.specs.{Origins.{Origin, AreOriginsOf, origin_lines}, VerdictLines.verdict_line}

-- the text that belongs to a verdict on bytes: its line, and where origins are asked for, after a yes the lines of the
-- log's
abbrev pub Tells : Bool → List ℕ → Verdict → List ℕ → Type 0
Tells false bytes verdict text = text ≡ verdict_line verdict
Tells true bytes (No line refusal) text = text ≡ verdict_line (No line refusal)
Tells true bytes (Yes steps roots) text =
    (origins : List Origin) × AreOriginsOf bytes origins × (text ≡ verdict_line (Yes steps roots) ++ origin_lines origins)

-- with a verdict a text that belongs to it was taken, without one nothing, and where the sink failed a beginning of
-- such a text
abbrev pub IsPushedFor : (Verdict → List ℕ → Type 0) → List ℕ → Bool → (List ℕ → Type 0) → Result Verdict JudgeToFault → Type 0
IsPushedFor tells bytes ended took (Ok verdict) = IsAnswerOf bytes ended (Ok verdict) × (text : List ℕ) × tells verdict text × took text
IsPushedFor tells bytes ended took (Err Pull) = IsAnswerOf bytes ended (Err judge_faults.Pull) × took []
IsPushedFor tells bytes ended took (Err NoMemory) = IsAnswerOf bytes ended (Err judge_faults.NoMemory) × took []
IsPushedFor tells bytes ended took (Err Push) =
    (verdict : Verdict) × IsAnswerOf bytes ended (Ok verdict) × (text : List ℕ) × tells verdict text × (n : ℕ) × took (take n text)

-- an answer is that of the bytes that the source gave in the call, and what the sink took is a text that belongs to it,
-- as is told of these bytes and of whether their source has ended
pub record Reported {S K : Type 0} (tells : List ℕ → Bool → Verdict → List ℕ → Type 0) (gave : S → S → List ℕ → Type 0) (ended : S → Bool)
    (took : K → K → List ℕ → Type 0) (old new : S) (before after : K) (result : Result Verdict JudgeToFault) : Type 0 where
  pub given : List ℕ
  pub gives : gave old new given
  pub report : IsPushedFor (tells given (ended new)) given (ended new) (took before after) result
