-- An answer on all the bytes of a log with its text.
use Rattle.std.proofs.Common.{◌≡◌, ◌≢◌, ℕ, Bool, List, Result, [], true, refl, Err}
use Rattle.cap_streams.specs.declared.judging.judge_faults.JudgeToFault.{JudgeToFault}
use Rattle.cap_judge.specs.{declared.verdict.Verdict.Verdict, Reports.IsPushedFor}
use Rattle.cap_report.specs.{declared.answers.Answer.Answer, Answers.{AnswersBytes, without_verdict}, Whys.Explains}
use Rattle.cap_report.proofs.AnswerLemmas.{of_lack}
use Rattle.capcheck_freestanding.specs.Whys.{IsWhyOf}

-- there is no other fault than want of memory, and then there is no text
pub of_why_fault : (origins : Bool) (bytes : List ℕ) (took : List ℕ → Type 0) (fault : JudgeToFault) (answer : Answer) → fault ≢ JudgeToFault.Pull
    → fault ≢ JudgeToFault.Push → IsPushedFor (Explains origins bytes true) bytes true took (Err fault) → answer ≡ without_verdict 3
    → (x : AnswersBytes bytes answer) × (text : List ℕ) × IsWhyOf origins bytes x.verdict text × took text
of_why_fault origins bytes took JudgeToFault.Pull answer pulls pushes pushed is = absurd (pulls refl)
of_why_fault origins bytes took JudgeToFault.Push answer pulls pushes pushed is = absurd (pushes refl)
of_why_fault origins bytes took JudgeToFault.NoMemory answer pulls pushes pushed is = (of_lack bytes answer pushed.0 is, [], refl, pushed.1)

-- so it is want of memory
pub only_memory : (fault : JudgeToFault) (result : Result Verdict JudgeToFault) → result ≡ Err fault → fault ≢ JudgeToFault.Pull
    → fault ≢ JudgeToFault.Push → result ≡ Err JudgeToFault.NoMemory
only_memory JudgeToFault.Pull result is pulls pushes = absurd (pulls refl)
only_memory JudgeToFault.Push result is pulls pushes = absurd (pushes refl)
only_memory JudgeToFault.NoMemory result is pulls pushes = is
