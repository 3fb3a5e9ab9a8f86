-- The answer on the bytes that a source gave (this profile's own, as are all below).
use Rattle.std.specs.Prelude.{◌≡◌, ℕ, Bool, true, false, List, Result, IfOk, IfErr}
use Rattle.cap_streams.specs.declared.judging.judge_faults.JudgeFault.{JudgeFault, TheVariants.{Pull, NoMemory}}
use Rattle.cap_turns.specs.Verdicts.{BeginsLog, IsBehind, IsNo, IsWhole, MayLackMemory, StopsBefore}
use Rattle.cap_run.specs.{declared.asks.Asks.Asks, Run.Run}
use Rattle.cap_run_judge.specs.{declared.verdict.RunVerdict.{RunVerdict, TheVariants.{Yes, No}}, Turns.{RunStage, run_turns, unread}}
use Rattle.cap_run_judge.specs.Verdicts.{IsRunGuarded, IsRunVerdict}

-- the verdict on these bytes, if their source has ended; otherwise a `no` that holds whatever bytes follow
abbrev pub IsVerdictOf : Asks → List ℕ → Bool → RunVerdict → Type 0
IsVerdictOf asks bytes true verdict = IsRunVerdict asks bytes verdict
IsVerdictOf asks bytes false (Yes steps roots objects) = ⊥
IsVerdictOf asks bytes false (No line refusal) = IsNo run_turns (unread asks) bytes false line refusal

-- the bytes are lines that lead to the run of a machine, and the line of this number, whose text is this
abbrev pub StopsWithRun : Asks → List ℕ → Bool → Run → ℕ → List ℕ → Type 0
StopsWithRun asks bytes ended run line text =
    (before : StopsBefore run_turns (unread asks) bytes ended line text) × (run ≡ before.stage.state.run)

-- the bytes are a whole run log, whose lines lead to the run of a machine
pub record LeadsTo (asks : Asks) (bytes : List ℕ) (run : Run) : Type 0 where
  pub stage : RunStage
  pub whole : IsWhole run_turns (unread asks) bytes stage
  pub run_is : run ≡ stage.state.run

-- after a yes the machine has the run of the log; after a no that of the lines before the one that was refused, whose text
-- is this
abbrev pub StopsIn : Asks → List ℕ → Bool → Run → List ℕ → RunVerdict → Type 0
StopsIn asks bytes ended run text (Yes steps roots objects) = LeadsTo asks bytes run
StopsIn asks bytes ended run text (No line refusal) = StopsWithRun asks bytes ended run line text

-- there is no verdict: the source failed after lines that begin a run log; or a line that fails no check may want memory
abbrev pub NoVerdictOf : Asks → List ℕ → JudgeFault → Type 0
NoVerdictOf asks bytes Pull = BeginsLog run_turns (unread asks) bytes
NoVerdictOf asks bytes NoMemory = (more : List ℕ) × MayLackMemory run_turns (unread asks) bytes more

-- what an answer says of the bytes given, and of whether their source has ended
pub record IsAnswerOf (asks : Asks) (bytes : List ℕ) (ended : Bool) (result : Result RunVerdict JudgeFault) : Type 0 where
  pub verdict : IfOk result (IsVerdictOf asks bytes ended)
  pub guarded : IsRunGuarded asks bytes
  pub fault : IfErr result (NoVerdictOf asks bytes)

-- an answer is that of the bytes that the source gave in the call
pub record Judged {S : Type 0} (asks : Asks) (gave : S → S → List ℕ → Type 0) (ended : S → Bool) (old new : S)
    (result : Result RunVerdict JudgeFault) : Type 0 where
  pub given : List ℕ
  pub gives : gave old new given
  pub answer : IsAnswerOf asks given (ended new) result

-- after a fault the machine has the run of the lines that were taken, with which the bytes begin
pub record LeavesIn (asks : Asks) (bytes : List ℕ) (run : Run) : Type 0 where
  pub stage : RunStage
  pub rest : List ℕ
  pub behind : IsBehind run_turns (unread asks) bytes stage rest
  pub run_is : run ≡ stage.state.run

-- an answer with the run of the judge's machine then, and the text of the line that was refused
pub record JudgedBy {S : Type 0} (asks : Asks) (gave : S → S → List ℕ → Type 0) (ended : S → Bool) (old new : S)
    (result : Result RunVerdict JudgeFault) (run : Run) (text : List ℕ) : Type 0 where
  pub judged : Judged asks gave ended old new result
  pub stops : IfOk result (StopsIn asks judged.given (ended new) run text)
  pub leaves : IfErr result (λ fault. LeavesIn asks judged.given run)
