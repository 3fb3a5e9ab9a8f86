-- The answer on the bytes that a source gave (this profile's own, as are all below).
use Rattle.std.specs.Prelude.{◌≡◌, ◌≢◌, ℕ, ◌+◌, Bool, true, false, List, ◌++◌, length, Result, Err, IfOk, IfErr}
use Rattle.cap_streams.specs.declared.judging.judge_faults.JudgeFault.{JudgeFault, TheVariants.{Pull, NoMemory}}
use Rattle.cap_streams.specs.Front.{IsCut}
use Rattle.cap_turns.specs.Verdicts.{IsLastFront}
use Rattle.cap_log.specs.declared.kinds.Step.{Step}
use Rattle.cap_machine.specs.{declared.rules.Rules.{Rules, TheVariants.One}, Accounts.{Account, limits_of, no_account}}
use Rattle.cap_machine.specs.{Helds.{Held, account_of}, States.DeclaredRoot}
use Rattle.cap_judge.specs.declared.verdict.Verdict.{Verdict, TheVariants.{Yes, No}}
use Rattle.cap_judge.specs.Logs.{Beginning, Empty, NoMode, Body, Whole, lines_of, text_of, account_after, IsAccepted, IsLogOf}
use Rattle.cap_judge.specs.Logs.{IsFirstFault, MayLackMemory, NamesNoGranules}
use Rattle.cap_judge.specs.Verdicts.{IsVerdict, IsGuarded}

-- the verdict on these bytes, if their source has ended; otherwise a `no` that holds whatever bytes follow
abbrev pub IsVerdictOf : List ℕ → Bool → Verdict → Type 0
IsVerdictOf bytes true verdict = IsVerdict bytes verdict
IsVerdictOf bytes false (Yes steps roots) = ⊥
IsVerdictOf bytes false (No line refusal) = (more : List ℕ) → IsFirstFault (bytes ++ more) line refusal

-- the bytes are the text of a beginning that is accepted, and a rest
pub record IsBehind (bytes : List ℕ) (beginning : Beginning) (rest : List ℕ) : Type 0 where
  pub bytes_are : bytes ≡ text_of (lines_of beginning) ++ rest
  pub accepted : IsAccepted beginning

-- the account after a beginning; before the header is read it is an empty one
abbrev pub account_before : Beginning → Account
account_before Empty = no_account One (limits_of One)
account_before NoMode = no_account One (limits_of One)
account_before (Body rules roots steps) = account_after rules roots steps
account_before (Whole rules roots steps) = account_after rules roots steps

-- the bytes are the text of a beginning that is accepted, whose account is that of what a machine holds, and the line
-- of this number, whose text is this
pub record StopsBefore (bytes : List ℕ) (ended : Bool) (held : Held) (line : ℕ) (text : List ℕ) : Type 0 where
  pub beginning : Beginning
  pub rest : List ℕ
  pub behind : IsBehind bytes beginning rest
  pub line_is : line ≡ length (lines_of beginning) + 1
  pub account : account_of held ≡ account_before beginning
  pub front : IsLastFront rest ended text

-- after a no, the machine holds what the lines before the one that was refused lead to, and this is the text of that
-- line
abbrev pub StopsIn : List ℕ → Bool → Held → List ℕ → Verdict → Type 0
StopsIn bytes ended held text (Yes steps roots) = Unit {0}
StopsIn bytes ended held text (No line refusal) = StopsBefore bytes ended held line text

-- whole lines that begin a log whose steps have a run, and less than a line after them
pub record BeginsLog (bytes : List ℕ) : Type 0 where
  pub beginning : Beginning
  pub rest : List ℕ
  pub behind : IsBehind bytes beginning rest
  pub cut : IsCut rest

-- there is no verdict: the source failed after lines that begin a log; or a line that fails no check names a granule
-- for the first time
abbrev pub NoVerdictOf : List ℕ → JudgeFault → Type 0
NoVerdictOf bytes Pull = BeginsLog bytes
NoVerdictOf bytes NoMemory = (more : List ℕ) × MayLackMemory bytes more

-- what an answer says of the bytes given, and of whether their source has ended
pub record IsAnswerOf (bytes : List ℕ) (ended : Bool) (result : Result Verdict JudgeFault) : Type 0 where
  pub verdict : IfOk result (IsVerdictOf bytes ended)
  pub authority : IsGuarded bytes
  pub fault : IfErr result (NoVerdictOf bytes)
  pub answers : NamesNoGranules bytes → result ≢ Err NoMemory

-- an answer is that of the bytes that the source gave in the call
pub record Judged {S : Type 0} (gave : S → S → List ℕ → Type 0) (ended : S → Bool) (old new : S)
    (result : Result Verdict JudgeFault) : Type 0 where
  pub given : List ℕ
  pub gives : gave old new given
  pub answer : IsAnswerOf given (ended new) result

-- the bytes are a log, and its roots and steps lead to what a machine holds
pub record LeadsTo (bytes : List ℕ) (held : Held) : Type 0 where
  pub rules : Rules
  pub roots : List DeclaredRoot
  pub steps : List Step
  pub log : IsLogOf bytes rules roots steps
  pub account : account_of held ≡ account_after rules roots steps

-- after a yes, they do
abbrev pub LeadsAfter : List ℕ → Held → Verdict → Type 0
LeadsAfter bytes held (Yes steps roots) = LeadsTo bytes held
LeadsAfter bytes held (No line refusal) = Unit {0}

-- an answer with what the machine of the judge holds then, and the text of the line that was refused
pub record JudgedBy {S : Type 0} (gave : S → S → List ℕ → Type 0) (ended : S → Bool) (old new : S)
    (result : Result Verdict JudgeFault) (held : Held) (text : List ℕ) : Type 0 where
  pub judged : Judged gave ended old new result
  pub leads : IfOk result (LeadsAfter judged.given held)
  pub stops : IfOk result (StopsIn judged.given (ended new) held text)

-- an answer on all the bytes of a log, with what the machine of the judge holds then, and the text of the line that was
-- refused
pub record JudgedAll (bytes : List ℕ) (result : Result Verdict JudgeFault) (held : Held) (text : List ℕ) : Type 0 where
  pub answer : IsAnswerOf bytes true result
  pub leads : IfOk result (LeadsAfter bytes held)
  pub stops : IfOk result (StopsIn bytes true held text)
  pub pulls_nothing : result ≢ Err Pull
