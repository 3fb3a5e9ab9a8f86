-- The verdict on some bytes.
use Rattle.std.specs.Prelude.{◌≡◌, ◌≢◌, ◌↔◌, ℕ, ◌+◌, List, ◌++◌, length, codes, Result, Ok, Err}
use Rattle.cap_ops.specs.declared.refusal.Refusal.{Refusal}
use Rattle.cap_ops.specs.declared.refusal.Refusal.TheVariants.{BadHeader, BoundsEscape, LineTooLong, Truncated}
use Rattle.cap_streams.specs.declared.judging.judge_faults.JudgeFault.{JudgeFault, TheVariants.{Pull, NoMemory}}
use Rattle.cap_streams.specs.Front.{FrontIs, IsLine}
use Rattle.cap_log.specs.{declared.{kinds.Step.Step, lines.Line.TheVariants.{Version, Step as Stepping}}, Lines.Spells}
use Rattle.cap_machine.specs.declared.{ends.StepEnd.{StepEnd, TheVariants.Refused}, rules.Rules.Rules}
use Rattle.cap_machine.specs.{declared.rules.Rules.TheVariants.{One, TwoClear}, Escapes.AsksBeyond, Steps.asked_by}
use Rattle.cap_machine.specs.{Runs.{IsRun, AuthorityNeverGrows, AccessesLieInside}, States.{State, DeclaredRoot, start}}
use Rattle.cap_machine.specs.declared.ends.StepEnd.TheVariants as ends
use Rattle.cap_judge.specs.declared.verdict.Verdict.{Verdict, TheVariants.{Yes, No}}
use Rattle.cap_judge.specs.Logs.{Beginning, Empty, NoMode, Body, Whole, SpellsBy, account_after, lines_of, text_of}
use Rattle.cap_judge.specs.Logs.{IsAccepted, IsLogOf, Refuses, IsFirstFault, MayLackMemory}

-- the bytes are a log with this many steps and roots, whose steps have a run
pub record IsYes (bytes : List ℕ) (step_count root_count : ℕ) : Type 0 where
  pub rules : Rules
  pub roots : List DeclaredRoot
  pub steps : List Step
  pub log : IsLogOf bytes rules roots steps
  pub step_count_is : step_count ≡ length steps
  pub root_count_is : root_count ≡ length roots

-- `yes` for a log whose steps have a run; otherwise `no` with the first faulty line (this profile's own)
abbrev pub IsVerdict : List ℕ → Verdict → Type 0
IsVerdict bytes (Yes steps roots) = IsYes bytes steps roots
IsVerdict bytes (No line refusal) = IsFirstFault bytes line refusal

-- along each run that the bytes have as a log, authority never grows and each access lies inside its root (this
-- profile's own)
abbrev pub IsGuarded : List ℕ → Type 0
IsGuarded bytes = (rules : Rules) (roots : List DeclaredRoot) (steps : List Step) (states : List State) → IsLogOf bytes rules roots steps
    → IsRun rules (start roots) steps states → AuthorityNeverGrows roots steps states × AccessesLieInside roots steps states

-- there is no verdict: after lines that begin a log, a line that fails no check names a granule for the first time
abbrev pub NoVerdictIn : List ℕ → JudgeFault → Type 0
NoVerdictIn bytes Pull = ⊥
NoVerdictIn bytes NoMemory = (more : List ℕ) × MayLackMemory bytes more

-- what a line that the machine does not take makes the answer
abbrev pub answer_at : ℕ → StepEnd → Result Verdict JudgeFault
answer_at line (Refused refusal) = Ok (No line refusal)
answer_at line ends.NoMemory = Err NoMemory

-- bytes that do not begin with the line `capcheck 2`
abbrev pub IsOfVersionOne : List ℕ → Type 0
IsOfVersionOne bytes = (more : List ℕ) → bytes ≢ codes "capcheck 2\n" ++ more

-- a beginning of a log of version 1
abbrev pub BeginsOne : Beginning → Type 0
BeginsOne Empty = Unit {0}
BeginsOne NoMode = ⊥
BeginsOne (Body rules roots steps) = rules ≡ One
BeginsOne (Whole rules roots steps) = rules ≡ One

-- a verdict that speaks of version 1 alone
abbrev pub IsByVersionOne : (bytes : List ℕ) (verdict : Verdict) → IsVerdict bytes verdict → Type 0
IsByVersionOne bytes (Yes steps roots) log = log.rules ≡ One
IsByVersionOne bytes (No line refusal) fault = BeginsOne fault.beginning

-- what follows a beginning is refused by version 1, whose header is its version line alone
abbrev pub RefusesOne : Beginning → List ℕ → Refusal → Type 0
RefusesOne Empty rest refusal =
    FrontIs rest (refusal ≡ LineTooLong) (refusal ≡ Truncated) (λ line. (Spells line (Version 1) → ⊥) × (refusal ≡ BadHeader))
RefusesOne beginning rest refusal = Refuses beginning rest refusal

-- the first fault by version 1
pub record IsFirstFaultOne (bytes : List ℕ) (number : ℕ) (refusal : Refusal) : Type 0 where
  pub beginning : Beginning
  pub rest : List ℕ
  pub of_one : BeginsOne beginning
  pub bytes_are : bytes ≡ text_of (lines_of beginning) ++ rest
  pub accepted : IsAccepted beginning
  pub number_is : number ≡ length (lines_of beginning) + 1
  pub refused : RefusesOne beginning rest refusal

-- the verdict by version 1, which knows of no other
abbrev pub IsVerdictOne : List ℕ → Verdict → Type 0
IsVerdictOne bytes (Yes steps roots) = (log : IsYes bytes steps roots) × (log.rules ≡ One)
IsVerdictOne bytes (No line refusal) = IsFirstFaultOne bytes line refusal

-- the faulty line is a step, under strict rules, that asks for bounds beyond those of its tagged, unsealed source
abbrev pub FaultEscapes : Beginning → List ℕ → Type 0
FaultEscapes (Body rules roots steps) rest =
    let account = account_after rules roots steps in
    (text : List ℕ) × (more : List ℕ) × (step : Step) × IsLine rest text more
    × SpellsBy account.rules text (Stepping step) × ((account.rules ≢ TwoClear) × AsksBeyond account.state (asked_by step))
FaultEscapes beginning rest = ⊥

-- a `no` names BoundsEscape exactly for a line that asks for bounds beyond its source's (the check of CSetBounds,
-- UCAM-CL-TR-987)
abbrev pub EscapesExactly : List ℕ → Verdict → Type 0
EscapesExactly bytes (Yes steps roots) = Unit {0}
EscapesExactly bytes (No line refusal) =
    (fault : IsFirstFault bytes line refusal) → (refusal ≡ BoundsEscape) ↔ FaultEscapes fault.beginning fault.rest

-- `EscapesExactly`, whatever bytes the verdict is on
abbrev pub NamesEscapes : Verdict → Type 0
NamesEscapes verdict = (bytes : List ℕ) → EscapesExactly bytes verdict
