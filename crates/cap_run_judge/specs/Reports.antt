-- What a judge of run logs that writes its verdict answers and writes. All of it is this profile's own.
use Rattle.std.specs.Prelude.{◌≡◌, ℕ, ◌≤◌, Bool, IsTrue, List, [], take, Result, Ok, Err, Some}
use Rattle.cap_streams.specs.declared.judging.judge_faults.JudgeToFault.{JudgeToFault, TheVariants.{Pull, NoMemory, Push}}
use Rattle.cap_streams.specs.declared.judging.judge_faults.JudgeFault.TheVariants as judge_faults
use Rattle.cap_objects.specs.{Counts.owned_by, declared.objects.Object.Object, Extents.is_present}
use Rattle.cap_run.specs.{declared.asks.Asks.Asks, Run.Run}
use Rattle.cap_run_judge.specs.declared.verdict.RunVerdict.{RunVerdict, TheVariants.{Yes, No}}
use Rattle.cap_run_judge.specs.{Judgings.{IsAnswerOf, LeadsTo}, OwnerLists.run_report_text}

-- the object with a number is present, its number is one of those handed out, and its count is that of the places that it
-- owns
pub record IsNumbered (run : Run) (number : ℕ) (object : Object) : Type 0 where
  pub own : object.number ≡ number
  pub some : 1 ≤ number
  pub few : number ≤ run.count
  pub present : IsTrue (is_present object)
  pub held : object.held ≡ owned_by run.owners number

-- so are all objects of a run
abbrev pub AreNumbered : Run → Type 0
AreNumbered run = (number : ℕ) (object : Object) → run.objects number ≡ Some object → IsNumbered run number object

-- after a yes the bytes lead to a run, whose report lists all its objects
abbrev pub LeadsAfter : Asks → List ℕ → Run → RunVerdict → Type 0
LeadsAfter asks bytes run (Yes steps roots objects) = LeadsTo asks bytes run × AreNumbered run
LeadsAfter asks bytes run (No line refusal) = Unit {0}

-- the text that belongs to a verdict on bytes: its line, and if owners are asked for, after a yes the lines of the objects
-- and owned places of the log's last state
abbrev pub TellsRun : Asks → Bool → List ℕ → Bool → RunVerdict → List ℕ → Type 0
TellsRun asks owners bytes ended verdict text = (run : Run) × LeadsAfter asks bytes run verdict × (text ≡ run_report_text owners run verdict)

-- with a verdict a text that belongs to it was taken, without one nothing, and where the sink failed a beginning of such a
-- text
abbrev pub IsRunPushed : Asks → (RunVerdict → List ℕ → Type 0) → List ℕ → Bool → (List ℕ → Type 0) → Result RunVerdict JudgeToFault → Type 0
IsRunPushed asks tells bytes ended took (Ok verdict) =
    IsAnswerOf asks bytes ended (Ok verdict) × (text : List ℕ) × tells verdict text × took text
IsRunPushed asks tells bytes ended took (Err Pull) = IsAnswerOf asks bytes ended (Err judge_faults.Pull) × took []
IsRunPushed asks tells bytes ended took (Err NoMemory) = IsAnswerOf asks bytes ended (Err judge_faults.NoMemory) × took []
IsRunPushed asks tells bytes ended took (Err Push) =
    (verdict : RunVerdict) × IsAnswerOf asks bytes ended (Ok verdict)
    × (text : List ℕ) × tells verdict text × (n : ℕ) × took (take n text)

-- an answer is that of the bytes that the source gave in the call, and what the sink took is a text that belongs to it, by
-- these bytes and whether the source has ended
pub record RunReported {S K : Type 0} (asks : Asks) (tells : List ℕ → Bool → RunVerdict → List ℕ → Type 0) (gave : S → S → List ℕ → Type 0)
    (ended : S → Bool) (took : K → K → List ℕ → Type 0) (old new : S) (before after : K) (result : Result RunVerdict JudgeToFault) : Type 0 where
  pub given : List ℕ
  pub gives : gave old new given
  pub report : IsRunPushed asks (tells given (ended new)) given (ended new) (took before after) result
