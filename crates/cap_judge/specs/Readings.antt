-- What a judge has read of the bytes that it was handed (this profile's own, as are all below).
use Rattle.std.specs.Prelude.{◌≡◌, ◌≢◌, ℕ, ◌+◌, Bool, false, List, [], ◌++◌, length, map, Option, None, Some}
use Rattle.std.specs.{Prelude.{Result, Ok, Err}, Borrow.Bor}
use Rattle.cap_ops.specs.declared.refusal.Refusal.{Refusal}
use Rattle.cap_streams.specs.{declared.judging.judge_faults.JudgeFault.JudgeFault, FaultLines.bytes_of}
use Rattle.cap_log.specs.{declared.{kinds.Step.Step, lines.Line.Line}, Lines.{IsInRange, Spells, spelling}, Parts.Begins}
use Rattle.cap_log.specs.declared.lines.Line.TheVariants as lines
use Rattle.cap_machine.specs.{declared.ends.StepEnd.StepEnd, Helds.{Held, IsFull, account_of}}
use Rattle.cap_machine.specs.declared.ends.StepEnd.TheVariants as ends
use Rattle.cap_turns.specs.{declared.stops.Stop.Stop, Turns.{Body, Due, Ended, First, Goes, IsAtFault, Refused, Second}}
use Rattle.cap_turns.specs.{Readings.{Follows, StopsAt, Takes, due_at_end}, Verdicts.{IsLastFront, RefusesWhole}}
use Rattle.cap_turns.specs.Readings as turns
use Rattle.cap_judge.specs.{declared.judges.Judge.Judge, declared.verdict.Verdict.{Verdict, TheVariants.{Yes, No}}}
use Rattle.cap_judge.specs.Judgings.{IsBehind, IsVerdictOf, LeadsAfter, StopsIn, account_before}
use Rattle.cap_judge.specs.{Logs.{Beginning, lines_of, text_of, IsAccepted, Refuses}, Turns.{LogStage, log_turns, unread}}
use Rattle.cap_judge.specs.declared.faults.RefusedLine as faults
use Rattle.cap_judge.specs.declared.judges.Due as code
use Rattle.cap_judge.specs.declared.judges.Due.TheVariants as dues

-- what a judge knows: what its machine holds, and what the next line has to be
pub record Known : Type 0 where
  pub held : Held
  pub due : code.Due

-- what a judge knows, whatever its store
abbrev pub known_of : {M : Type 0} → Judge M → Known
known_of judge = record { held = judge.machine; due = judge.due }

-- how many granules surely have room, of the store of a judge
abbrev pub room_of : {M : Type 0} → Judge M → ℕ
room_of judge = judge.machine.least_room

-- at least as many granules were put
abbrev pub IsFullJudge : {M : Type 0} → Judge M → Type 0
IsFullJudge judge = IsFull judge.machine

-- what the code's stage says
abbrev pub due_of : code.Due → Due Refusal
due_of dues.First = First
due_of dues.Second = Second
due_of dues.Body = Body
due_of dues.Ended = Ended
due_of (dues.Refused fault) = Refused fault.line fault.refusal (bytes_of fault.text)

-- how far a log is read, by what a machine holds and the code's stage
abbrev pub at : code.Due → Held → LogStage
at stage held = record { state = account_of held; due = due_of stage }

-- how far a judge has read
abbrev pub stage_of : {M : Type 0} → Judge M → LogStage
stage_of judge = at judge.due judge.machine

-- the refusal with which a line is not taken, or none where memory is wanted
abbrev pub end_of : StepEnd → Option Refusal
end_of (ends.Refused refusal) = Some refusal
end_of ends.NoMemory = None

-- why a line is not taken
abbrev pub EndsLine : LogStage → Line → StepEnd → Type 0
EndsLine stage line end = turns.EndsLine log_turns stage line (end_of end)

-- why a line with this text is not taken
abbrev pub EndsText : LogStage → List ℕ → StepEnd → Type 0
EndsText stage text (ends.Refused refusal) = RefusesWhole log_turns stage text refusal
EndsText stage text ends.NoMemory = (line : Line) × Spells text line × EndsLine stage line ends.NoMemory

-- why what the bytes begin with is not taken
abbrev pub EndsBytes : LogStage → List ℕ → StepEnd → Type 0
EndsBytes stage bytes end = turns.EndsBytes log_turns stage bytes (end_of end)

-- where memory is refused, at least as many granules were put as surely have room
abbrev pub IsFullAt : StepEnd → Held → Type 0
IsFullAt (ends.Refused refusal) held = Unit {0}
IsFullAt ends.NoMemory held = IsFull held

-- a judge's answer to a line: it leads to what the judge knows then; or it isn't taken, for this reason, and nothing has
-- changed
abbrev pub AnswersLine : Known → Line → Result (Unit {0}) StepEnd → Known → Type 0
AnswersLine old line (Ok done) new =
    Takes log_turns (at old.due old.held) line (at new.due new.held) × (new.held.least_room ≡ old.held.least_room)
AnswersLine old line (Err end) new = EndsLine (at old.due old.held) line end × (new ≡ old) × IsFullAt end old.held

-- the bytes are lines of steps, by which a machine goes from what it held to what it holds
pub record MakesSteps (old : Held) (bytes : List ℕ) (new : Held) : Type 0 where
  pub goes : Goes log_turns (at dues.Body old) bytes (at dues.Body new)
  pub steps : List Step
  pub lines_are : goes.lines ≡ map lines.Step steps
  pub same_room : new.least_room ≡ old.least_room

-- a judge has read these bytes
abbrev pub HasRead : {M : Type 0} → Judge M → List ℕ → Type 0
HasRead judge bytes = Follows log_turns unread bytes (stage_of judge)

-- it stopped so, or took a front that is not empty
abbrev pub GoesOrStops : LogStage → List ℕ → List ℕ → Option Stop → LogStage → Type 0
GoesOrStops old front rest None new = (front ≢ []) × Goes log_turns old front new
GoesOrStops old front rest (Some stop) new = StopsAt log_turns old front rest stop new

-- the bytes begin with the line of a step, by which a machine goes from what it held to what it holds, before this rest
abbrev pub TakesStep : Held → List ℕ → Held → List ℕ → Type 0
TakesStep old bytes new rest =
    (step : Step) × Begins IsInRange spelling 10 bytes (lines.Step step) rest
    × Takes log_turns (at dues.Body old) (lines.Step step) (at dues.Body new) × (new.least_room ≡ old.least_room)

-- a step was taken from the front of the bytes; or none, and nothing has changed; or the one there isn't made, and
-- nothing has changed
abbrev pub TakesOne : Held → List ℕ → Result (Option (Bor (List ℕ))) StepEnd → Held → Type 0
TakesOne old bytes (Ok (Some rest)) new = TakesStep old bytes new rest.now
TakesOne old bytes (Ok None) new = new ≡ old
TakesOne old bytes (Err end) new = EndsBytes (at dues.Body old) bytes end × (new ≡ old) × IsFullAt end old

-- the bytes are the line of a step that the machine does not make
abbrev pub EndsStepLine : Held → List ℕ → StepEnd → Type 0
EndsStepLine held bytes end =
    (step : Step) × Begins IsInRange spelling 10 bytes (lines.Step step) [] × EndsLine (at dues.Body held) (lines.Step step) end

-- a step may come next, and the machine does not make this one
abbrev pub IsUnmade : {M : Type 0} → Judge M → Step → StepEnd → Type 0
IsUnmade judge step end = (judge.due ≡ dues.Body) × EndsLine (at dues.Body judge.machine) (lines.Step step) end

-- the bytes are the line of a step, which was taken, or isn't made; or they are none
abbrev pub TakesAll : Held → List ℕ → Option (Result (Unit {0}) StepEnd) → Held → Type 0
TakesAll old bytes (Some (Ok done)) new = TakesStep old bytes new []
TakesAll old bytes (Some (Err end)) new = EndsStepLine old bytes end × (new ≡ old)
TakesAll old bytes None new = new ≡ old

-- the `no` that stands whatever bytes follow, once a line is faulty
abbrev pub verdict_so_far : Due Refusal → Option Verdict
verdict_so_far (Refused line refusal text) = Some (No line refusal)
verdict_so_far due = None

-- which line is faulty, or that none is
abbrev pub IsFaultOf : Due Refusal → Option faults.RefusedLine → Type 0
IsFaultOf due (Some fault) = due ≡ Refused fault.line fault.refusal (bytes_of fault.text)
IsFaultOf due None = IsAtFault due → ⊥

-- the verdict on a log that ends there, and after a no the text of the faulty line
abbrev pub VerdictAtEnd : LogStage → List ℕ → Verdict → List ℕ → Type 0
VerdictAtEnd stage rest (Yes steps roots) text =
    (due_at_end log_turns stage.state stage.due rest ≡ Ended) × (steps ≡ stage.state.steps) × (roots ≡ stage.state.roots)
VerdictAtEnd stage rest (No line refusal) text = due_at_end log_turns stage.state stage.due rest ≡ Refused line refusal text

-- a yes, or the faulty line
abbrev pub AnswerAtEnd : LogStage → List ℕ → Result Verdict faults.RefusedLine → Type 0
AnswerAtEnd stage rest (Ok (Yes steps roots)) = VerdictAtEnd stage rest (Yes steps roots) []
AnswerAtEnd stage rest (Ok (No line refusal)) = ⊥
AnswerAtEnd stage rest (Err fault) = VerdictAtEnd stage rest (No fault.line fault.refusal) (bytes_of fault.text)

-- a verdict on bytes whose source has ended, or a no that stands whatever follows them; with what the machine holds
-- then, and the text of the faulty line
abbrev pub VerdictWith : List ℕ → Bool → Held → Verdict → List ℕ → Type 0
VerdictWith bytes ended held verdict text =
    IsVerdictOf bytes ended verdict × LeadsAfter bytes held verdict × StopsIn bytes ended held text verdict

-- what follows a beginning, by what the next line has to be: nothing; or what begins with a faulty line, whatever follows
abbrev pub IsRest : Due Refusal → Beginning → List ℕ → Type 0
IsRest (Refused line refusal text) beginning rest =
    (line ≡ length (lines_of beginning) + 1) × IsLastFront rest false text × ((more : List ℕ) → Refuses beginning (rest ++ more) refusal)
IsRest due beginning rest = rest ≡ []

-- the bytes are the text of a beginning that is accepted, whose account this is, and a rest: nothing, or what begins
-- with the faulty line
pub record IsReached (stage : LogStage) (bytes : List ℕ) : Type 0 where
  pub beginning : Beginning
  pub rest : List ℕ
  pub behind : IsBehind bytes beginning rest
  pub account : stage.state ≡ account_before beginning
  pub rest_is : IsRest stage.due beginning rest

-- the bytes are whole lines that begin a log, whose steps have a run: none of them is a fault
pub record BeginsWhole (bytes : List ℕ) : Type 0 where
  pub beginning : Beginning
  pub bytes_are : bytes ≡ text_of (lines_of beginning)
  pub accepted : IsAccepted beginning

-- how a log that begins with these bytes stands: none of its lines so far is a fault, or there is a no that stands
-- whatever bytes follow
abbrev pub Stands : List ℕ → Option Verdict → Type 0
Stands bytes None = BeginsWhole bytes
Stands bytes (Some verdict) = IsVerdictOf bytes false verdict

-- a yes or a no, and after a no the text of the line at fault
abbrev pub IsAnswered : Result Verdict faults.RefusedLine → Result Verdict JudgeFault → List ℕ → Type 0
IsAnswered (Ok verdict) answer text = answer ≡ Ok verdict
IsAnswered (Err fault) answer text = (answer ≡ Ok (No fault.line fault.refusal)) × (text ≡ bytes_of fault.text)
