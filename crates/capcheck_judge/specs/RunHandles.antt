-- What a handle of C holds that judges run logs, and what the calls on it answer (this profile's own, as are all below).
use Rattle.std.specs.Prelude.{◌≡◌, ◌≢◌, ◌<◌, ◌≤◌, ◌↔◌, ℕ, length, drop, take, List, [], ◌∷◌, ◌++◌, Option, None, Some}
use denote.RattleType.{RattleType}
use Rattle.cap_streams.specs.Front.{IsCut, IsLine}
use Rattle.tagmem.specs.contracts.page_store.{PageStore.the_row as store_row, PageStoreTaggedStore.TheImpl.ghosts}
use Rattle.cap_run_log.specs.declared.lines.RunLine.{RunLine}
use Rattle.cap_run_log.specs.RunLines.{IsRunLineInRange, run_spelling}
use Rattle.cap_run.specs.declared.{asks.Asks.Asks, ends.RunRefusal.RunRefusal}
use Rattle.cap_run.specs.Run.{Run}
use Rattle.cap_run_judge.specs.{contracts.judges.RunJudge.the_row as run_judge_row, declared.verdict.RunVerdict.RunVerdict}
use Rattle.cap_run_judge.specs.{Readings.stage_of, Questions.ExpectsAt, Turns.{RunStage, unread, run_turns}, Verdicts.IsRunVerdict}
use Rattle.cap_judge.specs.declared.verdict.Expected.{Expected}
use Rattle.cap_report.specs.Texts.{IsTold}
use Rattle.cap_run_report.specs.Answers.{ExplainsRunEnd, ExplainsRunSoFar}
use Rattle.capcheck_judge.specs.Handles.{IsGiven}
use Rattle.capcheck_judge.specs.declared.{answers.{LinesTaken.LinesTaken, PassedExpected.PassedExpected}, run_handle.RunHandle.RunHandle, run_answers.RunAnswer.RunAnswer}
use Rattle.capcheck_judge.specs.{Holding.IsNoStep, RunAnswers.{run_numbers_of, run_without_verdict}}
use Rattle.cap_turns.specs.{Readings.{Follows, RefusesNext}, Turns.Goes, Verdicts.MayLackMemory}

-- a judge of run logs, over pages
abbrev pub RunJudgeRow : RattleType
RunJudgeRow = run_judge_row store_row ghosts

abbrev pub RunJudgeIn : Type 0
RunJudgeIn = RattleType.Denot RunJudgeRow

-- what a handle holds: a judge, or none
abbrev pub HeldRunJudge : Type 0
HeldRunJudge = Option RunJudgeIn

-- what this handle holds
abbrev pub run_held_in : RunHandle → HeldRunJudge
run_held_in handle = handle.judge

-- a handle holds a judge that was opened with what is asked, and has taken these bytes
pub record HoldsRun (held : HeldRunJudge) (asks : Asks) (bytes : List ℕ) : Type 0 where
  pub judge : RunJudgeIn
  pub held_is : held ≡ Some judge
  pub taken : Follows run_turns (unread asks) bytes (stage_of judge)

-- how far the judge of a handle has read, where there is one
abbrev pub stage_in : HeldRunJudge → Option RunStage
stage_in None = None
stage_in (Some judge) = Some (stage_of judge)

-- the run behind these bytes, or before their faulty line
abbrev pub run_behind : {held : HeldRunJudge} {asks : Asks} {bytes : List ℕ} → HoldsRun held asks bytes → Run
run_behind holds = (stage_of holds.judge).state.run

-- the bytes are whole lines that begin a run log, none of them faulty
abbrev pub BeginsRun : Asks → List ℕ → Type 0
BeginsRun asks bytes = (stage : RunStage) × Goes run_turns (unread asks) bytes stage

-- the verdict that stands whatever bytes follow these, or none while no line is faulty
abbrev pub StandsRun : Asks → List ℕ → Option RunVerdict → Type 0
StandsRun asks bytes None = BeginsRun asks bytes
StandsRun asks bytes (Some verdict) = (more : List ℕ) → IsRunVerdict asks (bytes ++ more) verdict

-- how the bytes stand, in numbers: the state 0 says that none of their lines is faulty
abbrev pub StandingRun : Option RunVerdict → RunAnswer → Type 0
StandingRun None answer = answer ≡ run_without_verdict 0
StandingRun (Some verdict) answer = answer ≡ run_numbers_of verdict

-- C learns how a run log stands that begins with these bytes
pub record AnswersRunSoFar (asks : Asks) (bytes : List ℕ) (answer : RunAnswer) : Type 0 where
  pub verdict : Option RunVerdict
  pub numbers : StandingRun verdict answer
  pub stands : StandsRun asks bytes verdict

-- C gets the verdict on these bytes
pub record AnswersRunEnd (asks : Asks) (bytes : List ℕ) (answer : RunAnswer) : Type 0 where
  pub verdict : RunVerdict
  pub numbers : answer ≡ run_numbers_of verdict
  pub is_verdict : IsRunVerdict asks bytes verdict

-- C gets the verdict on these bytes, or learns that there is none for want of memory
pub record AnswersRunBytes (asks : Asks) (bytes : List ℕ) (answer : RunAnswer) : Type 0 where
  pub verdict : answer.state ≢ 3 → AnswersRunEnd asks bytes answer
  pub no_memory : answer.state ≡ 3 → (answer ≡ run_without_verdict 3) × ((more : List ℕ) × MayLackMemory run_turns (unread asks) bytes more)

-- what a call answers that hands over a text as one line: that it was taken, and no line so far is faulty; that it or one
-- before it is faulty; that memory ran out at it; that there is no judge; or that it is none
pub record HandsOverRunText (text : List ℕ) (old new : HeldRunJudge) (state : ℕ) : Type 0 where
  pub answers : state < 6
  pub never_yes : state ≢ 1
  pub taken : state < 3 → (asks : Asks) (bytes : List ℕ) → HoldsRun old asks bytes → HoldsRun new asks (bytes ++ text)
  pub goes_on : state ≡ 0 → (asks : Asks) (bytes : List ℕ) → HoldsRun old asks bytes → BeginsRun asks (bytes ++ text)
  pub at_fault : state ≡ 2 → (asks : Asks) (bytes : List ℕ) → HoldsRun old asks bytes
      → (verdict : RunVerdict) × StandsRun asks (bytes ++ text) (Some verdict)
  pub unchanged : 2 < state → stage_in new ≡ stage_in old
  pub still_holds : 2 < state → (asks : Asks) (bytes : List ℕ) → HoldsRun old asks bytes → HoldsRun new asks bytes
  pub no_memory : state ≡ 3 → (asks : Asks) (bytes : List ℕ) → HoldsRun old asks bytes → MayLackMemory run_turns (unread asks) (bytes ++ text) []
  pub no_judge : (state ≡ 4) ↔ (old ≡ None)
  pub held : (new ≡ None) ↔ (old ≡ None)

-- what a call answers that hands over a step: where the step's line is in range, what the call answers that hands over
-- that line; else that it is none
pub record HandsOverRun (line : RunLine) (old new : HeldRunJudge) (state : ℕ) : Type 0 where
  pub handed : HandsOverRunText (run_spelling line ++ 10 ∷ []) old new state
  pub no_line : (state ≡ 5) ↔ ((old ≢ None) × (¬ IsRunLineInRange line))

-- the same for the line of a step that C's numbers name; and where they name none, nothing has changed
abbrev pub HandsOverRunStep : Option RunLine → HeldRunJudge → HeldRunJudge → ℕ → Type 0
HandsOverRunStep (Some line) old new state = HandsOverRun line old new state
HandsOverRunStep None old new state = IsNoStep old state × (new ≡ old)

-- a front is the text of lines that begin a run log, and the line that begins the rest is refused, whatever follows
abbrev pub IsRunRefusedAfter : Asks → List ℕ → List ℕ → Type 0
IsRunRefusedAfter asks front rest =
    (stage : RunStage) × (refusal : RunRefusal) × Goes run_turns (unread asks) front stage × RefusesNext run_turns stage rest refusal

-- what a call answers that hands over as many whole lines as some bytes begin with: how many bytes were taken; and that
-- no line so far is faulty, and less than a line is left; that a line is faulty, the next one, or an earlier one, and
-- then no bytes were taken; that memory ran out at the next line, which no check refuses; or that there is no judge
pub record HandsOverRunLines (given : List ℕ) (old new : HeldRunJudge) (answer : LinesTaken) : Type 0 where
  pub few : answer.bytes ≤ length given
  pub answers : answer.state < 5
  pub never_yes : answer.state ≢ 1
  pub taken : answer.state ≢ 2 → (asks : Asks) (bytes : List ℕ) → HoldsRun old asks bytes
      → HoldsRun new asks (bytes ++ take answer.bytes given)
  pub goes_on : answer.state ≡ 0 → (asks : Asks) (bytes : List ℕ) → HoldsRun old asks bytes
      → BeginsRun asks (bytes ++ take answer.bytes given) × IsCut (drop answer.bytes given)
  pub read_all : answer.state ≡ 2 → (asks : Asks) (bytes : List ℕ) → HoldsRun old asks bytes → HoldsRun new asks (bytes ++ given)
  pub at_fault : answer.state ≡ 2 → (asks : Asks) (bytes : List ℕ) → HoldsRun old asks bytes
      → (verdict : RunVerdict) × StandsRun asks (bytes ++ given) (Some verdict)
  pub faulty : answer.state ≡ 2 → (asks : Asks) (bytes : List ℕ) → HoldsRun old asks bytes → BeginsRun asks bytes
      → IsRunRefusedAfter asks (bytes ++ take answer.bytes given) (drop answer.bytes given)
  pub faulty_before : answer.state ≡ 2 → (asks : Asks) (bytes : List ℕ) → HoldsRun old asks bytes → (BeginsRun asks bytes → ⊥)
      → answer.bytes ≡ 0
  pub no_memory : answer.state ≡ 3 → (asks : Asks) (bytes : List ℕ) → HoldsRun old asks bytes
      → (line : List ℕ) × (more : List ℕ) × IsLine (drop answer.bytes given) line more × MayLackMemory run_turns (unread asks) (bytes ++ given) more
  pub no_judge : (answer.state ≡ 4) ↔ (old ≡ None)
  pub nothing : old ≡ None → answer.bytes ≡ 0
  pub held : (new ≡ None) ↔ (old ≡ None)

-- C learns what the rules give for the faulty line at a stage, where it is refused for its result
pub record AnswersRunExpected (stage : RunStage) (given : PassedExpected) : Type 0 where
  pub expected : Option Expected
  pub numbers : IsGiven expected given
  pub expects : ExpectsAt stage expected

-- C gets the text of how a run log stands that begins with these bytes, where there is room for it: none while no line is
-- faulty, and never more than 3,136 bytes
pub record AnswersRunReport (asks : Asks) (bytes old new : List ℕ) (count : ℕ) : Type 0 where
  pub verdict : Option RunVerdict
  pub text : List ℕ
  pub explains : ExplainsRunSoFar asks bytes verdict text
  pub few : length text ≤ 3136
  pub told : IsTold 0 count text old new

-- C gets the text of the verdict on these bytes as a whole run log, where there is room for it: never more than 3,136 bytes
pub record AnswersRunEndReport (asks : Asks) (bytes old new : List ℕ) (count : ℕ) : Type 0 where
  pub verdict : RunVerdict
  pub text : List ℕ
  pub explains : ExplainsRunEnd asks bytes verdict text
  pub few : length text ≤ 3136
  pub told : IsTold 0 count text old new
