-- What lines lead to, and where a judge of run logs stops.
use Rattle.std.proofs.Common.{◌≡◌, ◌<◌, ℕ, ◌+◌, arith, List, [], ◌∷◌, ◌++◌, length, refl, sym, ap, ◌∙◌, map, length-append}
use Rattle.std.proofs.Common.{Result, Ok, Err}
use Rattle.std.specs.List.{AllByRecursion}
use Rattle.cap_ops.specs.declared.refusal.Refusal.TheVariants.{Truncated}
use Rattle.cap_log.specs.{declared.kinds.Step.Step, Lines.IsStepInRange, Parts.Begins}
use Rattle.cap_streams.specs.{FaultLines.bytes_of, Front.{IsCut, IsFrontText}}
use Rattle.cap_run_log.specs.declared.lines.{RunLine.RunLine}
use Rattle.cap_run_log.specs.RunLines.{IsRunLineInRange, run_spelling}
use Rattle.cap_run_log.proofs.{DecidedRunLines.run_line_decided, Spellings.{one_run_spelling, run_spelling-plain, run_spelling-short}}
use Rattle.cap_turns.specs.{Turns.{Body, Goes, IsAtFault, Reads, lines_read, next_stage, text_of}, Readings.{due_at_end, refused_by}}
use Rattle.cap_turns.proofs.{LineLemmas.cut_text, Laws.AreSpelled}
use Rattle.cap_run.specs.declared.{asks.Asks.Asks, ends.{RunEnd.RunEnd, RunRefusal.{RunRefusal, TheVariants.Usual}}}
use Rattle.cap_run.specs.StepLines.{LeadBy, MakesUsualSteps, text_of_steps}
use Rattle.cap_run.specs.{Run.Run, RunChanges.{line_after, usual_after}, RunChecks.{Answers, line_end, line_wants}}
use Rattle.cap_run.proofs.StepTakingLemmas.{line_shorter}
use Rattle.cap_run_judge.specs.{declared.faults.RefusedRunLine.RefusedRunLine, Turns.{Asked, RunStage, run_turns}}
use Rattle.cap_run_judge.specs.Readings.{AnswersLine, AnswerAtEnd, due_of}
use Rattle.cap_run_judge.specs.declared.judges.Due as code
use Rattle.cap_run_judge.specs.declared.judges.Due.TheVariants as dues

-- what is asked, and a run
abbrev pub asked : Asks → Run → Asked
asked asks_are run_is = record { asks = asks_are; run = run_is }

-- how lines are spelled
pub run_spelled : AreSpelled run_turns
run_spelled = record {
  plain = run_spelling-plain;
  short = run_spelling-short;
  one = λ a b range range' same. one_run_spelling (run_spelling a) a b (range, refl) (range', same);
  decided = run_line_decided;
}

-- what follows a line is shorter than what stands before it
pub later_shorter : (bytes more here rest : List ℕ) (line : RunLine) → bytes ≡ more ++ here → Begins IsRunLineInRange run_spelling 10 here line rest
    → length rest < length bytes
later_shorter bytes more here rest line is begins =
    rw is (omega (arith, length-append more here, line_shorter here rest line begins))

-- Lines of steps of version 2

-- the stage in a body
abbrev pub body : Asks → Run → RunStage
body asks_are run_is = record { state = asked asks_are run_is; due = Body }

steps_in_range : (steps : List Step) → AllByRecursion IsStepInRange steps → AllByRecursion IsRunLineInRange (map RunLine.Step steps)
steps_in_range [] range = tt
steps_in_range (step ∷ steps) range = (range.0, steps_in_range steps range.1)

steps_text : (steps : List Step) → text_of_steps steps ≡ text_of run_turns (map RunLine.Step steps)
steps_text [] = refl
steps_text (step ∷ steps) = ap (λ (t : List ℕ). (run_spelling (RunLine.Step step) ++ 10 ∷ []) ++ t) (steps_text steps)

steps_read : (asks_are : Asks) (old new : Run) (steps : List Step) → LeadBy asks_are old steps new
    → Reads run_turns (body asks_are old) (map RunLine.Step steps) (body asks_are new)
steps_read asks_are old new [] lead = ap (body asks_are) lead
steps_read asks_are old new (step ∷ steps) lead = (lead.0, steps_read asks_are (usual_after old step) new steps lead.1)

pub steps_go : (asks_are : Asks) (old new : Run) (bytes : List ℕ) → MakesUsualSteps asks_are old bytes new
    → Goes run_turns (body asks_are old) bytes (body asks_are new)
steps_go asks_are old new bytes makes = record {
  lines = map RunLine.Step makes.steps;
  in_range = steps_in_range makes.steps makes.in_range;
  bytes_are = makes.bytes_are ∙ steps_text makes.steps;
  reads = steps_read asks_are old new makes.steps makes.leads;
}

-- Answers to lines

-- a machine's answer to a line that leads to another body
pub body_answers : (asks_are : Asks) (old new : Run) (line : RunLine) (result : Result (Unit {0}) RunEnd)
    → next_stage run_turns (body asks_are old) line ≡ body asks_are (line_after old line)
    → Answers (line_end asks_are old line) (line_after old line) (line_wants old line) old result new
    → AnswersLine (body asks_are old) line result (body asks_are new)
body_answers asks_are old new line (Ok done) next answers = (answers.0, ap (body asks_are) answers.1 ∙ sym next)
body_answers asks_are old new line (Err (RunEnd.Refused refusal)) next answers = (answers.0, ap (body asks_are) answers.1)
body_answers asks_are old new line (Err RunEnd.NoMemory) next answers = ((answers.0, answers.1), ap (body asks_are) answers.2)

-- no line is faulty
pub clear_of : (stage : code.Due) → ((fault : RefusedRunLine) → stage ≡ dues.Refused fault → ⊥) → IsAtFault (due_of stage) → ⊥
clear_of (dues.Refused fault) clear is = clear fault refl
clear_of stage clear is = is

-- Where the bytes end

-- the faulty line there
pub ends_refused : (stage : RunStage) (rest : List ℕ) (refusal : RunRefusal) (fault : RefusedRunLine)
    → due_at_end run_turns stage.state stage.due rest ≡ refused_by run_turns stage.state stage.due refusal rest → IsCut rest
    → fault.line ≡ lines_read run_turns stage + 1 → fault.refusal ≡ refusal → IsFrontText rest (bytes_of fault.text)
    → AnswerAtEnd stage rest (Err fault)
ends_refused stage rest refusal fault refused cut number same front =
    refused ∙ cc (number, same, cut_text rest (bytes_of fault.text) cut front)

pub unended : (stage : code.Due) (state : Asked) (rest : List ℕ) → (stage ≡ dues.Ended → ⊥)
    → ((fault : RefusedRunLine) → stage ≡ dues.Refused fault → ⊥)
    → due_at_end run_turns state (due_of stage) rest ≡ refused_by run_turns state (due_of stage) (Usual Truncated) rest
unended dues.Ended state rest goes clear = absurd (goes refl)
unended (dues.Refused fault) state rest goes clear = absurd (clear fault refl)
unended stage state rest goes clear = refl

-- no line is faulty where the end line has come
pub ended_clear : (stage : code.Due) (fault : RefusedRunLine) → stage ≡ dues.Ended → stage ≡ dues.Refused fault → ⊥
ended_clear stage fault ended refused = cc
