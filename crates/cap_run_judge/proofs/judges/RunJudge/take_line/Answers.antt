use Rattle.std.proofs.Common.{◌≡◌, ◌∙◌, ℕ, List, [], Some, Result, Ok, Err, OnOk, IfErr, ap, refl, subst, sym}
use Rattle.cap_judge.specs.declared.verdict.TakeFault.TheVariants.{NoLine, NoMemory}
use Rattle.cap_log.specs.declared.kinds.Step.{Step}
use Rattle.cap_run.specs.{declared.{asks.Asks.Asks, ends.RunEnd.RunEnd}, Run.Run, RunChanges.usual_after, RunChecks.{Answers, usual_end, usual_wants}, StepLines.TakesAlone}
use Rattle.cap_run_log.specs.{declared.lines.RunLine.RunLine, RunLines.run_spelling}
use Rattle.cap_run_judge.specs.{Readings.{AnswersLine, EndsLine, due_of, stage_of}, Turns.{RunStage, run_turns}}
use Rattle.cap_run_judge.proofs.{FollowLemmas.ok_no_err, TurnLemmas.{body, body_answers, run_spelled, asked}}
use Rattle.cap_run.proofs.StepTakingLemmas.{err_same}
use Rattle.cap_run_judge.proofs.judges.RunJudge.take_line.Goals as goal
use Rattle.cap_run.specs.Machines.{run_in}
use Rattle.cap_turns.specs.{Readings.Follows, Turns.{Body, Due}, Verdicts.Lacks}
use Rattle.cap_turns.proofs.{FollowLemmas.{line_whole, whole_taken}, TurnLemmas.line_is}
use Rattle.cap_run.specs.declared.ends.RunRefusal.{RunRefusal}

-- a machine that changed nothing leads to the same stage
abbrev stage_by : Asks → Run → Due RunRefusal → RunStage
stage_by asks_are run_is due_is = record { state = asked asks_are run_is; due = due_is }

same_stage : (asks_are asks_then : Asks) (old new : Run) (due_is : Due RunRefusal) → asks_then ≡ asks_are → new ≡ old
    → stage_by asks_then new due_is ≡ stage_by asks_are old due_is
same_stage asks_are asks_then old new due_is asked same =
    ap (λ (a : Asks). stage_by a new due_is) asked ∙ ap (λ (r : Run). stage_by asks_are r due_is) same

alone_same : (asks_are asks_then : Asks) (old new : Run) (due_is : Due RunRefusal) (line : List ℕ) (end : RunEnd)
    → TakesAlone asks_are old line (Some (Err end)) asks_then new → stage_by asks_then new due_is ≡ stage_by asks_are old due_is
alone_same asks_are asks_then old new due_is line end taken =
    same_stage asks_are asks_then old new due_is taken.3
    (err_same (usual_end asks_are old taken.0) (usual_after old taken.0) (usual_wants old taken.0) old end new taken.2)

-- a machine's answer to a step
step_answers : (asks_are : Asks) (old new : Run) (step : Step) (result : Result (Unit {0}) RunEnd)
    → Answers (usual_end asks_are old step) (usual_after old step) (usual_wants old step) old result new
    → AnswersLine (body asks_are old) (RunLine.Step step) result (body asks_are new)
step_answers asks_are old new step result answers = body_answers asks_are old new (RunLine.Step step) result refl answers

pub take_ended_step-requires : goal.take_ended_step-requires
take_ended_step-requires g c =
    let s = c.args.self.now in
    let n = c.take_lone_step.new.self in
    let old = run_in s.machine in
    let taken = subst (λ (r : Result (Unit {0}) RunEnd). TakesAlone s.machine.asks (run_in s.machine) c.args.line.now (Some r) n.asks (run_in n))
    c.in-Some-Err.field-0-is c.in-Some-Err.ensures.taken in
    let line = RunLine.Step taken.0 in
    let answer = step_answers s.machine.asks old (run_in n) taken.0 (Err c.in-Some-Err.end) taken.2 in
    record {
      ends = (
        line,
        taken.1,
        rw c.in-Body.is
            (refl, subst (λ (st : RunStage). EndsLine st line c.in-Some-Err.end) (sym (alone_same s.machine.asks n.asks old (run_in n) Body c.args.line.now c.in-Some-Err.end taken)) answer.0),
      );
    }

pub returns-in-Some-Ok-clause-taken : goal.returns-in-Some-Ok-clause-taken
returns-in-Some-Ok-clause-taken g c =
    let s = c.args.self.now in
    let n = c.take_lone_step.new.self in
    let taken = rw (c.in-Some-Ok.is ∙ ap Some c.in-Some-Ok.field-0-is) at c.take_lone_step.ensures.taken in
    let line = RunLine.Step taken.0 in
    rw (c.in-Body.is, taken.3)
    (whole_taken run_turns run_spelled (body s.machine.asks (run_in s.machine)) (body s.machine.asks (run_in n)) c.args.line.now [] line (line_whole run_turns run_spelled c.args.line.now line taken.1) taken.1
    (step_answers s.machine.asks (run_in s.machine) (run_in n) taken.0 (Ok tt) taken.2))

pub returns-in-Some-Ok-clause-no_line : goal.returns-in-Some-Ok-clause-no_line
returns-in-Some-Ok-clause-no_line g c =
    let taken = rw (c.in-Some-Ok.is ∙ ap Some c.in-Some-Ok.field-0-is) at c.take_lone_step.ensures.taken in (
      λ e. absurd (ok_no_err tt NoLine e),
      λ none. absurd (none.0 (run_spelling (RunLine.Step taken.0)) (line_is run_turns run_spelled (RunLine.Step taken.0) c.args.line.now [] taken.1)),
    )

pub returns-in-Some-Err-clause-taken : goal.returns-in-Some-Err-clause-taken
returns-in-Some-Err-clause-taken g c =
    let s = c.args.self.now in
    let n = c.take_lone_step.new.self in
    let old = run_in s.machine in
    let taken = subst (λ (r : Result (Unit {0}) RunEnd). TakesAlone s.machine.asks (run_in s.machine) c.args.line.now (Some r) n.asks (run_in n))
    c.in-Some-Err.field-0-is c.in-Some-Err.ensures.taken in
    subst (λ (st : RunStage). OnOk c.take_ended_step.result (Follows run_turns st c.args.line.now (stage_of c.take_ended_step.new.self)))
    (alone_same s.machine.asks n.asks old (run_in n) (due_of s.due) c.args.line.now c.in-Some-Err.end taken) c.take_ended_step.ensures.taken

pub returns-in-Some-Err-clause-unchanged : goal.returns-in-Some-Err-clause-unchanged
returns-in-Some-Err-clause-unchanged g c =
    let s = c.args.self.now in
    let n = c.take_lone_step.new.self in
    let old = run_in s.machine in
    let taken = subst (λ (r : Result (Unit {0}) RunEnd). TakesAlone s.machine.asks (run_in s.machine) c.args.line.now (Some r) n.asks (run_in n))
    c.in-Some-Err.field-0-is c.in-Some-Err.ensures.taken in
    subst (λ (st : RunStage). IfErr c.take_ended_step.result (λ _. stage_of c.take_ended_step.new.self ≡ st))
    (alone_same s.machine.asks n.asks old (run_in n) (due_of s.due) c.args.line.now c.in-Some-Err.end taken) c.take_ended_step.ensures.unchanged

pub returns-in-Some-Err-clause-no_line : goal.returns-in-Some-Err-clause-no_line
returns-in-Some-Err-clause-no_line g c =
    let taken = rw (c.in-Some-Err.is ∙ ap Some c.in-Some-Err.field-0-is) at c.take_lone_step.ensures.taken in (
      λ e. absurd (c.take_ended_step.ensures.line e),
      λ none. absurd (none.0 (run_spelling (RunLine.Step taken.0)) (line_is run_turns run_spelled (RunLine.Step taken.0) c.args.line.now [] taken.1)),
    )

pub returns-in-Some-Err-clause-no_memory : goal.returns-in-Some-Err-clause-no_memory
returns-in-Some-Err-clause-no_memory g c =
    let s = c.args.self.now in
    let n = c.take_lone_step.new.self in
    let old = run_in s.machine in
    let taken = subst (λ (r : Result (Unit {0}) RunEnd). TakesAlone s.machine.asks (run_in s.machine) c.args.line.now (Some r) n.asks (run_in n))
    c.in-Some-Err.field-0-is c.in-Some-Err.ensures.taken in
    subst (λ (st : RunStage). c.take_ended_step.result ≡ Err NoMemory → Lacks run_turns st c.args.line.now [])
    (alone_same s.machine.asks n.asks old (run_in n) (due_of s.due) c.args.line.now c.in-Some-Err.end taken) c.take_ended_step.ensures.no_memory

pub returns-in-None-clause-taken : goal.returns-in-None-clause-taken
returns-in-None-clause-taken g c =
    let s = c.args.self.now in
    let n = c.take_lone_step.new.self in
    let same = c.in-None.ensures.taken in
    subst (λ (st : RunStage). OnOk c.take_lone_line.result (Follows run_turns st c.args.line.now (stage_of c.take_lone_line.new.self)))
    (same_stage s.machine.asks n.asks (run_in s.machine) (run_in n) (due_of s.due) same.1 same.0) c.take_lone_line.ensures.taken

pub returns-in-None-clause-unchanged : goal.returns-in-None-clause-unchanged
returns-in-None-clause-unchanged g c =
    let s = c.args.self.now in
    let n = c.take_lone_step.new.self in
    let same = c.in-None.ensures.taken in
    subst (λ (st : RunStage). IfErr c.take_lone_line.result (λ _. stage_of c.take_lone_line.new.self ≡ st))
    (same_stage s.machine.asks n.asks (run_in s.machine) (run_in n) (due_of s.due) same.1 same.0) c.take_lone_line.ensures.unchanged

pub returns-in-None-clause-no_memory : goal.returns-in-None-clause-no_memory
returns-in-None-clause-no_memory g c =
    let s = c.args.self.now in
    let n = c.take_lone_step.new.self in
    let same = c.in-None.ensures.taken in
    subst (λ (st : RunStage). c.take_lone_line.result ≡ Err NoMemory → Lacks run_turns st c.args.line.now [])
    (same_stage s.machine.asks n.asks (run_in s.machine) (run_in n) (due_of s.due) same.1 same.0) c.take_lone_line.ensures.no_memory
