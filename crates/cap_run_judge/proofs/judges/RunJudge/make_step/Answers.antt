use Rattle.std.proofs.Common.{None, ap, refl}
use Rattle.cap_run_log.specs.declared.lines.RunLine.TheVariants as lines
use Rattle.cap_run_judge.specs.Readings.{due_of}
use Rattle.cap_run_judge.proofs.{FollowLemmas.{no_body, ok_no_err, stage_stays, step_follows, step_unmade, tried}}
use Rattle.cap_run_judge.proofs.judges.RunJudge.make_step.Goals as goal
use Rattle.cap_run.specs.Machines.{run_in}

pub returns-in-Ok-clause-taken : goal.returns-in-Ok-clause-taken
returns-in-Ok-clause-taken g c =
    let s = c.args.self.now in
    let step = g.I.Operands.step c.args.step in
    rw c.make_instruction.ensures.asks
    (step_follows s.machine.asks (run_in s.machine) (run_in c.make_instruction.new.self) (due_of s.due) (lines.Step step)
    (ap due_of c.in-Body.is) c.make_instruction.ensures.range refl c.in-Ok.ensures.outcome)

pub returns-in-Err-clause-same : goal.returns-in-Err-clause-same
returns-in-Err-clause-same g c =
    let s = c.args.self.now in
    stage_stays s.machine.asks c.make_instruction.new.self.asks (run_in s.machine) (run_in c.make_instruction.new.self) (due_of s.due) (lines.Step (g.I.Operands.step c.args.step))
    c.in-Err.end c.make_instruction.ensures.asks c.in-Err.ensures.outcome

pub returns-in-Ok-clause-goes_on : goal.returns-in-Ok-clause-goes_on
returns-in-Ok-clause-goes_on g c = rw c.in-Body.is (λ is. is)

pub returns-in-Ok-clause-untried : goal.returns-in-Ok-clause-untried
returns-in-Ok-clause-untried g c = λ is. absurd (ok_no_err tt None is)

pub returns-in-Err-clause-unmade : goal.returns-in-Err-clause-unmade
returns-in-Err-clause-unmade g c =
    let s = c.args.self.now in
    step_unmade s.machine.asks (run_in s.machine) (run_in c.make_instruction.new.self) (due_of s.due) (lines.Step (g.I.Operands.step c.args.step))
    c.in-Err.end (ap due_of c.in-Body.is) c.in-Err.ensures.outcome

pub returns-in-Err-clause-untried : goal.returns-in-Err-clause-untried
returns-in-Err-clause-untried g c = λ is. absurd (tried c.in-Err.end is)

pub returns : goal.returns
returns g c = record { taken = tt; goes_on = tt; same = refl; unmade = tt; untried = λ _. no_body c.args.self.now.due c.in_default.not-Body }
