use Rattle.std.proofs.Common.{Ok, refl}
use Rattle.cap_run_log.specs.declared.lines.RunLine.{RunLine}
use Rattle.cap_run_judge.specs.Readings.{due_of}
use Rattle.cap_run_judge.proofs.{FollowLemmas.stage_stays, TurnLemmas.body_answers}
use Rattle.cap_run_judge.proofs.judges.RunJudge.take_step.Goals as goal
use Rattle.cap_run.specs.Machines.{run_in}

pub returns-in-Ok-clause-some : goal.returns-in-Ok-clause-some
returns-in-Ok-clause-some g c =
    let s = c.args.self.now in
    let line = RunLine.Run c.in-Some.step in (
      line,
      c.in-Some.ensures.some,
      rw (c.requires.body, c.make.ensures.asks)
          (body_answers s.machine.asks (run_in s.machine) (run_in c.make.new.self) line (Ok tt) refl c.in-Ok.ensures.outcome),
    )

pub returns-in-Err-clause-none : goal.returns-in-Err-clause-none
returns-in-Err-clause-none g c =
    let s = c.args.self.now in
    stage_stays s.machine.asks c.make.new.self.asks (run_in s.machine) (run_in c.make.new.self) (due_of s.due) (RunLine.Run c.in-Some.step)
    c.in-Err.field-0 c.make.ensures.asks c.in-Err.ensures.outcome
