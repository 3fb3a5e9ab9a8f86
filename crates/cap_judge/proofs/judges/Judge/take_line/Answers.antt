use Rattle.std.proofs.Common.{◌∙◌, Some, ap}
use Rattle.cap_judge.proofs.TurnLemmas.{memory_only, no_line, step_follows, step_whole}
use Rattle.cap_judge.proofs.judges.Judge.take_line.Goals as goal
use Rattle.cap_turns.proofs.LineLemmas.{whole_some}

pub returns-in-Some-Ok-clause-taken : goal.returns-in-Some-Ok-clause-taken
returns-in-Some-Ok-clause-taken g c =
    let step = rw (c.in-Some-Ok.is ∙ ap Some c.in-Some-Ok.field-0-is) at c.take_lone_step.ensures in
    step_follows c.args.self.now.due c.args.self.now.machine _ c.args.line.now c.in-Body.is step

pub returns-in-Some-Ok-clause-no_line : goal.returns-in-Some-Ok-clause-no_line
returns-in-Some-Ok-clause-no_line g c =
    let step = rw (c.in-Some-Ok.is ∙ ap Some c.in-Some-Ok.field-0-is) at c.take_lone_step.ensures in
    no_line _ c.args.line.now (whole_some c.args.line.now (step_whole c.args.line.now step.0 step.1)) (λ e. cc)

pub returns-in-Some-Err-clause-no_line : goal.returns-in-Some-Err-clause-no_line
returns-in-Some-Err-clause-no_line g c =
    let ends = (rw (c.in-Some-Err.is ∙ ap Some c.in-Some-Err.field-0-is) at c.take_lone_step.ensures).0 in
    no_line c.take_ended_step.result c.args.line.now (whole_some c.args.line.now (step_whole c.args.line.now ends.0 ends.1))
    (memory_only c.take_ended_step.result _ c.take_ended_step.ensures.no_memory)
