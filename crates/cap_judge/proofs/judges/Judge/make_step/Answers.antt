use Rattle.std.proofs.Common.{◌++◌, ◌∷◌, [], refl}
use Rattle.cap_log.specs.{declared.lines.Line.Line, Lines.spelling}
use Rattle.cap_judge.proofs.TurnLemmas.{makes_takes, step_follows}
use Rattle.cap_judge.proofs.judges.Judge.make_step.Goals as goal

pub returns-in-Ok-clause-taken : goal.returns-in-Ok-clause-taken
returns-in-Ok-clause-taken g c =
    let old = c.args.self.now.machine in
    let new = c.perform.new.machine in
    let step = g.I.Operands.step c.args.step in
    step_follows c.args.self.now.due old new (spelling (Line.Step step) ++ 10 ∷ []) c.in-Body.is
    (step, (c.perform.ensures.range, refl), makes_takes old new step c.in-Ok.ensures.outcome, c.in-Ok.ensures.outcome.same_room)

pub returns-in-Err-clause-taken : goal.returns-in-Err-clause-taken
returns-in-Err-clause-taken g c = tt
