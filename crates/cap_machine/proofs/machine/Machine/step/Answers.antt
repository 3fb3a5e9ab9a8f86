use Rattle.cap_machine.proofs.EscapeLemmas.{clears_exactly, escape_exact, step_within}
use Rattle.cap_machine.proofs.machine.Machine.step.Goals as goal

pub returns-clause-stays_within : goal.returns-clause-stays_within
returns-clause-stays_within g c =
    step_within c.args.self.now c.make.new.machine
    c.args.step.now c.make.result c.make.ensures.range c.kept.ensures.kept.sound c.make.ensures.outcome

pub returns-clause-escape : goal.returns-clause-escape
returns-clause-escape g c =
    escape_exact c.args.self.now c.make.new.machine
    c.args.step.now c.make.result c.make.ensures.range c.kept.ensures.kept.sound c.make.ensures.outcome

pub returns-clause-clears : goal.returns-clause-clears
returns-clause-clears g c =
    clears_exactly c.args.self.now c.make.new.machine
    c.args.step.now c.make.result c.make.ensures.range c.kept.ensures.kept.sound c.make.ensures.outcome
