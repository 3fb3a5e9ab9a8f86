use Rattle.std.proofs.{Common.{◌==◌, ◌∙◌, None, Some, eq-eqb, refl}, lemmas.Bool.cond-true}
use Rattle.cap_ops.specs.declared.refusal.Refusal.TheVariants.{WrongCount}
use Rattle.cap_run.specs.declared.ends.RunRefusal.TheVariants.{Usual}
use Rattle.cap_run_log.specs.declared.lines.RunLine.{RunLine}
use Rattle.cap_run_judge.proofs.TurnLemmas.{body_answers}
use Rattle.cap_run_judge.proofs.judges.RunJudge.follow_body.Goals as goal
use Rattle.cap_run.specs.Machines.{run_in}

pub returns-in-Root : goal.returns-in-Root
returns-in-Root g c =
    rw (c.requires.body, c.in-Root.is, c.declare.ensures.asks)
    (body_answers c.args.self.now.machine.asks (run_in c.args.self.now.machine) (run_in c.declare.new.self) (RunLine.Root c.in-Root.place c.in-Root.word) c.declare.result refl
    c.declare.ensures.outcome)

pub returns-in-Hart : goal.returns-in-Hart
returns-in-Hart g c =
    rw (c.requires.body, c.in-Hart.is, c.switch.ensures.asks)
    (body_answers c.args.self.now.machine.asks (run_in c.args.self.now.machine) (run_in c.switch.new.self) (RunLine.Hart c.in-Hart.hart) c.switch.result refl
    c.switch.ensures.outcome)

pub returns-in-Step : goal.returns-in-Step
returns-in-Step g c =
    rw (c.requires.body, c.in-Step.is, c.make_usual.ensures.asks)
    (body_answers c.args.self.now.machine.asks (run_in c.args.self.now.machine) (run_in c.make_usual.new.self) (RunLine.Step c.in-Step.step) c.make_usual.result refl
    c.make_usual.ensures.outcome)

pub returns-in-Run : goal.returns-in-Run
returns-in-Run g c =
    rw (c.requires.body, c.in-Run.is, c.make.ensures.asks)
    (body_answers c.args.self.now.machine.asks (run_in c.args.self.now.machine) (run_in c.make.new.self) (RunLine.Run c.in-Run.step) c.make.result refl
    c.make.ensures.outcome)

pub returns-else-count-steps : goal.returns-else-count-steps
returns-else-count-steps g c =
    let count = c.in-End.count in
    let steps = c.args.self.now.machine.machine.steps in
    rw (c.requires.body, c.in-End.is)
    (cond-true (count == steps) None (Some (Usual WrongCount)) (eq-eqb count steps (c.if-count-steps.false ∙ c.steps.ensures.value)), refl)
