use Rattle.std.proofs.Common.{◌≡◌, ◌∙◌, ap, subst, sym, Some}
use Rattle.cap_log.specs.Lines.{IsStepInRange}
use Rattle.cap_run_log.specs.declared.lines.RunLine.{RunLine}
use Rattle.cap_halves.specs.PassedRuns.{IsStepFrom}
use Rattle.capcheck_judge.proofs.RunStepLemmas.{no_run_step, run_step_handed}
use Rattle.capcheck_judge.proofs.run_steps.hand_over_usual.Goals as goal

pub returns-in-Some-take : goal.returns-in-Some-take
returns-in-Some-take c = record {
  handed = λ passed from.
      let is : c.args.judge.now.judge ≡ Some c.deref_mut.result.now = c.in-Some-take.ensures.taken ∙ ap Some (sym c.deref_mut.ensures.value) in
      run_step_handed RunLine.Step passed c.in-Some.step c.args.judge.now.judge c.put.new.self.judge c.deref_mut.result.now
      c.take_usual_step-state.new.judge c.take_usual_step-state.result (subst (IsStepFrom IsStepInRange passed) c.in-Some.is from) is c.put.ensures
      c.take_usual_step-state.ensures.answers c.take_usual_step-state.ensures.takes;
}

pub returns-in-None : goal.returns-in-None
returns-in-None c = record {
  handed = λ passed from.
      no_run_step RunLine.Step passed c.args.judge.now.judge c.hand_over_none.new.judge.judge c.hand_over_none.result
      (subst (IsStepFrom IsStepInRange passed) c.in-None.is from) c.hand_over_none.ensures.state c.hand_over_none.ensures.kept;
}
