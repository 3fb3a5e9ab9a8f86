use Rattle.std.proofs.Common.{◌≡◌, ◌∙◌, ap, refl, subst, sym, Some}
use Rattle.cap_log.specs.{Lines.IsStepInRange}
use Rattle.cap_halves.specs.{PassedLines.step_passed, PassedRuns.IsStepFrom}
use Rattle.capcheck_judge.specs.{Handles.HeldJudge, Holding.IsNoStep}
use Rattle.capcheck_judge.proofs.HandleLemmas.{no_step, passed_step, unjudged_step}
use Rattle.capcheck_judge.proofs.steps.capcheck_judge_step.Goals as goal

pub returns-in-Some-take : goal.returns-in-Some-take
returns-in-Some-take c =
    let passed = step_passed c.args.line.now in
    let from = subst (IsStepFrom IsStepInRange passed) c.in-Some.is c.step_from.ensures.step in
    let is : c.args.judge.now.judge ≡ Some c.deref_mut.result.now = c.in-Some-take.ensures.taken ∙ ap Some (sym c.deref_mut.ensures.value) in
    record {
      step = passed_step passed c.in-Some.step c.args.judge.now.judge c.put.new.self.judge c.deref_mut.result.now c.take_any_step-state.new.judge
          c.take_any_step-state.result from is c.put.ensures c.take_any_step-state.ensures.answers c.take_any_step-state.ensures.takes;
    }

pub returns-in-None-take : goal.returns-in-None-take
returns-in-None-take c = record {
  step = unjudged_step (step_passed c.args.line.now) c.args.judge.now.judge c.take.new.self.judge 4 c.in-None-take.ensures.taken
      c.take.ensures.left refl;
}

pub returns-in-Some-take-2 : goal.returns-in-Some-take-2
returns-in-Some-take-2 c =
    let passed = step_passed c.args.line.now in
    let from = subst (IsStepFrom IsStepInRange passed) c.in-None.is c.step_from.ensures.step in
    let is = c.in-Some-take-2.ensures.taken in
    record {
      step = no_step passed c.args.judge.now.judge c.put-in-Some-take-2.new.self.judge 5 from (subst (λ (h : HeldJudge). IsNoStep h 5) (sym is) refl)
          (c.put-in-Some-take-2.ensures ∙ sym is);
    }

pub returns-in-None-take-2 : goal.returns-in-None-take-2
returns-in-None-take-2 c = record {
  step = unjudged_step (step_passed c.args.line.now) c.args.judge.now.judge c.take-in-None.new.self.judge 4 c.in-None-take-2.ensures.taken
      c.take-in-None.ensures.left refl;
}
