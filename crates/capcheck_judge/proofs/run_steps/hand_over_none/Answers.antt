use Rattle.std.proofs.Common.{refl, subst, sym, Option}
use Rattle.capcheck_judge.specs.{Holding.IsNoStep, RunHandles.RunJudgeIn}
use Rattle.capcheck_judge.proofs.run_steps.hand_over_none.Goals as goal

pub returns-in-Some-clause-state : goal.returns-in-Some-clause-state
returns-in-Some-clause-state c = subst (λ (h : Option RunJudgeIn). IsNoStep h 5) (sym c.in-Some.ensures.taken) refl
