use Rattle.std.proofs.Common.{◌≡◌, ◌∙◌, ap, subst, sym, Some}
use Rattle.cap_run_judge.specs.{Questions.ExpectsAt, Readings.stage_of}
use Rattle.capcheck_judge.specs.RunHandles.{RunJudgeIn}
use Rattle.capcheck_judge.proofs.RunTakingLemmas.{one_held}
use Rattle.capcheck_judge.proofs.run_places.capcheck_run_judge_expected.Goals as goal

pub returns-in-Some-clause-expected : goal.returns-in-Some-clause-expected
returns-in-Some-clause-expected c = λ asks bytes holds.
    let is : c.args.judge.now.judge ≡ Some c.deref.result.now = c.in-Some.ensures.taken ∙ ap Some (sym c.deref.ensures) in
    record {
      expected = c.expected-expected.result;
      numbers = c.given_of.ensures.given;
      expects = subst (λ (j : RunJudgeIn). ExpectsAt (stage_of j) c.expected-expected.result)
          (one_held c.args.judge.now.judge asks bytes holds c.deref.result.now is) c.expected-expected.ensures.expects;
    }
