use Rattle.std.proofs.Common.{◌≡◌, ◌∙◌, ap, sym, Some}
use Rattle.cap_judge.specs.Readings.{stage_of}
use Rattle.cap_judge.proofs.{ExpectedLemmas.expects, TurnLaws.reached}
use Rattle.capcheck_judge.proofs.HandleLemmas.{held_taken}
use Rattle.capcheck_judge.proofs.places.capcheck_judge_expected.Goals as goal

pub returns-in-Some-clause-expected : goal.returns-in-Some-clause-expected
returns-in-Some-clause-expected c = λ bytes holds.
    let is : c.args.judge.now.judge ≡ Some c.deref.result.now = c.in-Some.ensures.taken ∙ ap Some (sym c.deref.ensures) in
    let taken = held_taken c.args.judge.now.judge bytes holds c.deref.result.now is in
    let stage = stage_of c.deref.result.now in
    record {
      expected = c.expected-expected.result;
      numbers = c.given_of.ensures.given;
      expects = expects bytes stage.state stage.due c.expected-expected.result (reached bytes stage taken)
          c.expected-expected.ensures.expects;
    }
