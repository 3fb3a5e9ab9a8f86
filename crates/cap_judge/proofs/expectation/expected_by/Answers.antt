use Rattle.std.proofs.Common.{subst}
use Rattle.cap_log.specs.Lines.{Spells}
use Rattle.cap_machine.specs.Helds.{account_of}
use Rattle.cap_judge.proofs.ExpectedLemmas.{for_text, gives_shown, not_spelled}
use Rattle.cap_judge.proofs.expectation.expected_by.Goals as goal

pub returns-in-Step : goal.returns-in-Step
returns-in-Step g c = record {
  gives = let account = account_of c.args.machine.now in
      let step = c.in-Step.step in
      for_text account c.args.text.now step _ (subst (Spells c.args.text.now) c.in-Step.is c.in-Some.ensures.some)
      (rw (c.expected_of.ensures, c.shown.ensures.shown) (gives_shown account step));
}

pub returns-in_default : goal.returns-in_default
returns-in_default g c = record {
  gives = not_spelled (account_of c.args.machine.now) c.args.text.now c.in-Some.line c.in-Some.ensures.some
      c.in_default.not-Step;
}
