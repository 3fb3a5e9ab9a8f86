use Rattle.std.proofs.Common.{subst, sym}
use Rattle.cap_machine.specs.{Accounts.Account, Helds.account_of}
use Rattle.cap_judge.specs.Expectations.{GivesFor}
use Rattle.cap_judge.proofs.ExpectedLemmas.{gives_shown}
use Rattle.cap_run_log.specs.RunLines.{SpellsRun}
use Rattle.cap_run_log.specs.declared.lines.RunLine.{RunLine}
use Rattle.cap_run.specs.Machines.{run_in}
use Rattle.cap_run_judge.proofs.QuestionLemmas.{for_text, gives_bare, not_for_text, other_line}
use Rattle.cap_run_judge.proofs.questions.given_for.Goals as goal

pub returns-in-Step : goal.returns-in-Step
returns-in-Step g c = record {
  gives = λ asks.
      let account = account_of c.machine.result.now in
      let step = c.in-Step.step in
      let gives : GivesFor account step c.expected_of.result = rw (c.expected_of.ensures, c.shown.ensures.shown) (gives_shown account step) in
      for_text asks (run_in c.args.machine.now) c.args.text.now step c.expected_of.result
      (subst (SpellsRun c.args.text.now) c.in-Step.is c.in-Some.ensures.some)
      (subst (λ (a : Account). GivesFor a step c.expected_of.result) (sym c.machine.ensures.account)
      (gives_bare account step c.expected_of.result gives));
}

pub returns-in_default : goal.returns-in_default
returns-in_default g c = record {
  gives = λ asks.
      not_for_text asks (run_in c.args.machine.now) c.args.text.now
      (other_line c.args.text.now c.in-Some.line c.in-Some.ensures.some c.in_default.not-Step);
}

pub returns-in-None : goal.returns-in-None
returns-in-None g c = record {
  gives = λ asks.
      not_for_text asks (run_in c.args.machine.now) c.args.text.now (λ step spells. c.in-None.ensures.none (RunLine.Step step) spells);
}
