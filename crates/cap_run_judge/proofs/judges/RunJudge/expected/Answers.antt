use Rattle.std.proofs.Common.{◌∙◌, ap, subst}
use Rattle.cap_run.specs.declared.ends.RunRefusal.{RunRefusal}
use Rattle.cap_run_judge.specs.{Questions.GivesForText}
use Rattle.cap_run.specs.Machines.{run_in}
use Rattle.cap_run_judge.proofs.judges.RunJudge.expected.Goals as goal

pub returns-in-WrongResult : goal.returns-in-WrongResult
returns-in-WrongResult g c =
    let machine = c.args.self.now.machine in
    record {
      expects = rw c.in-Refused.is (
        λ _. subst (λ t. GivesForText machine.asks (run_in machine) t c.given_for.result) c.as_slice.ensures.value
            (c.given_for.ensures.gives machine.asks),
        λ other. absurd (other (c.in-Usual.is ∙ ap RunRefusal.Usual c.in-WrongResult.is)),
      );
    }
