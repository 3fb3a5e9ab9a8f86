use Rattle.std.proofs.Common.{refl, subst}
use Rattle.cap_machine.specs.Helds.{account_of}
use Rattle.cap_judge.specs.Expectations.{GivesForText}
use Rattle.cap_judge.proofs.judges.Judge.expected.Goals as goal

pub returns-in-WrongResult : goal.returns-in-WrongResult
returns-in-WrongResult g c = record {
  expects = rw c.in-Refused.is (
    λ _. subst (λ t. GivesForText (account_of c.args.self.now.machine) t c.expected_by.result) c.as_slice.ensures.value
        c.expected_by.ensures.gives,
    λ other. absurd (other c.in-WrongResult.is),
  );
}

pub returns-in_default-refusal : goal.returns-in_default-refusal
returns-in_default-refusal g c = record {
  expects = rw c.in-Refused.is (λ wrong. absurd (c.in_default-refusal.not-WrongResult wrong), λ _. refl);
}
