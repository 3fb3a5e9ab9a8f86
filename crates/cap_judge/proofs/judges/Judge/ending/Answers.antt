use Rattle.std.proofs.Common.{◌≢◌, [], rules}
use Rattle.cap_machine.specs.Helds.{account_of}
use Rattle.cap_judge.specs.{Readings.stage_of, Turns.log_turns}
use Rattle.cap_judge.proofs.TurnLemmas.{ends_refused, unended}
use Rattle.cap_turns.proofs.TurnLemmas.{ended_some}
use Rattle.cap_judge.proofs.judges.Judge.ending.Goals as goal

pub returns-else-is_empty-clause-ends : goal.returns-else-is_empty-clause-ends
returns-else-is_empty-clause-ends g c = λ cut.
    let some : c.args.rest.now ≢ [] = search rules in
    ends_refused (stage_of c.args.self.now) c.args.rest.now _ c.fault.result
    (rw c.in-Ended.is (ended_some log_turns (account_of c.args.self.now.machine) c.args.rest.now some))
    cut c.fault.ensures.line c.fault.ensures.refusal c.fault.ensures.front

pub returns-in_default-clause-ends : goal.returns-in_default-clause-ends
returns-in_default-clause-ends g c = λ cut.
    ends_refused (stage_of c.args.self.now) c.args.rest.now _ c.fault-in_default.result
    (unended c.args.self.now.due (account_of c.args.self.now.machine) c.args.rest.now c.in_default.not-Ended c.in_default.not-Refused)
    cut c.fault-in_default.ensures.line c.fault-in_default.ensures.refusal c.fault-in_default.ensures.front
