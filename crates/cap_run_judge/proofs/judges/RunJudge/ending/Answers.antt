use Rattle.std.proofs.{Common.{◌≡◌, ◌≢◌, [], refl, rules}, lemmas.List.nil_from_length}
use Rattle.cap_run_judge.specs.{Readings.stage_of, Turns.run_turns}
use Rattle.cap_run_judge.proofs.TurnLemmas.{ended_clear, ends_refused, unended}
use Rattle.cap_turns.proofs.TurnLemmas.{ended_some}
use Rattle.cap_run_judge.proofs.judges.RunJudge.ending.Goals as goal

pub returns-else-is_empty-clause-ends : goal.returns-else-is_empty-clause-ends
returns-else-is_empty-clause-ends g c = λ cut.
    let some : c.args.rest.now ≢ [] = search rules in
    ends_refused (stage_of c.args.self.now) c.args.rest.now _ c.fault.result
    (rw (c.in-Ended.is, c.usual.ensures) (ended_some run_turns (stage_of c.args.self.now).state c.args.rest.now some))
    cut c.fault.ensures.line c.fault.ensures.refusal c.fault.ensures.front

pub returns-in_default-clause-ends : goal.returns-in_default-clause-ends
returns-in_default-clause-ends g c = λ cut.
    ends_refused (stage_of c.args.self.now) c.args.rest.now _ c.fault-in_default.result
    (rw c.usual-in_default.ensures
    (unended c.args.self.now.due (stage_of c.args.self.now).state c.args.rest.now c.in_default.not-Ended c.in_default.not-Refused))
    cut c.fault-in_default.ensures.line c.fault-in_default.ensures.refusal c.fault-in_default.ensures.front

pub returns-then-is_empty-clause-ends : goal.returns-then-is_empty-clause-ends
returns-then-is_empty-clause-ends g c = λ cut.
    let none : c.args.rest.now ≡ [] = nil_from_length _ (search rules) in
    rw (c.in-Ended.is, none) (refl, c.steps.ensures.value, c.roots.ensures.value, c.count.ensures.value)

pub returns-else-is_empty-clause-fault : goal.returns-else-is_empty-clause-fault
returns-else-is_empty-clause-fault g c = λ fault is. absurd (ended_clear c.args.self.now.due fault c.in-Ended.is is)

pub returns-then-is_empty-clause-fault : goal.returns-then-is_empty-clause-fault
returns-then-is_empty-clause-fault g c = λ fault is. absurd (ended_clear c.args.self.now.due fault c.in-Ended.is is)

pub returns-in_default-clause-fault : goal.returns-in_default-clause-fault
returns-in_default-clause-fault g c = λ fault is. absurd (c.in_default.not-Refused fault is)
