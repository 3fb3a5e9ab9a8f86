use Rattle.std.proofs.Common.{[], ◌≡◌, ◌≢◌, ◌⊎◌, inl, inr, refl, subst}
use Rattle.cap_log.specs.declared.lines.Line.{Line}
use Rattle.cap_judge.specs.{declared.judges.Due.TheVariants.Body, Readings.{Known, at, end_of, stage_of}, Turns.log_turns}
use Rattle.cap_turns.specs.{declared.stops.Stop.{Stop, TheVariants.{Cut, Fault}}, Verdicts.Lacks}
use Rattle.cap_judge.proofs.TurnLemmas.{log_spelled, step_whole}
use Rattle.cap_judge.proofs.judges.Judge.take_ended_step.Goals as goal
use Rattle.cap_turns.proofs.{FollowLemmas.{stop_follows, whole_lacks}, TurnLemmas.ends_at}

pub stop-requires-clause-ends : goal.stop-requires-clause-ends
stop-requires-clause-ends g c =
    let ends = c.requires.ends in
    rw c.requires.body (ends_at log_turns log_spelled (at Body c.args.self.now.machine) c.args.line.now [] (Line.Step ends.0) (end_of c.args.end) ends.1 ends.2)

pub returns-in-NoMemory-clause-no_memory : goal.returns-in-NoMemory-clause-no_memory
returns-in-NoMemory-clause-no_memory g c =
    let ends = c.requires.ends in
    let stop = rw c.in-NoMemory.is at c.stop.ensures.stops in
    let lacks = subst (λ (k : Known). Lacks log_turns (at k.due k.held) c.args.line.now stop.1) (c.stop.ensures.same (λ e. cc)) stop.2 in
    (refl, whole_lacks log_turns log_spelled (stage_of c.args.self.now) c.args.line.now stop.1 (step_whole c.args.line.now ends.0 ends.1) lacks)

fault_only : (stop : Stop) → (stop ≡ Fault) ⊎ (stop ≡ Cut) → stop ≢ Cut → stop ≡ Fault
fault_only stop (inl fault) uncut = fault
fault_only stop (inr cut) uncut = absurd (uncut cut)

pub returns-in-Fault : goal.returns-in-Fault
returns-in-Fault g c =
    let stop = rw (fault_only c.stop.result c.in-Fault.is c.stop.ensures.uncut) at c.stop.ensures.stops in
    record {
      taken = stop_follows log_turns (stage_of c.args.self.now) (stage_of c.stop.new.self) [] c.args.line.now stop;
      unchanged = tt;
      no_memory = tt;
    }
