use Rattle.std.proofs.Common.{[], ◌≡◌, ◌≢◌, ◌⊎◌, inl, inr, subst}
use Rattle.cap_judge.specs.declared.verdict.TakeFault.TheVariants.{NoLine, NoMemory}
use Rattle.cap_turns.specs.{declared.stops.Stop.{Stop, TheVariants.{Cut, Fault}}, Readings.StopsAt, Verdicts.Lacks}
use Rattle.cap_run_judge.specs.{Readings.{end_of, stage_of}, Turns.{RunStage, run_turns}}
use Rattle.cap_run_judge.proofs.{FollowLemmas.ok_no_err, TurnLemmas.run_spelled}
use Rattle.cap_run_judge.proofs.judges.RunJudge.take_ended_step.Goals as goal
use Rattle.cap_turns.proofs.{LineLemmas.whole_uncut, FollowLemmas.{line_whole, stop_follows, whole_lacks}}
use Rattle.cap_turns.proofs.TurnLemmas.{ends_at, nothing_goes}

pub stop-requires-clause-ends : goal.stop-requires-clause-ends
stop-requires-clause-ends g c =
    let ends = c.requires.ends in
    ends_at run_turns run_spelled (stage_of c.args.self.now) c.args.text.now [] ends.0 (end_of c.args.end) ends.1 ends.2.1

pub returns-in-NoMemory-clause-unchanged : goal.returns-in-NoMemory-clause-unchanged
returns-in-NoMemory-clause-unchanged g c =
    nothing_goes run_turns (stage_of c.args.self.now) (stage_of c.stop.new.self) (c.in-NoMemory.ensures.stops).0

pub returns-in-NoMemory-clause-no_memory : goal.returns-in-NoMemory-clause-no_memory
returns-in-NoMemory-clause-no_memory g c = λ _.
    let ends = c.requires.ends in
    let stop = c.in-NoMemory.ensures.stops in
    let same = nothing_goes run_turns (stage_of c.args.self.now) (stage_of c.stop.new.self) stop.0 in
    whole_lacks run_turns run_spelled (stage_of c.args.self.now) c.args.text.now stop.1 (line_whole run_turns run_spelled c.args.text.now ends.0 ends.1)
    (subst (λ (s : RunStage). Lacks run_turns s c.args.text.now stop.1) same stop.2)

fault_only : (stop : Stop) → (stop ≡ Fault) ⊎ (stop ≡ Cut) → stop ≢ Cut → stop ≡ Fault
fault_only stop (inl fault) uncut = fault
fault_only stop (inr cut) uncut = absurd (uncut cut)

pub returns-in-Fault : goal.returns-in-Fault
returns-in-Fault g c =
    let old = stage_of c.args.self.now in
    let new = stage_of c.stop.new.self in
    let text = c.args.text.now in
    let ends = c.requires.ends in
    let uncut : c.stop.result ≢ Cut = λ cut.
    let stop = subst (λ (s : Stop). StopsAt run_turns old [] text s new) cut c.stop.ensures.stops in
    whole_uncut text (line_whole run_turns run_spelled text ends.0 ends.1) stop.1 in
    let stop = subst (λ (s : Stop). StopsAt run_turns old [] text s new) (fault_only c.stop.result c.in-Fault.is uncut) c.stop.ensures.stops in
    record { taken = stop_follows run_turns old new [] text stop; unchanged = tt; line = ok_no_err tt NoLine; no_memory = λ e. absurd (ok_no_err tt NoMemory e) }
