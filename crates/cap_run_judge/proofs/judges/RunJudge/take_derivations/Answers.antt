use Rattle.std.proofs.Common.{[], refl, subst, sym}
use Rattle.cap_run.proofs.StepTakingLemmas.{line_shorter}
use Rattle.cap_run_judge.specs.{Readings.stage_of, Turns.{RunStage, run_turns}}
use Rattle.cap_run_judge.proofs.judges.RunJudge.take_derivations.Goals as goal
use Rattle.cap_turns.specs.Turns.{Goes}
use Rattle.cap_turns.proofs.TurnLemmas.{goes_line, goes_none}

pub lines-init : goal.lines-init
lines-init g c = record { taken = ([], refl, goes_none run_turns (stage_of c.args.self.now)); body = c.requires }

pub lines-preserved-in-Some : goal.lines-preserved-in-Some
lines-preserved-in-Some g c =
    let so_far = c.lines.invariant.taken in
    let line = c.in-Some.ensures.some in
    record {
      taken = goes_line run_turns (stage_of c.args.self.now) (stage_of c.lines.self) (stage_of c.take_exchange-front.new.self) c.args.bytes.now so_far.0
          c.lines.rest.now c.in-Some.behind.now line.0 so_far.1 so_far.2 line.1 line.2;
      body = c.take_exchange-front.ensures.body;
    }

pub lines-preserved : goal.lines-preserved
lines-preserved g c =
    let first = stage_of c.args.self.now in
    let middle = stage_of c.take_exchange-front.new.self in
    let so_far = c.lines.invariant.taken in
    let line = c.in-Some-take_derive.ensures.some in
    record {
      taken = goes_line run_turns first middle (stage_of c.take_derive.new.self) c.args.bytes.now so_far.0 c.lines.rest.now c.in-Some-take_derive.behind.now
          line.0 so_far.1 (subst (λ (stage : RunStage). Goes run_turns first so_far.0 stage) (sym c.in-None.ensures.none) so_far.2) line.1 line.2;
      body = c.take_derive.ensures.body;
    }

pub lines-smaller-in-Some : goal.lines-smaller-in-Some
lines-smaller-in-Some g c = let line = c.in-Some.ensures.some in line_shorter _ _ line.0 line.1

pub lines-smaller : goal.lines-smaller
lines-smaller g c = let line = c.in-Some-take_derive.ensures.some in line_shorter _ _ line.0 line.1

pub returns-in-None-take_derive-clause-taken : goal.returns-in-None-take_derive-clause-taken
returns-in-None-take_derive-clause-taken g c = rw (c.in-None-take_derive.ensures.none, c.in-None.ensures.none) c.lines.invariant.taken
