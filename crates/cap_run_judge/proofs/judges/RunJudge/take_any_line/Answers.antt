use Rattle.std.proofs.Common.{[], inl, refl, rules, subst, sym}
use Rattle.cap_run_judge.specs.{Readings.{EndsBytes, end_of, stage_of}, Turns.{RunStage, run_turns}}
use Rattle.cap_run_judge.proofs.TurnLemmas.{clear_of, run_spelled}
use Rattle.cap_run_judge.proofs.judges.RunJudge.take_any_line.Goals as goal
use Rattle.cap_turns.specs.{Turns.IsAtFault, Readings.StopsAt}
use Rattle.cap_turns.proofs.TurnLemmas.{ends_at, goes_none}

pub returns-in-Refused-clause-err : goal.returns-in-Refused-clause-err
returns-in-Refused-clause-err g c =
    let stage = stage_of c.args.self.now in
    (stage, goes_none run_turns stage, inl (search rules, refl))

pub stop-requires : goal.stop-requires
stop-requires g c =
    let old = stage_of c.args.self.now in
    let bytes = c.args.bytes.now in
    let answer = c.in-Err.ensures in
    record {
      found = c.front.ensures.found;
      clear = subst (λ (s : RunStage). IsAtFault s.due → ⊥) (sym answer.1) (clear_of c.args.self.now.due c.in_default.not-Refused);
      ends = subst (λ (s : RunStage). EndsBytes s bytes c.in-Err.end) (sym answer.1)
          (ends_at run_turns run_spelled old bytes c.in-Some.rest.now c.in-Some.line (end_of c.in-Err.end) c.in-Some.ensures.some answer.0);
    }

pub returns-in-Err : goal.returns-in-Err
returns-in-Err g c = record {
  ok = tt;
  err = subst (λ (s : RunStage). StopsAt run_turns s [] c.args.bytes.now c.stop.result (stage_of c.stop.new.self)) c.in-Err.ensures.1
      c.stop.ensures.stops;
}
