use Rattle.std.proofs.Common.{inl, inr, refl, rules, subst, sym, drop, take, ◌+◌}
use Rattle.cap_streams.specs.Front.{IsFront}
use Rattle.cap_judge.specs.{Readings.{EndsBytes, Known, at, stage_of}, Turns.log_turns}
use Rattle.cap_judge.proofs.TurnLemmas.{begins_by, text_ends_at}
use Rattle.cap_judge.proofs.judges.Judge.take_found_line.Goals as goal
use Rattle.cap_turns.proofs.TurnLemmas.{goes_none}

pub returns-in-Refused-clause-err : goal.returns-in-Refused-clause-err
returns-in-Refused-clause-err g c =
    let stage = stage_of c.args.self.now in
    (stage, goes_none log_turns stage, inl (search rules, refl))

pub stop-requires-clause-ends : goal.stop-requires-clause-ends
stop-requires-clause-ends g c = inr (subst (IsFront c.args.bytes.now) c.in-TooLong.is c.requires.found, c.refusal_of_long.ensures)

pub stop-requires-in-Err-clause-ends : goal.stop-requires-in-Err-clause-ends
stop-requires-in-Err-clause-ends g c =
    let n = c.in-Line.length in
    let bytes = c.args.bytes.now in
    let found = (subst (IsFront bytes) c.in-Line.is c.requires.found).1 in
    subst (λ (k : Known). EndsBytes (at k.due k.held) bytes c.in-Err.end) (sym c.in-Err.ensures.same)
    (text_ends_at (stage_of c.args.self.now) bytes (take n bytes) (drop (n + 1) bytes) c.in-Err.end found c.in-Err.ensures.err)

pub returns-in-Ok-clause-ok : goal.returns-in-Ok-clause-ok
returns-in-Ok-clause-ok g c =
    let n = c.in-Line.length in
    let bytes = c.args.bytes.now in
    let found = (subst (IsFront bytes) c.in-Line.is c.requires.found).1 in
    let line = c.in-Ok.ensures.ok in
    (line.0, begins_by line.0 bytes (take n bytes) (drop (n + 1) bytes) found line.1, line.2)
