use Rattle.std.proofs.Common.{[], ◌≡◌, ◌∙◌, Err, ap, rules, subst, true}
use Rattle.cap_judge.specs.{Readings.{Known, at, stage_of}, Turns.log_turns}
use Rattle.cap_judge.proofs.TurnLemmas.{log_spelled}
use Rattle.cap_judge.proofs.judges.Judge.take_lone_line.Goals as goal
use Rattle.cap_turns.specs.Verdicts.{Lacks}
use Rattle.cap_turns.proofs.{FollowLemmas.{stop_follows, whole_lacks, whole_taken}, LineLemmas.whole_uncut}

pub returns-in-Err-NoMemory-clause-no_memory : goal.returns-in-Err-NoMemory-clause-no_memory
returns-in-Err-NoMemory-clause-no_memory g c = λ _.
    let is : c.is_whole.result ≡ true = search rules in
    let stop = rw (c.in-Err-NoMemory.is ∙ ap Err c.in-Err-NoMemory.field-0-is) at c.take_found_line.ensures.err in
    let same = rw (c.in-Err-NoMemory.is ∙ ap Err c.in-Err-NoMemory.field-0-is) at c.take_found_line.ensures.same in
    whole_lacks log_turns log_spelled (stage_of c.args.self.now) c.args.line.now stop.1 (c.is_whole.ensures.whole is)
    (subst (λ (k : Known). Lacks log_turns (at k.due k.held) c.args.line.now stop.1) (same (λ e. cc)) stop.2)

pub returns-in-Err-Fault-clause-taken : goal.returns-in-Err-Fault-clause-taken
returns-in-Err-Fault-clause-taken g c =
    let stop = rw (c.in-Err-Fault.is ∙ ap Err c.in-Err-Fault.field-0-is) at c.take_found_line.ensures.err in
    stop_follows log_turns (stage_of c.args.self.now) (stage_of c.take_found_line.new.self) [] c.args.line.now stop

pub returns-in-Err-Cut-clause-no_line : goal.returns-in-Err-Cut-clause-no_line
returns-in-Err-Cut-clause-no_line g c =
    let is : c.is_whole.result ≡ true = search rules in
    let stop = rw (c.in-Err-Cut.is ∙ ap Err c.in-Err-Cut.field-0-is) at c.take_found_line.ensures.err in
    absurd (whole_uncut c.args.line.now (c.is_whole.ensures.whole is) stop.1)

pub returns-in-Ok-clause-taken : goal.returns-in-Ok-clause-taken
returns-in-Ok-clause-taken g c =
    let is : c.is_whole.result ≡ true = search rules in
    let line = c.in-Ok.ensures.ok in
    whole_taken log_turns log_spelled (stage_of c.args.self.now) (stage_of c.take_found_line.new.self) c.args.line.now _ line.0 (c.is_whole.ensures.whole is) line.1 line.2
