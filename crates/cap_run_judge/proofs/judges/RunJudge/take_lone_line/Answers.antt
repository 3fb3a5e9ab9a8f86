use Rattle.std.proofs.Common.{[], ◌∙◌, Err, Ok, ap, refl, subst, sym}
use Rattle.cap_run_judge.specs.{Readings.stage_of, Turns.{RunStage, run_turns}}
use Rattle.cap_judge.specs.declared.verdict.TakeFault.TheVariants.{NoLine, NoMemory}
use Rattle.cap_run_judge.proofs.{FollowLemmas.{memory_no_line, ok_no_err, whole_is_line}, TurnLemmas.run_spelled}
use Rattle.cap_run_judge.proofs.judges.RunJudge.take_lone_line.Goals as goal
use Rattle.cap_turns.specs.Verdicts.{Lacks}
use Rattle.cap_turns.proofs.{LineLemmas.whole_uncut, TurnLemmas.nothing_goes, FollowLemmas.{stop_follows, whole_lacks, whole_taken}}

pub returns-in-Err-NoMemory-clause-unchanged : goal.returns-in-Err-NoMemory-clause-unchanged
returns-in-Err-NoMemory-clause-unchanged g c =
    let stop = rw (c.in-Err-NoMemory.is ∙ ap Err c.in-Err-NoMemory.field-0-is) at c.take_any_line.ensures.err in
    nothing_goes run_turns (stage_of c.args.self.now) (stage_of c.take_any_line.new.self) stop.0

pub returns-in-Err-NoMemory-clause-no_memory : goal.returns-in-Err-NoMemory-clause-no_memory
returns-in-Err-NoMemory-clause-no_memory g c = λ _.
    let stop = rw (c.in-Err-NoMemory.is ∙ ap Err c.in-Err-NoMemory.field-0-is) at c.take_any_line.ensures.err in
    let same = nothing_goes run_turns (stage_of c.args.self.now) (stage_of c.take_any_line.new.self) stop.0 in
    whole_lacks run_turns run_spelled (stage_of c.args.self.now) c.args.line.now stop.1 (c.is_whole.ensures.whole c.if-not-is_whole.false)
    (subst (λ (s : RunStage). Lacks run_turns s c.args.line.now stop.1) same stop.2)

pub returns-in-Err-Fault-clause-taken : goal.returns-in-Err-Fault-clause-taken
returns-in-Err-Fault-clause-taken g c =
    let stop = rw (c.in-Err-Fault.is ∙ ap Err c.in-Err-Fault.field-0-is) at c.take_any_line.ensures.err in
    stop_follows run_turns (stage_of c.args.self.now) (stage_of c.take_any_line.new.self) [] c.args.line.now stop

pub returns-in-Err-Cut-clause-unchanged : goal.returns-in-Err-Cut-clause-unchanged
returns-in-Err-Cut-clause-unchanged g c =
    let stop = rw (c.in-Err-Cut.is ∙ ap Err c.in-Err-Cut.field-0-is) at c.take_any_line.ensures.err in
    nothing_goes run_turns (stage_of c.args.self.now) (stage_of c.take_any_line.new.self) stop.0

pub returns-in-Err-Cut-clause-no_line : goal.returns-in-Err-Cut-clause-no_line
returns-in-Err-Cut-clause-no_line g c =
    let stop = rw (c.in-Err-Cut.is ∙ ap Err c.in-Err-Cut.field-0-is) at c.take_any_line.ensures.err in
    absurd (whole_uncut c.args.line.now (c.is_whole.ensures.whole c.if-not-is_whole.false) stop.1)

pub returns-in-Ok-clause-taken : goal.returns-in-Ok-clause-taken
returns-in-Ok-clause-taken g c =
    let line = c.in-Ok.ensures.ok in
    whole_taken run_turns run_spelled (stage_of c.args.self.now) (stage_of c.take_any_line.new.self) c.args.line.now _ line.0 (c.is_whole.ensures.whole c.if-not-is_whole.false) line.1 line.2

pub returns-then-not-is_whole-clause-no_line : goal.returns-then-not-is_whole-clause-no_line
returns-then-not-is_whole-clause-no_line g c = (λ _. c.is_whole.ensures.none c.if-not-is_whole.true, λ _. refl)

pub returns-then-not-is_whole-clause-no_memory : goal.returns-then-not-is_whole-clause-no_memory
returns-then-not-is_whole-clause-no_memory g c = λ is. absurd (memory_no_line (sym is))

pub returns-in-Ok-clause-no_line : goal.returns-in-Ok-clause-no_line
returns-in-Ok-clause-no_line g c = whole_is_line c.args.line.now (Ok tt) (ok_no_err tt NoLine) (c.is_whole.ensures.whole c.if-not-is_whole.false)

pub returns-in-Ok-clause-no_memory : goal.returns-in-Ok-clause-no_memory
returns-in-Ok-clause-no_memory g c = λ is. absurd (ok_no_err tt NoMemory is)

pub returns-in-Err-Fault-clause-no_line : goal.returns-in-Err-Fault-clause-no_line
returns-in-Err-Fault-clause-no_line g c = whole_is_line c.args.line.now (Ok tt) (ok_no_err tt NoLine) (c.is_whole.ensures.whole c.if-not-is_whole.false)

pub returns-in-Err-Fault-clause-no_memory : goal.returns-in-Err-Fault-clause-no_memory
returns-in-Err-Fault-clause-no_memory g c = λ is. absurd (ok_no_err tt NoMemory is)

pub returns-in-Err-NoMemory-clause-no_line : goal.returns-in-Err-NoMemory-clause-no_line
returns-in-Err-NoMemory-clause-no_line g c = whole_is_line c.args.line.now (Err NoMemory) memory_no_line (c.is_whole.ensures.whole c.if-not-is_whole.false)

pub returns-in-Err-Cut-clause-no_memory : goal.returns-in-Err-Cut-clause-no_memory
returns-in-Err-Cut-clause-no_memory g c = λ is. absurd (memory_no_line (sym is))

pub returns-in-Err-NoMemory-clause-taken : goal.returns-in-Err-NoMemory-clause-taken
returns-in-Err-NoMemory-clause-taken g c = tt
