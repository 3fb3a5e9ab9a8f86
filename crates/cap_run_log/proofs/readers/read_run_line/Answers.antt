use Rattle.std.proofs.{Common.{◌≡◌, ◌≢◌, [], ap, length, subst, arith, rules}, lemmas.List.nil_from_length}
use Rattle.cap_log.specs.Parts.{Begins, BeginsWithNone}
use Rattle.cap_run_log.specs.RunLines.{IsRunLineInRange, run_spelling}
use Rattle.cap_run_log.proofs.Spellings.{run_fed_none, run_fed_some, run_fed_more, run_spelling-short, front_and_byte}
use Rattle.cap_run_log.proofs.readers.read_run_line.Goals as goal

pub returns-then-bytes-gt-LINE_LIMIT-clause-none : goal.returns-then-bytes-gt-LINE_LIMIT-clause-none
returns-then-bytes-gt-LINE_LIMIT-clause-none c = λ line spells.
    let short = run_spelling-short line spells.0 in
    let same = ap length spells.1 in
    let long = c.if-bytes-gt-LINE_LIMIT.true in
    omega arith

pub returns-in_default-clause-none : goal.returns-in_default-clause-none
returns-in_default-clause-none c =
    let short = c.if-bytes-gt-LINE_LIMIT.false in
    let ends = c.put-length.ensures.written.ends in
    let ends' = c.put-end.ensures.written.ends in
    let text = (front_and_byte _ _ _ _ _ _ _ c.put-length.ensures.written c.put-end.ensures.written (omega arith)).0 in
    run_fed_none c.args.bytes.now (subst (BeginsWithNone IsRunLineInRange run_spelling 10) text c.in_default.ensures.none)

pub returns-then-is_empty-clause-some : goal.returns-then-is_empty-clause-some
returns-then-is_empty-clause-some c =
    let short = c.if-bytes-gt-LINE_LIMIT.false in
    let ends = c.put-length.ensures.written.ends in
    let ends' = c.put-end.ensures.written.ends in
    let text = (front_and_byte _ _ _ _ _ _ _ c.put-length.ensures.written c.put-end.ensures.written (omega arith)).0 in
    let all : c.in-Some.rest.now ≡ [] = nil_from_length _ (search rules) in
    run_fed_some c.args.bytes.now c.in-Some.rest.now c.in-Some.line
    (subst (λ b. Begins IsRunLineInRange run_spelling 10 b c.in-Some.line c.in-Some.rest.now) text c.in-Some.ensures.some) all

pub returns-else-is_empty-clause-none : goal.returns-else-is_empty-clause-none
returns-else-is_empty-clause-none c =
    let short = c.if-bytes-gt-LINE_LIMIT.false in
    let ends = c.put-length.ensures.written.ends in
    let ends' = c.put-end.ensures.written.ends in
    let text = (front_and_byte _ _ _ _ _ _ _ c.put-length.ensures.written c.put-end.ensures.written (omega arith)).0 in
    let more : c.in-Some.rest.now ≢ [] = search rules in
    run_fed_more c.args.bytes.now c.in-Some.rest.now c.in-Some.line
    (subst (λ b. Begins IsRunLineInRange run_spelling 10 b c.in-Some.line c.in-Some.rest.now) text c.in-Some.ensures.some) more
