use Rattle.std.proofs.{Common.{◌≡◌, ◌≢◌, [], ap, length, subst, arith, rules}, lemmas.List.nil_from_length}
use Rattle.cap_log.specs.{Lines.{IsInRange, spelling}, Parts.{Begins, BeginsWithNone}}
use Rattle.cap_log.proofs.{SpellingLemmas.{fed_none, fed_some, fed_more, spelling-short}, WriteLemmas.front_and_byte}
use Rattle.cap_log.proofs.readers.read_line.Goals as goal

pub returns-then-bytes-gt-LINE_LIMIT-clause-none : goal.returns-then-bytes-gt-LINE_LIMIT-clause-none
returns-then-bytes-gt-LINE_LIMIT-clause-none c = λ line spells.
    omega (arith, spelling-short line spells.0, ap length spells.1)

pub returns-in_default-clause-none : goal.returns-in_default-clause-none
returns-in_default-clause-none c =
    let text = (front_and_byte _ _ _ _ _ _ _ c.put-length.ensures.written c.put-end.ensures.written).0 in
    fed_none c.args.bytes.now (subst (BeginsWithNone IsInRange spelling 10) text c.in_default.ensures.none)

pub returns-then-is_empty-clause-some : goal.returns-then-is_empty-clause-some
returns-then-is_empty-clause-some c =
    let text = (front_and_byte _ _ _ _ _ _ _ c.put-length.ensures.written c.put-end.ensures.written).0 in
    let all : c.in-Some.rest.now ≡ [] = nil_from_length _ (search rules) in
    fed_some c.args.bytes.now c.in-Some.rest.now c.in-Some.line
    (subst (λ b. Begins IsInRange spelling 10 b c.in-Some.line c.in-Some.rest.now) text c.in-Some.ensures.some) all

pub returns-else-is_empty-clause-none : goal.returns-else-is_empty-clause-none
returns-else-is_empty-clause-none c =
    let text = (front_and_byte _ _ _ _ _ _ _ c.put-length.ensures.written c.put-end.ensures.written).0 in
    let more : c.in-Some.rest.now ≢ [] = search rules in
    fed_more c.args.bytes.now c.in-Some.rest.now c.in-Some.line
    (subst (λ b. Begins IsInRange spelling 10 b c.in-Some.line c.in-Some.rest.now) text c.in-Some.ensures.some) more
