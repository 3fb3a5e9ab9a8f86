use Rattle.std.proofs.{Common.arith, lemmas.Bool.Decides.nat_tests}
use Rattle.cap_bounds.proofs.Decoded.{AreBounds-unique}
use Rattle.plain.proofs.decoding.plain_sound.Goals as goal

pub returns-then-from-plain_length : goal.returns-then-from-plain_length
returns-then-from-plain_length c =
    let found = c.plain_bounds-base in
    let are = AreBounds-unique c.args.word.0 found.result.base found.result.top found.ensures.relation in
    let length = c.plain_length.ensures.value in
    let base = c.from.ensures in
    let test = c.if-from-plain_length.true in
    record { sound = grind (arith, nat_tests) }

pub returns-else-from-plain_length : goal.returns-else-from-plain_length
returns-else-from-plain_length c =
    let found = c.plain_bounds-base in
    let are = AreBounds-unique c.args.word.0 found.result.base found.result.top found.ensures.relation in
    let length = c.plain_length.ensures.value in
    let base = c.from.ensures in
    let test = c.if-from-plain_length.false in
    record { sound = grind (arith, nat_tests) }
