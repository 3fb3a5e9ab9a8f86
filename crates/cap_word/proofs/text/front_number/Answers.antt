use Rattle.std.proofs.Common.{◌*◌, ◌≤◌, take, ap, ◌∙◌, arith, take-take}
use Rattle.cap_word.proofs.text.front_number.Goals as goal

pub returns-in-Some-clause-some : goal.returns-in-Some-clause-some
returns-in-Some-clause-some c =
    let few : 2 * c.args.size ≤ 16 = omega (arith, c.requires.at_most) in
    let same = ap (take (2 * c.args.size)) c.in-Some.ensures.cases.0 ∙ take-take (2 * c.args.size) 16 c.args.bytes.now few in
    rw same at c.read_front.ensures.some

pub returns-in-Some-clause-none : goal.returns-in-Some-clause-none
returns-in-Some-clause-none c =
    let few : 2 * c.args.size ≤ 16 = omega (arith, c.requires.at_most) in
    let same = ap (take (2 * c.args.size)) c.in-Some.ensures.cases.0 ∙ take-take (2 * c.args.size) 16 c.args.bytes.now few in
    rw same at c.read_front.ensures.none
