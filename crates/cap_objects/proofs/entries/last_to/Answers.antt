use Rattle.std.proofs.Common.{arith}
use Rattle.cap_objects.proofs.CountLemmas.{blank, last-none, last-one}
use Rattle.cap_objects.proofs.entries.last_to.Goals as goal

pub returns-then-count-eq0 : goal.returns-then-count-eq0
returns-then-count-eq0 c =
    let n = c.count_to-count in
    last-none c.args.entries.now c.requires n.result c.args.key blank n.ensures.within n.ensures.low n.ensures.high (omega (arith, c.if-count-eq0.true))

pub returns : goal.returns
returns c =
    let n = c.count_to-count in
    last-one c.args.entries.now c.requires n.result c.args.key blank n.ensures.within n.ensures.low n.ensures.high (omega (arith, c.if-count-eq0.false))
