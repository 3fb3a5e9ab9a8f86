use Rattle.std.proofs.Common.{arith, rules}
use Rattle.cap_objects.proofs.handouts.Handouts.extent_fault.Goals as goal

pub returns-then-from-top-clause-none : goal.returns-then-from-top-clause-none
returns-then-from-top-clause-none c below = absurd (omega (arith, below, c.if-from-top.true, c.from.ensures))

pub returns-in-Some-first_met-clause-some : goal.returns-in-Some-first_met-clause-some
returns-in-Some-first_met-clause-some c = (search rules, (omega (arith, c.if-from-top.false, c.from.ensures), c.in-Some-first_met.ensures))

pub returns-in-None-first_met-clause-some : goal.returns-in-None-first_met-clause-some
returns-in-None-first_met-clause-some c =
    (search rules, (omega (arith, c.if-from-top.false, c.from.ensures), c.in-None-first_met.ensures, c.in-Some.ensures))
