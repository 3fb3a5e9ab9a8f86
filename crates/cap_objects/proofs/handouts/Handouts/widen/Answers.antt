use Rattle.std.proofs.{Common.{arith, sym, ◌∙◌}, lemmas.Option.same_Some}
use Rattle.cap_objects.proofs.handouts.Handouts.widen.Goals as goal

pub returns-in-Some-clause-fault : goal.returns-in-Some-clause-fault
returns-in-Some-clause-fault c object is =
    rw (same_Some object c.get-object.result (sym is ∙ c.get-object.ensures), ← c.top.ensures.value, ← c.max-high.ensures, ← c.min-low.ensures)
    c.in-Some.ensures.some.1

pub move_base-requires-clause-room : goal.move_base-requires-clause-room
move_base-requires-clause-room c = c.in_default.ensures.none (omega (arith, c.if-from-high.false, c.from.ensures))

pub returns-in-Ok-clause-room : goal.returns-in-Ok-clause-room
returns-in-Ok-clause-room c object is =
    rw (same_Some object c.get-object.result (sym is ∙ c.get-object.ensures), ← c.top.ensures.value, ← c.max-high.ensures, ← c.min-low.ensures)
    c.in_default.ensures.none
