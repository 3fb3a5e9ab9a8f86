use Rattle.std.proofs.Common.{◌≢◌, [], inr, refl, rules}
use Rattle.cap_streams.specs.Written.{Writes-nothing}
use Rattle.cap_heap.specs.declared.{events.Event.Event, lines.HeapLine.TheVariants.Happens}
use Rattle.cap_heap.proofs.WhyLemmas.{no_event}
use Rattle.cap_heap.proofs.whys.put_event_lines.Goals as goal

pub returns-in-Some-clause-written : goal.returns-in-Some-clause-written
returns-in-Some-clause-written c =
    let other : (event : Event) → c.in-Some.field-0 ≢ Happens event = search rules in
    ([], inr (no_event c.args.text.now c.in-Some.field-0 c.in-Some.ensures.some other, refl), Writes-nothing)

pub returns-in-None-clause-written : goal.returns-in-None-clause-written
returns-in-None-clause-written c = ([], inr ((λ event. c.in-None.ensures.none (Happens event)), refl), Writes-nothing)
