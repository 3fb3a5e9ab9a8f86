use Rattle.std.proofs.Common.{sym, subst, OnOk}
use Rattle.cap_heap.specs.{declared.lines.HeapLine.HeapLine, Progresses.Takes}
use Rattle.cap_heap.proofs.ProgressLemmas.{stays_event, takes_event}
use Rattle.cap_heap.proofs.progress.Progress.take_read.Goals as goal

pub returns-in-Happens-clause-ok : goal.returns-in-Happens-clause-ok
returns-in-Happens-clause-ok c =
    subst (λ (line : HeapLine). OnOk c.happen.result (Takes c.args.self.now line c.happen.new.self)) (sym c.in-Happens.is)
    (takes_event c.args.self.now c.happen.new.self c.in-Happens.event c.requires.stage c.happen.ensures.stage c.happen.result c.happen.ensures.ok)

pub returns-in-Happens-clause-stays : goal.returns-in-Happens-clause-stays
returns-in-Happens-clause-stays c =
    stays_event c.args.self.now c.happen.new.self c.happen.ensures.stage c.happen.result c.happen.ensures.stays
