use Rattle.std.proofs.Common.{refl, arith}
use Rattle.tagmem.proofs.Regions.{least_later}
use Rattle.tagmem.proofs.directory.Directory.next.Goals as goal

pub least_from-requires-clause-linked : goal.least_from-requires-clause-linked
least_from-requires-clause-linked c = rw (c.deref.ensures.value, c.deref-in-None.ensures.value) c.args.self.now.linked

-- the least region after the number's own has a page
pub returns-in-Some-least_from-clause-least : goal.returns-in-Some-least_from-clause-least
returns-in-Some-least_from-clause-least c =
    least_later c.args.self.now.regions.items c.args.page c.in-Some-least_from.region (λ q le lt. c.in-None.ensures.first q (omega arith) lt)
    (rw c.deref.ensures.value at c.in-Some-least_from.ensures) c.first_in-in-Some-least_from.result c.first_in-in-Some-least_from.ensures.first
    (λ at lt is. c.first_in-in-Some-least_from.ensures.found at lt is refl)
