use Rattle.std.proofs.Common.{eqb-true}
use Rattle.cap_heap.proofs.heap.Heap.stays_straight.Goals as goal

pub returns-then-self : goal.returns-then-self
returns-then-self c = λ same. (c.if-self.true, eqb-true c.args.base c.args.address same)
