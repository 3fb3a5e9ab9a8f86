use Rattle.std.proofs.Common.{ap, sym}
use Rattle.capdiag.specs.Judgings.{kind_of}
use Rattle.capdiag.proofs.renderings.kind_of.Goals as goal

pub returns-in-Heap : goal.returns-in-Heap
returns-in-Heap c = record { value = sym (ap kind_of c.in-Heap.is) }
