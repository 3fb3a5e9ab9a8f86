use Rattle.std.proofs.Common.{refl, arith}
use Rattle.cap_heap.proofs.ProgressLemmas.{takes_end}
use Rattle.cap_heap.proofs.progress.Progress.end.Goals as goal

pub returns-clause-ok : goal.returns-clause-ok
returns-clause-ok c = takes_end c.args.self.now _ c.args.count c.requires.stage refl refl refl refl (omega (arith, c.if-count-self.false))
