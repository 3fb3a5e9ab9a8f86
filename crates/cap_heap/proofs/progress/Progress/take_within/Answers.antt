use Rattle.cap_heap.proofs.ProgressLemmas.{ends_within}
use Rattle.cap_heap.proofs.progress.Progress.take_within.Goals as goal

pub returns-in-Some-clause-err : goal.returns-in-Some-clause-err
returns-in-Some-clause-err c =
    ends_within c.args.self.now c.args.text.now c.in-Some.line c.requires c.in-Some.ensures.some c.take_read.result c.take_read.ensures.err
