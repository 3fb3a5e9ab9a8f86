use Rattle.cap_heap.proofs.ProgressLemmas.{counted}
use Rattle.cap_heap.proofs.progress.Progress.count.Goals as goal

pub returns-in-Within : goal.returns-in-Within
returns-in-Within c = record { value = λ beginning stands. counted c.args.self.now beginning c.in-Within.is stands }
