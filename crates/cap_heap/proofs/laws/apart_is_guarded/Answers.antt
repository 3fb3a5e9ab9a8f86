use Rattle.cap_heap.proofs.Guarded.{guards_log, guarded_log}
use Rattle.cap_heap.proofs.laws.apart_is_guarded.Goals as goal

pub returns : goal.returns
returns c = record {
  law = λ lines root events. (guards_log lines root events, guarded_log lines root events);
}
