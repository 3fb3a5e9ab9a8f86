use Rattle.std.proofs.Common.{arith}
use Rattle.cap_streams.proofs.sinks.writers.WriteSinkSink.push.Goals as goal

pub returns-in-Ok-clause-some : goal.returns-in-Ok-clause-some
returns-in-Ok-clause-some g c = λ _. omega arith
