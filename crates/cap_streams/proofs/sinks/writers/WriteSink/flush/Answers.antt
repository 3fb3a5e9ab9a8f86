use Rattle.std.proofs.Common.{refl}
use Rattle.cap_streams.proofs.sinks.writers.WriteSink.flush.Goals as goal

pub returns-in-Ok-clause-flushed : goal.returns-in-Ok-clause-flushed
returns-in-Ok-clause-flushed g c = refl
