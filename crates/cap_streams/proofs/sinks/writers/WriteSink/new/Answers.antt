use Rattle.std.proofs.Common.{refl}
use Rattle.cap_streams.proofs.sinks.writers.WriteSink.new.Goals as goal

pub returns-clause-unflushed : goal.returns-clause-unflushed
returns-clause-unflushed g c = refl
