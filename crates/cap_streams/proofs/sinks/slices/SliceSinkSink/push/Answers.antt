use Rattle.std.proofs.{Common.{refl, rules}, lemmas.Slice.overwrites}
use Rattle.cap_streams.proofs.sinks.slices.SliceSinkSink.push.Goals as goal

pub returns-clause-bytes : goal.returns-clause-bytes
returns-clause-bytes c = (
  refl,
  record {
    written = record { ends = search rules; written = search (rules, overwrites); rest = λ k above. search (rules, overwrites) };
    inside = search rules;
  },
)
