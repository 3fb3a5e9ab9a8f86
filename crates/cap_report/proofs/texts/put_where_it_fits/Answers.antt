use Rattle.std.proofs.{Common.{refl, rules}, lemmas.Slice.overwrites}
use Rattle.cap_report.proofs.texts.put_where_it_fits.Goals as goal

pub returns : goal.returns
returns c = record {
  written = λ fits. record {
    written = record { ends = refl; written = search (rules, overwrites); rest = λ k above. search (rules, overwrites) };
    inside = fits;
  };
}
