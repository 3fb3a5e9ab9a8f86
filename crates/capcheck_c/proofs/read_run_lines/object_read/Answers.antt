use Rattle.std.proofs.Common.{◌∙◌, refl}
use Rattle.capcheck_c.proofs.read_run_lines.object_read.Goals as goal

pub returns-clause-read : goal.returns-clause-read
returns-clause-read c =
    let read = c.number_line.ensures.read in
    let of = read.0 in (
      record {
        kind_is = of.kind_is;
        target_is = of.target_is;
        source_is = refl;
        authority_is = of.authority_is;
        number_is = of.number_is ∙ c.from.ensures;
        cap_is = of.cap_is;
      },
      rw read.1 refl,
      read.2,
    )
