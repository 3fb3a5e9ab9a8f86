use Rattle.std.proofs.Common.{◌≡◌, inl, refl, codes, rules}
use Rattle.cap_report.specs.BadLines.{other_log}
use Rattle.cap_report.proofs.bad_lines.put_bad_header.Goals as goal

pub returns-then-eq-clause-written : goal.returns-then-eq-clause-written
returns-then-eq-clause-written c =
    let same : c.args.text.now ≡ codes "heap 1" = search rules in (
      other_log (codes "the log of an allocator: capdiag heap judges it"),
      inl (same, refl),
      c.put_hinted_line.ensures.written,
    )
