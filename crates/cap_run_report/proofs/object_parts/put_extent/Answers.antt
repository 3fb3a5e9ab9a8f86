use Rattle.std.proofs.Common.{refl}
use Rattle.cap_streams.specs.Written.{◌⨾◌}
use Rattle.cap_run_report.proofs.object_parts.put_extent.Goals as goal

pub returns-clause-written : goal.returns-clause-written
returns-clause-written g c =
    let met = c.put_met.ensures.written in
    (_, (met.0, met.1, refl), c.put_bounds_line-at.ensures.written ⨾ met.2)
