use Rattle.cap_streams.specs.Written.{◌⨾◌}
use Rattle.cap_run_report.proofs.invoked_pairs.put_types.Goals as goal

pub returns-clause-written : goal.returns-clause-written
returns-clause-written c =
    c.put_run_place-at.ensures.text ⨾ c.put-at.ensures.written ⨾ c.put_type-at.ensures.written ⨾ c.put-at-2.ensures.written
    ⨾ c.put_run_place-at-2.ensures.text ⨾ c.put-at-3.ensures.written ⨾ c.put_type.ensures.written
