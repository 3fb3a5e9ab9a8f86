use Rattle.std.proofs.Common.{◌∙◌, sym}
use Rattle.cap_streams.specs.Written.{◌⨾◌}
use Rattle.cap_report.proofs.says.put_tags.Goals as goal

pub returns-in-Some-clause-written : goal.returns-in-Some-clause-written
returns-in-Some-clause-written c =
    let cleared = sym c.is_cleared.ensures.value ∙ c.if-is_cleared.true in
    rw (cleared, c.in-Some.is) (c.put-at.ensures.written ⨾ c.put_failed.ensures.written)
