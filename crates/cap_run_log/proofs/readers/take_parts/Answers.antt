use Rattle.cap_run_log.proofs.Rows.{none_after}
use Rattle.cap_run_log.proofs.readers.take_parts.Goals as goal

pub returns-in_default-clause-none : goal.returns-in_default-clause-none
returns-in_default-clause-none g c = none_after c.args.head _ _ c.requires c.args.bytes.now c.in_default.ensures.none
