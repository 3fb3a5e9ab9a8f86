use Rattle.std.proofs.Common.{sym, subst}
use Rattle.cap_machine.specs.{Parents.IsSoundCap, States.granule_key}
use Rattle.cap_machine.proofs.machine.Machine.granule.Goals as goal

pub returns-clause-sound : goal.returns-clause-sound
returns-clause-sound g c = subst IsSoundCap (sym c.granule_with_code.ensures.holds) (c.kept.ensures.kept.sound (granule_key c.args.granule))

pub returns-clause-holds : goal.returns-clause-holds
returns-clause-holds g c = c.granule_with_code.ensures.holds
