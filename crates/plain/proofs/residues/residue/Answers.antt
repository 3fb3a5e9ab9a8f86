use Rattle.plain.proofs.Signed.{sum_fits, coded_residue, coded_near}
use Rattle.plain.proofs.residues.residue.Goals as goal

pub overflow_add-result : goal.overflow_add-result
overflow_add-result c =
    sum_fits c.args.low c.args.value c.power.result c.rem_euclid.result c.args.bits c.requires.bits_fit c.requires.low_near
    c.requires.value_near c.power.ensures c.rem_euclid.ensures.value

pub returns-clause-residue : goal.returns-clause-residue
returns-clause-residue c =
    coded_residue c.args.low c.args.value c.power.result c.rem_euclid.result c.args.bits c.requires.bits_fit c.requires.low_near
    c.requires.value_near c.power.ensures c.rem_euclid.ensures.value

pub returns-clause-near : goal.returns-clause-near
returns-clause-near c =
    coded_near c.args.low c.args.value c.power.result c.rem_euclid.result c.args.bits c.requires.bits_fit c.requires.low_near
    c.requires.value_near c.power.ensures c.rem_euclid.ensures.value
