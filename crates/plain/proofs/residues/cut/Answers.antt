use Rattle.plain.proofs.Signed.{cut_is}
use Rattle.plain.proofs.residues.cut.Goals as goal

pub returns : goal.returns
returns c =
    cut_is c.args.value c.residue.result c.args.bits c.requires.bits_fit c.requires.value_near c.residue.ensures.near
    c.residue.ensures.residue
