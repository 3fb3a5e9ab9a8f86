use Rattle.std.proofs.lemmas.Bool.Decides.{same_from_decides}
use Rattle.cap_ops.specs.Operations.{is_kept_at}
use Rattle.cap_ops.proofs.AddressLemmas.{KeepsBounds-kept, kept-KeepsBounds}
use Rattle.cap_ops.proofs.addresses.is_kept.Goals as goal

pub returns : goal.returns
returns c =
    let w = c.args.word.0 in
    same_from_decides _ (is_kept_at w c.args.address) c.keeps_bounds.ensures.keeps
    (KeepsBounds-kept w c.args.address, kept-KeepsBounds w c.args.address)
