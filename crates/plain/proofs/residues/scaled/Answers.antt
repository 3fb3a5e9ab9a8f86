use Rattle.std.specs.Int.{w128}
use Rattle.std.proofs.Common.{ℕ, ◌*◌, ◌%◌, ◌^◌, ap, ◌∙◌, to_z}
use Rattle.plain.proofs.Signed.{scaled_is, scaled-lt}
use Rattle.plain.proofs.residues.scaled.Goals as goal

pub returns-clause-value : goal.returns-clause-value
returns-clause-value c =
    ap (λ (x : ℕ). to_z w128 (x * 2 ^ c.args.exponent % 2 ^ 128)) c.from.ensures
    ∙ scaled_is c.args.units c.args.exponent c.requires.units_fit c.requires.exponent_fits

pub returns-clause-small : goal.returns-clause-small
returns-clause-small c = scaled-lt c.args.units c.args.exponent c.requires.units_fit c.requires.exponent_fits
