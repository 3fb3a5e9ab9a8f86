use Rattle.std.proofs.{Common.{◌≤◌, Bool, true, false, arith}, lemmas.Nat.and_mask}
use Rattle.cap_word.specs.Fields.{bit_of}
use Rattle.cap_word.proofs.layout.join.Goals as goal

bit_of-le : (b : Bool) → bit_of b ≤ 1
bit_of-le true = omega arith
bit_of-le false = omega arith

pub returns-clause-word : goal.returns-clause-word
returns-clause-word c =
    let given = c.args.fields.now in
    omega (
      arith,
      bit_of-le given.flag,
      bit_of-le given.ie,
      and_mask given.e 3,
      c.fits-fields,
      c.from.ensures,
      c.from-2.ensures,
      c.from-3.ensures,
      c.from-4.ensures,
      c.from-ie.ensures,
      c.from-t_field.ensures,
      c.from-5.ensures,
      c.from-b_field.ensures,
      c.from-6.ensures,
      c.from-7.ensures,
    )
