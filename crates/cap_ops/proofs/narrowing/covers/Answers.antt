use Rattle.std.proofs.{Common.arith, lemmas.Bool.Decides.same_from_decides}
use Rattle.cap_ops.specs.Operations.{covers}
use Rattle.cap_ops.proofs.TestLemmas.{IsInside-covers, covers-inside}
use Rattle.cap_ops.proofs.narrowing.covers.Goals as goal

pub returns : goal.returns
returns c =
    let w = c.args.word.0 in
    let held = c.bounds.ensures in
    same_from_decides _ (covers w c.args.base c.args.top) c.contains.ensures.inside (
      λ test. let inside = IsInside-covers w c.args.base c.args.top test in (
        omega (arith, held.base, inside.0),
        omega (arith, held.top, inside.1),
      ),
      λ inside. covers-inside w c.args.base c.args.top (omega (arith, held.base, inside.0), omega (arith, held.top, inside.1)),
    )
