use Rattle.std.proofs.Common.{arith}
use Rattle.cap_bounds.specs.Bounds.{base_of, top_of}
use Rattle.cap_bounds.proofs.LeastRounding.{IsInside-rounded, IsInside-requested}
use Rattle.cap_bounds.proofs.lengths.least_law.Goals as goal

requested : goal.returns-clause-requested
requested c = (
  λ t. let h = c.contains.ensures.inside.0 t in
      (omega (arith, c.bounds.ensures.base, h.0), omega (arith, c.bounds.ensures.top, c.requested_top.ensures.value, h.1)),
  λ h. c.contains.ensures.inside.1
      (omega (arith, c.bounds.ensures.base, h.0), omega (arith, c.bounds.ensures.top, c.requested_top.ensures.value, h.1)),
)

pub returns-clause-requested : goal.returns-clause-requested
returns-clause-requested c = requested c

pub returns-clause-rounded : goal.returns-clause-rounded
returns-clause-rounded c =
    let w = c.args.word.0 in (
      λ t. IsInside-rounded w c.args.base c.args.length (omega arith) c.requires ((requested c).0 t),
      λ h. (requested c).1 (IsInside-requested c.args.base c.args.length (base_of w) (top_of w) h),
    )
