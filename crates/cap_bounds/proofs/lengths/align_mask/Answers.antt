use Rattle.std.proofs.Common.{◌≡◌, ◌-◌, ◌%◌, ◌^◌, ℕ, sym, ◌∙◌, subst, arith}
use Rattle.cap_bounds.specs.Rounding.{alignment_of, rounded_top}
use Rattle.cap_bounds.proofs.ExactLengths.{alignment-power, alignment-from_mask, exact-at-aligned, aligned-from_exact}
use Rattle.cap_bounds.proofs.ExactLengths.{rounded_length-ge, alignment-past}
use Rattle.cap_bounds.proofs.lengths.align_mask.Goals as goal

pub returns-clause-power : goal.returns-clause-power
returns-clause-power c =
    let p = alignment-power c.args.length (omega arith) in
    (p.0, p.1, alignment-from_mask c.mask_of.result (alignment_of c.args.length) c.mask_of.ensures ∙ p.2)

pub returns-clause-exact : goal.returns-clause-exact
returns-clause-exact c = λ below base fits.
    let g : 2 ^ 64 - c.mask_of.result
    ≡ alignment_of c.args.length = alignment-from_mask c.mask_of.result (alignment_of c.args.length) c.mask_of.ensures in (
      λ exact. subst (λ (x : ℕ). base % x ≡ 0) (sym g)
          (aligned-from_exact c.args.length (omega arith) base (rounded_top 0 c.args.length) (rounded_length-ge c.args.length) below exact),
      λ whole. exact-at-aligned c.args.length (omega arith) below base (subst (λ (x : ℕ). base % x ≡ 0) g whole),
    )

pub returns-clause-past : goal.returns-clause-past
returns-clause-past c = λ full.
    alignment-from_mask c.mask_of.result (alignment_of c.args.length) c.mask_of.ensures ∙ alignment-past c.args.length (omega arith) full
