use Rattle.std.proofs.Common.{◌+◌, ◌∙◌, sym, arith, eqb-true, pow_pos}
use Rattle.std.proofs.lemmas.Bool.{not-false}
use Rattle.cap_bounds.specs.Bounds.{cut_exponent_of}
use Rattle.cap_bounds.proofs.Keeping.{KeepsBounds-margins}
use Rattle.cap_ops.specs.Permissions.{is_sealed}
use Rattle.cap_ops.proofs.TestLemmas.{covers-inside}
use Rattle.cap_ops.proofs.recent.RecentAuthority.holds_anew.Goals as goal

pub invariant_of-self : goal.invariant_of-self
unfolding is_sealed
invariant_of-self c =
    let w = c.args.word.0 in
    let of = c.in-Some.ensures.some in
    let unit = pow_pos (cut_exponent_of w) in record {
      unsealed = omega (arith, c.high_half.ensures.value, eqb-true _ _ (not-false _ (sym c.sealed.ensures.value ∙ c.if-sealed.false)));
      near = λ address from until.
          let keeps = KeepsBounds-margins w address (omega (arith, of.0, unit)) (omega (arith, of.1, unit)) in
          let same = rw (← c.high_half.ensures.value) at keeps in
          (same.0 ∙ sym of.0, same.1 ∙ sym of.1);
    }

pub returns-clause-inside : goal.returns-clause-inside
returns-clause-inside c = λ held.
    let inside = c.holds.ensures.inside.0 held in
    let of = c.in-Some.ensures.some in
    covers-inside c.args.word.0 c.args.address (c.args.address + (c.args.more + 1)) (omega (arith, inside, of.0), omega (arith, inside, of.1))
