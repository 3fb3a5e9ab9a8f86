use Rattle.std.proofs.Common.{◌≡◌, suc, ◌-◌, ◌+◌, ◌*◌, ◌%◌, get_or, refl, ◌∙◌, arith}
use Rattle.tagmem.proofs.Ways.{leads_from}
use Rattle.tagmem.proofs.trees.end.Goals as goal

pub returns-then-child-eq0 : goal.returns-then-child-eq0
returns-then-child-eq0 c = record {
  in_range = omega (arith, c.loop-number.invariant.in_range, c.requires.even);
  within = c.loop-number.invariant.within;
  small = omega arith;
  none = c.if-child-eq0.true;
  goes_on = λ more to kept is. c.loop-number.invariant.goes_on more to kept
      (leads_from more c.loop-number.bits c.loop-number.parent to (suc to) is (λ none. none 0 refl));
}

pub loop-number-preserved : goal.loop-number-preserved
loop-number-preserved c =
    let links = c.args.links.now in
    let place = 2 * c.loop-number.parent + c.loop-number.bits % 2 in
    let child = get_or links place 0 in
    let counted : child ≡ suc (child - 1) = omega (arith, c.if-child-eq0.false) in
    record {
      in_range = omega (arith, c.requires.forward.within place, counted);
      within = λ limit le all. omega (arith, all place, counted);
      goes_on = λ more to kept led. c.loop-number.invariant.goes_on more to kept (leads_from more c.loop-number.bits c.loop-number.parent to
          (suc (child - 1)) (kept place c.if-child-eq0.false ∙ counted) led);
    }
