use Rattle.std.proofs.Common.{◌≡◌, suc, get_or, refl, ap, ◌∙◌, ⊎_elim, arith}
use Rattle.std.proofs.lemmas.List.{length-map}
use Rattle.tagmem.specs.{declared.region.Region.Region, Orders.{IsUpTo, leads, slot_of}, Regions.{links_of, numbers_of}}
use Rattle.tagmem.proofs.{Orders.{above_slot, by_less, led_to, slot_lt}, Regions.{numbers_small, one_small}}
use Rattle.tagmem.proofs.order.least_from.Goals as goal

pub is_before-requires : goal.is_before-requires
is_before-requires c = one_small c.args.regions.now c.args.from c.loop-next.least c.loop-next.invariant.one

pub least_under-under-requires-clause-in_range : goal.least_under-under-requires-clause-in_range
least_under-under-requires-clause-in_range c =
    omega (arith, c.link_at-link.ensures, c.requires.linked.within 0 c.loop-next.next, length-map c.args.regions.now (λ (r : Region). r.number))

pub least_under-under-requires-clause-within : goal.least_under-under-requires-clause-within
least_under-under-requires-clause-within c = λ roots index digit.
    omega (arith, c.requires.linked.within (suc index) digit, length-map c.args.regions.now (λ (r : Region). r.number))

pub loop-next-preserved : goal.loop-next-preserved
loop-next-preserved c =
    let numbers = numbers_of c.args.regions.now in
    let links = links_of c.args.roots.now c.args.regions.now in
    let next = c.loop-next.next in
    let under = c.least_under-under.ensures c.args.roots.now in
    record {
      one = ⊎_elim (λ is. rw is c.loop-next.invariant.one) (λ is. rw is under.0) c.lesser-least.ensures.one;
      up = λ at lt low before.
          let n = get_or numbers at 0 in
          by_less (slot_of n) next (IsUpTo n c.lesser-least.result)
          (λ lower. c.lesser-least.ensures.first n (c.loop-next.invariant.up at lt low lower))
          (λ le.
          let same : next ≡ slot_of n = omega (arith, le, before) in
          c.lesser-least.ensures.second n (under.1 at (record {
            in_range = lt;
            low = low;
            has = rw (c.digits.ensures.value, c.prefix.ensures, same) (above_slot n (omega (arith, numbers_small c.args.regions.now at lt)));
            led = ap (λ l. leads links n c.digits.result l at) c.link_at-link.ensures
                ∙ led_to numbers links n next c.digits.result at c.requires.linked same c.digits.ensures.value lt refl;
          })));
    }

pub returns : goal.returns
returns c = (
  c.loop-next.invariant.one,
  λ at lt low. c.loop-next.invariant.up at lt low
      (omega (arith, c.loop-next-test.false, slot_lt (get_or (numbers_of c.args.regions.now) at 0), numbers_small c.args.regions.now at lt)),
)
