use Rattle.std.proofs.Common.{◌≡◌, ◌≢◌, ℕ, suc, [], ◌+◌, ◌-◌, ◌*◌, ◌%◌, ◌^◌, ◌<◌, ◌≤◌, List, get_or, length, ⊎_elim, arith}
use Rattle.std.proofs.lemmas.List.{length-map}
use Rattle.tagmem.specs.{declared.region.Region.Region, Orders.{IsOneFrom, IsUnder, IsUpTo, above}, Regions.{links_of, numbers_of}}
use Rattle.tagmem.proofs.Orders.{above_rises, by_digit, child_is, IsUnder-last, IsUnder-on, number_is}
use Rattle.tagmem.proofs.Orders.{one_own}
use Rattle.tagmem.proofs.Regions.{numbers_small}
use Rattle.tagmem.proofs.order.+least_under.Goals.{After-own-least, In-loop-digit}
use Rattle.tagmem.proofs.order.+least_under.Goals as goal

module _ (t : ℕ) (c : After-own-least t) where
  abbrev numbers : List ℕ
  numbers = numbers_of c.args.regions.now

  linked : c.args.link ≡ suc (c.args.link - 1)
  linked = omega (arith, c.if-link-eq0.false)

  in_range : c.args.link - 1 < length c.args.regions.now
  in_range = omega (arith, c.if-link-eq0.false, c.requires.in_range)

  numbered : c.index-regions-link.result.number ≡ get_or numbers (c.args.link - 1) 0
  numbered = number_is c.args.regions.now (c.args.link - 1) c.index-regions-link.result in_range c.index-regions-link.is

  named : (roots : List ℕ) (digit : ℕ) → get_or c.index-regions-link.result.children digit 0 ≡ links_of roots c.args.regions.now c.args.link digit
  named roots digit =
      grind (arith, linked, child_is c.args.regions.now (c.args.link - 1) c.index-regions-link.result in_range c.index-regions-link.is roots digit)

  one : IsOneFrom numbers c.args.from c.own-least.result
  one = one_own numbers c.args.from (c.args.link - 1) c.index-regions-link.result.number
      (omega (arith, in_range, length-map c.args.regions.now (λ (r : Region). r.number))) numbered c.own-least.result c.own-least.ensures.same

  own : (at : ℕ) → c.args.from ≤ get_or numbers at 0 → suc at ≡ c.args.link → IsUpTo (get_or numbers at 0) c.own-least.result
  own at low is = grind (arith, numbered, c.own-least.ensures.up)

-- digits are left, and what is on one of them is under its link
counted : (t : ℕ) (c : In-loop-digit t) → c.args.level ≡ suc (c.args.level - 1)
counted t c = omega (arith, c.if-level-eq0.false)

on_digit : (t : ℕ) (c : In-loop-digit t) (roots : List ℕ) (at : ℕ) → suc at ≢ c.args.link
    → IsUnder (numbers_of c.args.regions.now) (links_of roots c.args.regions.now) c.args.from c.args.level c.args.link c.args.prefix at
    → let digit = above (c.args.level - 1) (get_or (numbers_of c.args.regions.now) at 0) % 4 in
    IsUnder (numbers_of c.args.regions.now) (links_of roots c.args.regions.now) c.args.from (c.args.level - 1)
    (links_of roots c.args.regions.now c.args.link digit) (c.args.prefix * 4 % 2 ^ 64 + digit) at
on_digit t c roots at differs under =
    IsUnder-on (numbers_of c.args.regions.now) (links_of roots c.args.regions.now) c.args.from c.args.level (c.args.level - 1)
    c.args.link c.args.prefix at (counted t c) differs (omega (arith, numbers_small c.args.regions.now at under.in_range)) under

pub returns-then-level-eq0 : goal.returns-then-level-eq0
returns-then-level-eq0 t c = λ roots.
    let after = (goal.at.returns-then-level-eq0 t c).After-own-least in (
      one t after,
      λ at under. own t after at under.low (IsUnder-last (numbers t after) (links_of roots c.args.regions.now) c.args.from
          c.args.level c.args.link c.args.prefix at c.if-level-eq0.true under),
    )

pub loop-digit-init : goal.loop-digit-init
loop-digit-init t c =
    let after = (goal.at.loop-digit-init t c).After-own-least in
    record {
      one = one t after;
      under = λ roots at under lower. own t after at under.low (grind (arith, lower));
    }

-- a region's number on the digit that is passed over is below the first
pub loop-digit-preserved-then-child-from : goal.loop-digit-preserved-then-child-from
loop-digit-preserved-then-child-from t c =
    let in_loop = (goal.at.loop-digit-preserved-then-child-from t c).In-loop-digit in
    record {
      one = c.loop-digit.invariant.one;
      under = λ roots at under lower. c.loop-digit.invariant.under roots at under (λ differs.
          let on = on_digit t in_loop roots at differs under in
          omega (arith, lower differs, on.has, c.if-child-from.true, above_rises (c.args.level - 1) c.args.from _ on.low));
    }

pub least_under-next-requires : goal.least_under-next-requires
least_under-next-requires t c =
    let after = (goal.at.least_under-next-requires t c).After-own-least in (
      omega (arith, c.decreases, c.if-level-eq0.false),
      (
        rw (named t after [] c.loop-digit.digit, linked t after) (c.requires.within [] (c.args.link - 1) c.loop-digit.digit),
        (c.requires.within, omega (arith, c.requires.low)),
      ),
    )

pub loop-digit-preserved : goal.loop-digit-preserved
loop-digit-preserved t c =
    let after = (goal.at.loop-digit-preserved t c).After-own-least in
    let in_loop = (goal.at.loop-digit-preserved t c).In-loop-digit in
    let numbers = numbers_of c.args.regions.now in
    let is = c.lesser-least.ensures in
    record {
      one = ⊎_elim (λ same. rw same c.loop-digit.invariant.one) (λ same. rw same (c.least_under-next.ensures []).0) is.one;
      under = λ roots at under lower.
          let n = get_or numbers at 0 in
          by_digit c.args.link at (above (c.args.level - 1) n % 4) c.loop-digit.digit (IsUpTo n c.lesser-least.result)
          (λ below. is.first n (c.loop-digit.invariant.under roots at under below))
          (λ differs le. is.second n ((c.least_under-next.ensures roots).1 at
          (let same : above (c.args.level - 1) n % 4 ≡ c.loop-digit.digit = omega (arith, le, lower differs) in
          rw (named t after roots c.loop-digit.digit) (rw same at (on_digit t in_loop roots at differs under)))));
    }

pub returns-after-loop-digit : goal.returns-after-loop-digit
returns-after-loop-digit t c = λ roots. (
  c.loop-digit.invariant.one,
  λ at under. c.loop-digit.invariant.under roots at under (λ _. omega (arith, c.loop-digit-test.false)),
)

pub returns-then-ends_before : goal.returns-then-ends_before
returns-then-ends_before t c = λ roots. (
  c.loop-digit.invariant.one,
  λ at under.
      let n = get_or (numbers_of c.args.regions.now) at 0 in
      by_digit c.args.link at (above (c.args.level - 1) n % 4) c.loop-digit.digit (IsUpTo n c.loop-digit.least)
      (c.loop-digit.invariant.under roots at under)
      (λ differs le.
      let on = on_digit t (goal.at.returns-then-ends_before t c).In-loop-digit roots at differs under in
      c.ends_before.ensures.before c.if-ends_before.true n (omega (arith, on.has, le))),
)
