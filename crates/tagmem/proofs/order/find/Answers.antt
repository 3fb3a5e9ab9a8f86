use Rattle.std.proofs.Common.{◌≡◌, ◌≢◌, ℕ, suc, true, ◌+◌, ◌-◌, ◌%◌, ◌*◌, ◌<◌, List, get_or, length, refl, sym, ap, subst, ◌∙◌, arith, add-one}
use Rattle.std.proofs.lemmas.{List.{length-map}}
use Rattle.tagmem.specs.{declared.region.Region.Region, Orders.{HaveLevels, above, digits_in, leads}, Regions.{links_of, numbers_of}}
use Rattle.tagmem.proofs.Orders.{above_slot, above_suc, child_is, leads_from, leads_here, leads_nowhere, leads_on, led_to, number_is}
use Rattle.tagmem.proofs.order.find.Goals.{Else-region-number}
use Rattle.tagmem.proofs.order.find.Goals as goal

pub returns-then-root-eq0 : goal.returns-then-root-eq0
returns-then-root-eq0 c =
    let links = links_of c.args.roots.now c.args.regions.now in
    let first = c.slot-first.result in
    let is = c.slot-first.ensures.value in
    let none : links 0 first ≡ 0 = omega (arith, c.link_at-root.ensures, c.if-root-eq0.true) in
    record {
      absent = λ at lt same. leads_nowhere links c.args.number (digits_in first) (links 0 first) at none
          (led_to (numbers_of c.args.regions.now) links c.args.number first (digits_in first) at c.requires.linked is refl lt same);
      in_range = omega arith;
      slot = λ _. c.slot-first.ensures.small;
      child = λ some. absurd (omega (arith, some));
      none = none;
      goes_on = λ more at kept to. rw (sym is, to) (leads_here more c.args.number (digits_in first) at);
      placed = λ level_of have. (digits_in first, (refl, rw is (above_slot c.args.number c.requires.small)));
    }

pub loop-region-init : goal.loop-region-init
loop-region-init c =
    let links = links_of c.args.roots.now c.args.regions.now in
    let s = c.slot-first.result in
    let root = c.link_at-root.result in
    let led : links 0 s ≡ suc (root - 1) = omega (arith, c.if-root-eq0.false, c.link_at-root.ensures) in
    record {
      in_range = omega (arith, c.requires.linked.within 0 s, led, length-map c.args.regions.now (λ (r : Region). r.number));
      low = c.digits-level.ensures.small;
      sought = λ at lt same. ap (λ l. leads links c.args.number c.digits-level.result l at) (sym led) ∙ led_to (numbers_of c.args.regions.now) links
          c.args.number s c.digits-level.result at c.requires.linked c.slot-first.ensures.value c.digits-level.ensures.value lt same;
      goes_on = λ more at kept way. grind (arith, kept 0 s);
      placed = λ level_of have. grind (arith, have 0 s (root - 1) led, above_slot c.args.number c.requires.small);
    }

-- past a region of another number digits are left, and the next names a child
module _ (c : Else-region-number) where
  abbrev numbers : List ℕ
  numbers = numbers_of c.args.regions.now

  abbrev links : ℕ → ℕ → ℕ
  links = links_of c.args.roots.now c.args.regions.now

  abbrev index : ℕ
  index = c.loop-region.index

  abbrev digits : ℕ
  digits = c.loop-region.level - 1

  abbrev digit : ℕ
  digit = above digits c.args.number % 4

  differs : get_or numbers index 0 ≢ c.args.number
  differs same =
      grind (arith, number_is c.args.regions.now index c.index-regions-index.result c.loop-region.invariant.in_range c.index-regions-index.is)

  some_left : c.loop-region.level ≢ 0
  some_left none =
      c.requires.linked.levelled (λ level_of have.
      let placed = subst (λ l. above l (get_or numbers index 0) ≡ above l c.args.number) none (c.loop-region.invariant.placed level_of have).1 in
      differs (omega (arith, placed)))

  counted : c.loop-region.level ≡ suc digits
  counted = omega (arith, some_left)

  child : links (suc index) digit ≡ get_or c.index-regions-index.result.children digit 0
  child = sym (child_is c.args.regions.now index c.index-regions-index.result c.loop-region.invariant.in_range
      c.index-regions-index.is c.args.roots.now digit)

  sought : (at : ℕ) → at < length numbers → get_or numbers at 0 ≡ c.args.number
      → leads links c.args.number digits (links (suc index) digit) at ≡ true
  sought at lt same =
      sym (leads_on links c.args.number c.loop-region.level digits index at counted (λ is. differs (ap (λ i. get_or numbers i 0) is ∙ same)))
      ∙ c.loop-region.invariant.sought at lt same

  placed : (level_of : ℕ → ℕ) → HaveLevels numbers links level_of
      → (level_of index ≡ suc digits) × (above digits c.args.number ≡ 4 * above (suc digits) (get_or numbers index 0) + digit)
  placed level_of have = grind (arith, c.loop-region.invariant.placed level_of have, counted, above_suc digits c.args.number)

pub overflow_sub-level : goal.overflow_sub-level
overflow_sub-level c = omega (arith, some_left (goal.at.overflow_sub-level c).Else-region-number)

pub returns-then-child-eq0 : goal.returns-then-child-eq0
returns-then-child-eq0 c =
    let after = (goal.at.returns-then-child-eq0 c).Else-region-number in
    let none = child after ∙ c.if-child-eq0.true in
    rw (add-one (index after)) (record {
      absent = λ at lt same. leads_nowhere (links after) c.args.number (digits after) _ at none (sought after at lt same);
      in_range = omega (arith, c.loop-region.invariant.in_range, length-map c.args.regions.now (λ (r : Region). r.number));
      slot = λ none. absurd (omega arith);
      child = λ some. omega arith;
      none = none;
      goes_on = λ more at kept to. c.loop-region.invariant.goes_on more at kept (leads_from more c.args.number c.loop-region.level
          (digits after) (index after) at (counted after) (rw to (leads_here more c.args.number (digits after) at)));
      placed = λ level_of have. (digits after, placed after level_of have);
    })

pub loop-region-smaller : goal.loop-region-smaller
loop-region-smaller c = omega (arith, some_left (goal.at.loop-region-smaller c).Else-region-number)

pub loop-region-preserved : goal.loop-region-preserved
loop-region-preserved c =
    let after = (goal.at.loop-region-preserved c).Else-region-number in
    let next = get_or c.index-regions-index.result.children (digit after) 0 in
    let to : links after (suc (index after)) (digit after) ≡ suc (next - 1) = omega (arith, child after, c.if-child-eq0.false) in
    let le = c.requires.linked.within (suc (index after)) (digit after) in
    record {
      in_range = omega (arith, le, to, length-map c.args.regions.now (λ (r : Region). r.number));
      low = omega (arith, c.loop-region.invariant.low);
      sought = λ at lt same. ap (λ l. leads (links after) c.args.number (digits after) l at) (sym to) ∙ sought after at lt same;
      goes_on = λ more at kept led. c.loop-region.invariant.goes_on more at kept (leads_from more c.args.number c.loop-region.level
          (digits after) (index after) at (counted after) (ap (λ l. leads more c.args.number (digits after) l at)
          (kept (suc (index after)) (digit after) (λ none. c.if-child-eq0.false (sym (child after) ∙ none)) ∙ to) ∙ led));
      placed = λ level_of have. grind (arith, have (suc (index after)) (digit after) (next - 1) to, placed after level_of have);
    }
