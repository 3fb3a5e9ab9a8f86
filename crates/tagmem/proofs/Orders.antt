-- Where the ways of regions' numbers lead, and what becomes of them as a region is added.
use Rattle.std.proofs.Common.{◌≡◌, ◌≢◌, ℕ, zero, suc, ◌+◌, ◌-◌, ◌*◌, ◌/◌, ◌%◌, ◌^◌, ◌<◌, ◌≤◌, true, cond, eqb}
use Rattle.std.proofs.Common.{List, [], ◌∷◌, ◌++◌, length, get_or, set, Option, ⊎_elim, IfSome, refl, sym, ap, ◌∙◌, arith}
use Rattle.std.proofs.Common.{pow-add, length-append, length-set, get_or-set_same, get_or-set_other}
use Rattle.std.proofs.{Math.Nat.div-div-eq-div-mul, lemmas.Bool.{cases_lt, Decides.nat_tests}}
use Rattle.std.proofs.lemmas.List.{get_or-map, get_or_push, get_or_append_left, map-set}
use Rattle.tagmem.proofs.Blocks.{by_equal}
use Rattle.tagmem.specs.Orders.{above, digits_in, prefix_in, slot_of, leads, leads_all, IsPlaced, HaveLevels, AreLinked, AreKept, IsEnding, IsLinkedTo}
use Rattle.tagmem.specs.{declared.region.Region.Region, Orders.{IsOneFrom, IsUnder}}
use Rattle.tagmem.specs.Regions.{children_of, links_of, numbers_of}

-- a region of the list has its number and its links
module _ (regions : List Region) (index : ℕ) (region : Region) (in_range : index < length regions)
    (is : region ≡ get_or regions index region) where
  pub number_is : region.number ≡ get_or (numbers_of regions) index 0
  number_is = grind (arith, get_or-map (λ (r : Region). r.number) regions index region 0)

  pub child_is : (roots : List ℕ) (digit : ℕ) → get_or region.children digit 0 ≡ links_of roots regions (suc index) digit
  child_is roots digit = grind (arith, get_or-map (λ (r : Region). r.children) regions index region [])

-- a link set in a region is a link more
pub IsLinkedTo-set : (roots : List ℕ) (regions : List Region) (index digit to : ℕ) (old new : Region) → index < length regions
    → old ≡ get_or regions index old → digit < 4 → new.children ≡ set old.children digit to
    → IsLinkedTo (links_of roots regions) (links_of roots (set regions index new)) (suc index) digit to
IsLinkedTo-set roots regions index digit to old new lt is small children = record {
  own = sym (here digit) ∙ get_or-set_same old.children digit to 0 (omega (arith, old.each_has_child));
  others = λ l d differs.
      let old_is = child_is regions index old lt is roots d in
      let other = get_or-set_other old.children digit d to 0 in
      grind (arith, here d, old_is, other, get_or-set_other (children_of regions) index, map-set (λ (r : Region). r.children) regions index new);
}
  where
    here : (d : ℕ) → get_or (set old.children digit to) d 0 ≡ links_of roots (set regions index new) (suc index) d
    here d = ap (λ (row : List ℕ). get_or row d 0) (sym children) ∙ child_is (set regions index new) index new
        (omega (arith, length-set regions index new)) (sym (get_or-set_same regions index new new lt)) roots d

-- a region more that has no links adds none
pub links_of-push : (roots : List ℕ) (regions : List Region) (region : Region) → ((digit : ℕ) → get_or region.children digit 0 ≡ 0)
    → (link digit : ℕ) → links_of roots (regions ++ region ∷ []) link digit ≡ links_of roots regions link digit
links_of-push roots (first ∷ regions) region none (suc (suc index)) digit = links_of-push roots regions region none (suc index) digit
links_of-push roots [] region none (suc zero) digit = none digit
links_of-push roots regions region none link digit = refl

-- with a digit less, more is above
pub above_suc : (digits number : ℕ) → above (suc digits) number ≡ above digits number / 4
above_suc digits number =
    let longer : 2 * suc digits ≡ 2 * digits + 2 = omega arith in
    ap (λ n. number / n) (ap (λ n. 2 ^ n) longer ∙ pow-add 2 (2 * digits) 2) ∙ sym (div-div-eq-div-mul number (2 ^ (2 * digits)) 4)

pub above_rises : (digits a b : ℕ) → a ≤ b → above digits a ≤ above digits b
above_rises zero a b le = omega arith
above_rises (suc digits) a b le = omega (arith, above_rises digits a b le, above_suc digits a, above_suc digits b)

pub slot_lt : (number : ℕ) → number < 2 ^ 51 → slot_of number < 90112
slot_lt number small = grind (arith, nat_tests)

pub slot_rises : (a b : ℕ) → a ≤ b → b < 2 ^ 51 → slot_of a ≤ slot_of b
slot_rises a b le small = grind (arith, nat_tests)

-- what a number has above the digits that its slot leaves is the slot's
pub above_slot : (number : ℕ) → number < 2 ^ 51 → above (digits_in (slot_of number)) number ≡ prefix_in (slot_of number)
above_slot number small = grind (arith, nat_tests)

-- nor is it less than what it has above digits
pub above_le : (digits number : ℕ) → above digits number ≤ number
above_le zero number = omega arith
above_le (suc digits) number = omega (arith, above_suc digits number, above_le digits number)

module _ (links : ℕ → ℕ → ℕ) (number : ℕ) where
  -- a link leads to its region
  pub leads_here : (digits at : ℕ) → leads links number digits (suc at) at ≡ true
  leads_here zero at = grind (arith, nat_tests)
  leads_here (suc digits) at = grind (arith, nat_tests)

  -- and on, where digits are left
  pub leads_on : (level digits index at : ℕ) → level ≡ suc digits → index ≢ at
      → leads links number level (suc index) at ≡ leads links number digits (links (suc index) (above digits number % 4)) at
  leads_on level digits index at is differs = grind (arith, nat_tests)

  pub leads_from : (level digits index at : ℕ) → level ≡ suc digits
      → leads links number digits (links (suc index) (above digits number % 4)) at ≡ true → leads links number level (suc index) at ≡ true
  leads_from level digits index at is led = grind (arith, nat_tests)

  pub leads_nowhere : (digits link at : ℕ) → link ≡ 0 → leads links number digits link at ≡ true → ⊥
  leads_nowhere digits link at none led = grind (arith, nat_tests)

  -- with more links a way leads where it did
  module _ (more : ℕ → ℕ → ℕ) (kept : AreKept links more) where
    leads-kept : (digits link at : ℕ) → leads links number digits link at ≡ true → leads more number digits link at ≡ true
    leads-kept (suc digits) (suc index) at led =
        let digit = above digits number % 4 in
        grind (arith, nat_tests, kept (suc index) digit, leads_nowhere, leads-kept digits (links (suc index) digit) at)
    leads-kept digits link at led = grind (arith, nat_tests)

    pub leads_all-kept : (at : ℕ) → leads_all links number at ≡ true → leads_all more number at ≡ true
    leads_all-kept at led = grind (arith, nat_tests, leads_nowhere, leads-kept, kept 0 (slot_of number))

-- with a region more, to which the end of its way leads
module _ (numbers : List ℕ) (links more : ℕ → ℕ → ℕ) (number end digit : ℕ) (linked : AreLinked numbers links)
    (ends : IsEnding numbers links number end digit) (joined : IsLinkedTo links more end digit (suc (length numbers))) where
  kept : AreKept links more
  kept link d some = grind (arith, joined.others link d, ends.none)

  -- so many digits are left at the region more, and else as at the others
  abbrev levels : (ℕ → ℕ) → ℕ → ℕ → ℕ
  levels level_of level at = cond (eqb at (length numbers)) level (level_of at)

  have_levels : (level_of : ℕ → ℕ) (level : ℕ) → HaveLevels numbers links level_of
      → IsPlaced numbers level_of end digit level (above level number) → HaveLevels (numbers ++ number ∷ []) more (levels level_of level)
  have_levels level_of level have placed link d at is =
      let last = get_or_push numbers number 0 in
      let old = get_or_append_left numbers (number ∷ []) 0 in
      let else_same = joined.others link d in
      grind (arith, nat_tests, have link d at, linked.within link d, linked.past link d, joined.own, else_same, ends.in_range, last, old)

  pub AreLinked-more : AreLinked (numbers ++ number ∷ []) more
  AreLinked-more = record {
    within = λ link d. grind (arith, joined.own, joined.others link d, linked.within link d, length-append numbers (number ∷ []));
    past = λ link d lt. grind (arith, joined.others link d, linked.past link d, ends.in_range, length-append numbers (number ∷ []));
    led = λ at lt. by_equal at (length numbers) _
        (λ last. rw (get_or_push numbers number 0 at (sym last)) (ends.goes_on more at kept (joined.own ∙ ap suc (sym last))))
        (λ differs.
        let there : at < length numbers = omega (arith, length-append numbers (number ∷ []), differs) in
        rw (get_or_append_left numbers (number ∷ []) 0 at there) (leads_all-kept links (get_or numbers at 0) more kept at (linked.led at there)));
    levelled = λ none. linked.levelled (λ level_of have.
        let new = ends.placed level_of have in none (levels level_of new.0) (have_levels level_of new.0 have new.1));
  }

-- the way of a region's number leads from its slot to the region
pub led_to : (numbers : List ℕ) (links : ℕ → ℕ → ℕ) (number slot digits at : ℕ) → AreLinked numbers links → slot ≡ slot_of number
    → digits ≡ digits_in slot → at < length numbers → get_or numbers at 0 ≡ number → leads links number digits (links 0 slot) at ≡ true
led_to numbers links number slot digits at linked is left lt same = grind (arith, linked.led at lt)

-- a region's own number
pub one_own : (numbers : List ℕ) (from at number : ℕ) → at < length numbers → number ≡ get_or numbers at 0 → (o : Option ℕ)
    → IfSome o (λ same. (same ≡ number) × (from ≤ number)) → IsOneFrom numbers from o
one_own numbers from at number lt is o same = grind arith

-- a region under a link is the link's own, or under one of its children
module _ (numbers : List ℕ) (links : ℕ → ℕ → ℕ) (from level : ℕ) where
  pub IsUnder-last : (link prefix at : ℕ) → level ≡ 0 → IsUnder numbers links from level link prefix at → suc at ≡ link
  IsUnder-last link prefix at none under = grind (arith, nat_tests, under.led)

  pub IsUnder-on : (digits link prefix at : ℕ) → level ≡ suc digits → suc at ≢ link → get_or numbers at 0 < 2 ^ 64
      → IsUnder numbers links from level link prefix at → let digit = above digits (get_or numbers at 0) % 4 in
      IsUnder numbers links from digits (links link digit) (prefix * 4 % 2 ^ 64 + digit) at
  IsUnder-on digits link prefix at is differs small under = record {
    in_range = under.in_range;
    low = under.low;
    has = grind (arith, under.has, above_suc digits (get_or numbers at 0), above_le digits (get_or numbers at 0));
    led = grind (arith, nat_tests, under.led, leads_on links (get_or numbers at 0) level digits (link - 1) at);
  }

-- one number is less than another, or not
pub by_less : (a b : ℕ) (P : Type 0) → (a < b → P) → (b ≤ a → P) → P
by_less a b P less not_less = ⊎_elim less not_less (cases_lt a b)

-- it is on a digit below one, or from that on
pub by_digit : (link at d digit : ℕ) (P : Type 0) → ((suc at ≢ link → d < digit) → P) → (suc at ≢ link → digit ≤ d → P) → P
by_digit link at d digit P below above = grind (arith, nat_tests)
