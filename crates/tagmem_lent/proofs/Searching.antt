-- A search of a run by windows.
use Rattle.std.specs.{Int.Count.count_leading_zeros, List.Sorted.IsNonDecreasingBy}
use Rattle.std.proofs.Common.{◌≡◌, ◌≢◌, ℕ, zero, suc, nat_lt, leb, true, false, Bool, ◌+◌, ◌-◌, ◌*◌, ◌%◌, ◌^◌, ◌<◌, ◌≤◌}
use Rattle.std.proofs.Common.{List, length, get_or, drop, sym, ap, subst, ◌∙◌, arith, mod-eq_of_lt, pow_pos}
use Rattle.std.proofs.{Common.{get_or-drop, get_or-take, length-drop, length-take-le}, Math.Nat.pow-le-pow_right}
use Rattle.std.proofs.{Math.Nat.two-pow-succ, lemmas.{Bool.Decides.nat_tests, List.get_or_default, Nat.leading_length}}
use mir.Val.{bool_byte}
use Rattle.tagmem.{specs.{declared.list_store.Listed.Listed, Listed.IsEntryAt}, proofs.ListLaws.granule_at}
use Rattle.tagmem_lent.specs.declared.lent_store.Slot.{Slot}
use Rattle.tagmem_lent.specs.Lent.{AreRuns, IsGapIn, IsLastAtMost, entries_of, part, run_end}
use Rattle.tagmem_lent.proofs.{Joining.run_slots_rise, Lent.{granule_in, granule_of, length-entries_of, no_slot}}
use Rattle.tagmem_lent.proofs.Runs.{run_end-le, run_end-rises}

-- a window of 2^turns slots: the first isn't above a number, and the one behind them is
pub record IsWindow (run : List Slot) (granule start turns : ℕ) : Type 0 where
  pub inside : start + 2 ^ turns ≤ length run
  pub at_most : 0 < start → (get_or run start no_slot).granule ≤ granule
  pub higher : start + 2 ^ turns < length run → granule < (get_or run (start + 2 ^ turns) no_slot).granule

module _ (run : List Slot) (granule : ℕ) (rises : IsNonDecreasingBy granule_of run) where
  -- the window at the end, or that at the front
  pub IsWindow-last : (turns last : ℕ) → last + 2 ^ turns ≡ length run → (get_or run last no_slot).granule ≤ granule → IsWindow run granule last turns
  IsWindow-last turns last whole le =
      record { inside = omega (arith, whole); at_most = λ some. le; higher = λ lt. absurd (omega (arith, whole, lt)) }

  pub IsWindow-first : (turns last : ℕ) → last + 2 ^ turns ≡ length run → length run < 2 * 2 ^ turns → granule < (get_or run last no_slot).granule
      → IsWindow run granule 0 turns
  IsWindow-first turns last whole short above = record {
    inside = omega (arith, whole);
    at_most = λ some. absurd (omega (arith, some));
    higher = λ lt. omega (arith, above, rises last (0 + 2 ^ turns) no_slot (omega (arith, whole, short)) lt);
  }

  module _ (start turns : ℕ) (window : IsWindow run granule start turns) (some : 1 < turns) where
    abbrev quarter : ℕ
    quarter = 2 ^ (turns - 2)

    whole : 2 ^ turns ≡ quarter + quarter + (quarter + quarter)
    whole = ap (λ (n : ℕ). 2 ^ n) {y = suc (suc (turns - 2))} (omega arith) ∙ omega (arith, two-pow-succ (suc (turns - 2)), two-pow-succ (turns - 2))

    pub quarters_inside : (start + (quarter + quarter + (quarter + quarter)) ≤ length run) × (0 < quarter)
    quarters_inside = (omega (arith, whole, window.inside), pow_pos (turns - 2))

    module _ (short : length run < 2 ^ 32) where
      -- where the quarters begin, in words of 64 bits
      abbrev one : ℕ
      one = start + 1 * quarter % 2 ^ 64

      abbrev two : ℕ
      two = start + 2 * (1 * quarter % 2 ^ 64)

      abbrev three : ℕ
      three = start + 3 * (1 * quarter % 2 ^ 64)

      step : 1 * quarter % 2 ^ 64 ≡ quarter
      step = omega (arith, quarters_inside.0, short)

      -- the quarter from one index to another, if those say so
      quarter_from : (from to at : ℕ) → to ≡ from + quarter → to ≤ length run → from ≡ at → (0 < from → (get_or run from no_slot).granule ≤ granule)
          → (to < length run → granule < (get_or run to no_slot).granule) → IsWindow run granule at (turns - 2)
      quarter_from from to at is_to inside is_from first behind =
          subst (λ (n : ℕ). IsWindow run granule n (turns - 2)) is_from (record {
            inside = omega (arith, is_to, inside);
            at_most = first;
            higher = subst (λ (n : ℕ). n < length run → granule < (get_or run n no_slot).granule) is_to behind;
          })

      -- as many quarters as are reached
      reached : (second third fourth : Bool) → leb (get_or run one no_slot).granule granule ≡ second
          → leb (get_or run two no_slot).granule granule ≡ third → leb (get_or run three no_slot).granule granule ≡ fourth
          → IsWindow run granule (start + (bool_byte second + bool_byte third + bool_byte fourth) * quarter) (turns - 2)
      reached true true true at_one at_two at_three =
          quarter_from three (start + 2 ^ turns) _ (omega (arith, whole, step)) window.inside (omega (arith, step)) (λ _. grind (arith, nat_tests)) window.higher
      reached true true false at_one at_two at_three =
          quarter_from two three _ (omega (arith, step)) (omega (arith, step, quarters_inside.0)) (omega (arith, step)) (λ _. grind (arith, nat_tests)) (λ _. grind (arith, nat_tests))
      reached true false false at_one at_two at_three =
          quarter_from one two _ (omega (arith, step)) (omega (arith, step, quarters_inside.0)) (omega (arith, step)) (λ _. grind (arith, nat_tests)) (λ _. grind (arith, nat_tests))
      reached false false false at_one at_two at_three =
          quarter_from start one _ (omega (arith, step)) (omega (arith, step, quarters_inside.0)) (omega (arith, step)) window.at_most (λ _. grind (arith, nat_tests))
      reached false true fourth at_one at_two at_three =
          let up = rises one two no_slot (omega arith) (omega (arith, step, quarters_inside.0, quarters_inside.1)) in
          absurd (grind (arith, nat_tests))
      reached second false true at_one at_two at_three =
          let up = rises two three no_slot (omega arith) (omega (arith, step, quarters_inside.0, quarters_inside.1)) in
          absurd (grind (arith, nat_tests))

      -- and the number of slots in them fits
      pub IsWindow-turn : (second third fourth : Bool) → leb (get_or run one no_slot).granule granule ≡ second
          → leb (get_or run two no_slot).granule granule ≡ third → leb (get_or run three no_slot).granule granule ≡ fourth
          → IsWindow run granule (start + (bool_byte second + bool_byte third + bool_byte fourth) * quarter % 2 ^ 64) (turns - 2)
      IsWindow-turn second third fourth at_one at_two at_three =
          let next = reached second third fourth at_one at_two at_three in
          let fits : (bool_byte second + bool_byte third + bool_byte fourth) * quarter < 2 ^ 64 = omega (arith, next.inside, short) in
          subst (λ (n : ℕ). IsWindow run granule (start + n) (turns - 2)) (sym (mod-eq_of_lt fits)) next

  -- a slot that isn't above the number, before one that is
  pub IsLastAtMost-here : (start : ℕ) → start < length run → (0 < start → (get_or run start no_slot).granule ≤ granule)
      → (start + 1 < length run → granule < (get_or run (start + 1) no_slot).granule) → IsLastAtMost run granule start
  IsLastAtMost-here start inside le behind = record {
    in_range = inside;
    at_most = λ d some. omega (arith, le some, ap granule_of (get_or_default run start d no_slot inside));
    higher_after = λ i d lt below.
        omega (arith, behind (omega arith), rises (start + 1) i d (omega arith) below, ap granule_of (get_or_default run (start + 1) d no_slot (omega arith)));
  }

-- a number of slots is at least as many as its highest bit, and fewer than twice as many
pub highest : (count : ℕ) → 0 < count → count < 2 ^ 32 → record {
  few : 63 - count_leading_zeros 64 count < 32;
  le : 2 ^ (63 - count_leading_zeros 64 count) ≤ count;
  lt : count < 2 * 2 ^ (63 - count_leading_zeros 64 count);
  fits : 2 ^ (63 - count_leading_zeros 64 count) < 2 ^ 64;
}
highest count some short =
    let has = leading_length 64 count (omega arith) in
    by_length (has.0) _ has.1 has.2 has.3
  where
    by_length : (bits none_set : ℕ) → none_set + bits ≡ 64 → count < 2 ^ bits → 2 ^ bits ≤ 2 * count + 1 → record {
      few : 63 - none_set < 32;
      le : 2 ^ (63 - none_set) ≤ count;
      lt : count < 2 * 2 ^ (63 - none_set);
      fits : 2 ^ (63 - none_set) < 2 ^ 64;
    }
    by_length zero none_set split above most = absurd (omega (arith, above, some))
    by_length (suc turns) none_set split above most =
        let is : turns ≡ 63 - none_set = omega arith in
        let twice = two-pow-succ turns in
        let le : 2 ^ turns ≤ count = omega (arith, most, twice) in
        let few : turns < 32 = grind (arith, past) in
        subst (λ (n : ℕ). record { few : n < 32; le : 2 ^ n ≤ count; lt : count < 2 * 2 ^ n; fits : 2 ^ n < 2 ^ 64 }) is (record {
          few = few;
          le = le;
          lt = omega (arith, above, twice);
          fits = omega (arith, le, short);
        })
      where
        past : 32 ≤ turns → turns < 32
        past far =
            let less : 2 ^ 32 ≤ 2 ^ turns = pow-le-pow_right (omega arith) far in
            absurd (omega (arith, less, short, most, two-pow-succ turns))

-- what a search of the run of a digit finds
module _ (used : ℕ) (slots : List Slot) (fits : used ≤ length slots) (level from to : ℕ) (is_from : from ≡ run_end used (level + 1))
    (is_to : to ≡ run_end used level) (runs : AreRuns (entries_of used slots)) (granule last : ℕ) (is : IsLastAtMost (part from to slots) granule last) where
  abbrev entries : List Listed
  entries = entries_of used slots

  inside : to ≤ used
  inside = omega (arith, is_to, run_end-le used level)

  ordered : from ≤ to
  ordered = omega (arith, is_from, is_to, run_end-rises used level)

  many : length (part from to slots) ≡ to - from
  many = length-take-le (to - from) (drop from slots) (omega (arith, length-drop from slots, ordered, inside))

  in_part : (i : ℕ) → i < to - from → (get_or (part from to slots) i no_slot).granule ≡ granule_at entries (from + i)
  in_part i lt =
      ap granule_of (get_or-take (to - from) (drop from slots) i no_slot lt ∙ get_or-drop from slots i no_slot)
      ∙ sym (granule_in used slots fits (from + i) no_slot (omega (arith, ordered, inside)))

  abbrev found : ℕ
  found = (get_or slots (from + last) no_slot).granule

  found_is : granule_at entries (from + last) ≡ found
  found_is = granule_in used slots fits (from + last) no_slot (omega (arith, is.in_range, many, ordered, inside))

  pub IsEntryAt-found : found ≡ granule → IsEntryAt entries granule (from + last)
  IsEntryAt-found same = record {
    in_range = omega (arith, is.in_range, many, ordered, inside, length-entries_of used slots fits);
    has_granule = found_is ∙ same;
  }

  moved : (i : ℕ) → from ≤ i → i < to → granule_at entries i ≡ (get_or (part from to slots) (i - from) no_slot).granule
  moved i above below = ap (granule_at entries) {y = from + (i - from)} (omega arith) ∙ sym (in_part (i - from) (omega arith))

  last_is : (get_or (part from to slots) last no_slot).granule ≡ found
  last_is = in_part last (omega (arith, is.in_range, many)) ∙ found_is

  before : (i : ℕ) → from ≤ i → i ≤ from + last → granule_at entries i ≤ found
  before i above below =
      let up = run_slots_rise used slots fits runs level from to is_from is_to (i - from) last no_slot (omega arith) is.in_range in
      omega (arith, moved i above (omega (arith, is.in_range, many)), last_is, up)

  behind : (i : ℕ) → from + last < i → i < to → granule < granule_at entries i
  behind i above below =
      let later = is.higher_after (i - from) no_slot (omega arith) (omega (arith, many)) in
      omega (arith, moved i (omega arith) below, later)

  -- the gap is behind the slot that was found, or before it
  pub IsGapIn-found : (is_less : Bool) → nat_lt found granule ≡ is_less → found ≢ granule → IsGapIn entries from to granule (from + last + bool_byte is_less)
  IsGapIn-found true test differs =
      let less : found < granule = grind (arith, nat_tests) in record {
        in_range = (omega arith, omega (arith, is.in_range, many));
        lower_before = λ i above below. omega (arith, before i above (omega arith), less);
        higher_after = λ i above below. behind i (omega arith) below;
      }
  IsGapIn-found false test differs =
      let greater : granule < found = grind (arith, nat_tests) in
      let first : last ≡ 0 = grind (arith, is.at_most no_slot, last_is) in record {
        in_range = (omega arith, omega (arith, is.in_range, many));
        lower_before = λ i above below. absurd (omega (arith, first, above, below));
        higher_after = λ i above below.
            let at : i ≡ from + last → granule_at entries i ≡ granule_at entries (from + last) = ap (granule_at entries) in
            grind (arith, at, found_is, greater, behind i, below);
      }
