-- Decimal numbers: which texts they have, and what a loop over the digits keeps.
use Rattle.std.specs.{Char.digit_value, Str.Parse.{AllDigits, digits_value}}
use Rattle.std.proofs.Common.{◌≡◌, ℕ, ◌+◌, ◌-◌, ◌<◌, ◌≤◌, ◌^◌, List, ◌∷◌, ◌++◌, length, take, drop, get_or, sym, subst}
use Rattle.std.proofs.Common.{ap, ◌∙◌, arith, inl, inr, decimal, length-take-le, length-append, get_or-take, take_at}
use Rattle.std.proofs.{Math.ListN.get_or-append, Math.Seq.get_or-append_seam, lemmas.Bool.{cases_eq, cases_order, Decides.nat_tests}}
use Rattle.std.proofs.lemmas.Fmt.{decimal_digit, decimal_is_IsNumeral, decimal-digits_value, first_decimal, length-decimal-le}
use Rattle.std.proofs.lemmas.Str.Parse.{IsNumeralModel, numerals_by_value, tells_digits, digit_at, digits_value_short}
use Rattle.cap_log.specs.Parts.{Begins, IsFrom, IsFrontNumber}
use Rattle.cap_log.proofs.TakeLemmas.{cut_behind}

own : IsNumeralModel (AllDigits 10) (digits_value 10)
own = numerals_by_value (AllDigits 10) tells_digits

-- the value of a digit
pub digit_value-is : (c : ℕ) → 48 ≤ c → c ≤ 57 → digit_value c ≡ c - 48
digit_value-is c low high = grind (arith, nat_tests)

-- fewer than ten digits are a small number
pub digits_value-small : (ds : List ℕ) (i : ℕ) → i < length ds → i < 10 → AllDigits 10 (take i ds) → digits_value 10 (take i ds) < 10 ^ 9
digits_value-small ds i below short all = digits_value_short own (take i ds) 9 all (omega (arith, length-take-le i ds (omega arith)))

-- the digits at the front, where some and a byte that is no digit stand there, are those
front_length : (most : ℕ) (ds rest : List ℕ) (value count end : ℕ) → IsFrontNumber most (ds ++ end ∷ rest) value count → end ≤ 32
    → AllDigits 10 ds → length ds ≤ most → count ≡ length ds
front_length most ds rest value count end front low all short =
    let bytes = ds ++ end ∷ rest in
    let long = length-append ds (end ∷ rest) in
    elim (cases_order count (length ds)) [
      | inl same ↦ same
      | inr (inl less) ↦
          let digit = digit_at ds count all less in
          let same = get_or-append ds (end ∷ rest) 0 count less in
          absurd (front.stops (omega arith) (omega arith) (omega (arith, digit.0)) (omega (arith, digit.1)))
      | inr (inr more) ↦
          let digit = digit_at (take count bytes) (length ds) front.digits (omega (arith, length-take-le count bytes front.inside)) in
          omega (arith, digit.0, get_or-take count bytes (length ds) 0 more, get_or-append_seam ds end rest 0)
    ]

-- so they tell where a number ends, and which it is
pub record FrontIs (bytes : List ℕ) (value count end n : ℕ) : Type 0 where
  pub some : 0 < count
  pub before : count < length bytes
  pub ended : get_or bytes count 0 ≡ end
  pub value_is : value ≡ n
  pub lead : get_or bytes 0 0 ≡ 48 → count ≡ 1

front_facts : (most value count end n : ℕ) (rest : List ℕ) → IsFrontNumber most (decimal n ++ end ∷ rest) value count → end ≤ 32
    → n < 2 ^ 32 → length (decimal n) ≤ most → FrontIs (decimal n ++ end ∷ rest) value count end n
front_facts most value count end n rest front low small short =
    let numeral = decimal_is_IsNumeral n (omega arith) in
    let some = numeral.0.0 in
    let same = front_length most (decimal n) rest value count end front low numeral.0.1 short in
    record {
      some = omega arith;
      before = omega (arith, length-append (decimal n) (end ∷ rest));
      ended = rw same (get_or-append_seam (decimal n) end rest 0);
      value_is = front.value_is ∙ ap (digits_value 10) (take_at (decimal n) (end ∷ rest) count (sym same)) ∙ numeral.1;
      lead = λ zero. elim (cases_eq n 0) [
        | inl e ↦ same ∙ ap (λ (k : ℕ). length (decimal k)) e ∙ ap length (decimal_digit 0 (omega arith))
        | inr apart ↦ absurd (omega (arith, first_decimal n (omega arith) (omega arith), get_or-append (decimal n) (end ∷ rest) 0 0 some))
      ];
    }

pub front_of : (most least bound end n : ℕ) (bytes rest : List ℕ) (value count : ℕ) → 0 < most → bound ≤ 10 ^ most → bound ≤ 2 ^ 32
    → end ≤ 32 → IsFrontNumber most bytes value count → Begins (IsFrom least bound) decimal end bytes n rest → FrontIs bytes value count end n
front_of most least bound end n bytes rest value count some room small low front begins =
    let below : n < bound = begins.0.1 in
    let short = length-decimal-le most n some (omega arith) (omega arith) in
    subst (λ bs. FrontIs bs value count end n) (sym begins.1)
    (front_facts most value count end n rest (rw begins.1 at front) low (omega arith) short)

-- digits at the front, with no zero before others, and the byte behind them are a number and what ends it
pub number_in_front : (most : ℕ) (bytes : List ℕ) (value count end : ℕ) → IsFrontNumber most bytes value count → 0 < count
    → count < length bytes → get_or bytes count 0 ≡ end
    → value < 2 ^ 32 → (get_or bytes 0 0 ≡ 48 → count ≡ 1) → bytes ≡ decimal value ++ end ∷ drop (count + 1) bytes
number_in_front most bytes value count end front some before ended small lead =
    let kept = length-take-le count bytes front.inside in
    let digits = decimal-digits_value own (take count bytes) front.digits (omega arith)
    (λ zero. kept ∙ lead (sym (get_or-take count bytes 0 0 some) ∙ zero)) (omega (arith, front.value_is)) in
    cut_behind count end bytes before ended
    ∙ ap (λ (ds : List ℕ). ds ++ end ∷ drop (count + 1) bytes) (sym digits ∙ ap decimal (sym front.value_is))
