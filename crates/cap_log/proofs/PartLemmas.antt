-- The parts of a line, one by one: each value in range has one short spelling, without a line feed.
use Rattle.std.specs.{Cmp.Lexicographic.pointwise, Fmt.signed_decimal}
use Rattle.std.proofs.Common.{◌≡◌, ◌≢◌, ℕ, ◌+◌, ◌*◌, ◌%◌, ◌<◌, ◌≤◌, ◌^◌, ℤ, Bool, true, false, eqb}
use Rattle.std.proofs.Common.{List, [], ◌∷◌, ◌++◌, length, get_or, take, drop, sym, ap, subst, ◌∙◌, refl}
use Rattle.std.proofs.{Common.{arith, decimal, codes, lit≤, length-append, take_at}, lemmas.Bool.{false≢true}}
use Rattle.std.proofs.lemmas.Fmt.{decimal_injective, length-decimal-le, length_signed_le, signed_decimal_injective}
use Rattle.std.proofs.lemmas.List.Elements.{All-append, All-cons}
use Rattle.cap_word.specs.{declared.word.Cap.Cap, Digits.hex_digits}
use Rattle.cap_word.proofs.{DigitLemmas.{length-hex_digits, pow_256}, ReadingLemmas.hex_digits-same}
pub use Rattle.cap_log.specs.SpacelessLaws.{Lacks-decimal, Lacks-hex, Lacks-signed, number-spaceless, offset-mag}
pub use Rattle.cap_log.specs.SpacelessLaws.{offset-spaceless, place-spaceless, register-spaceless}
use Rattle.cap_log.specs.declared.lines.Place.{Place, TheVariants.{Register, Granule}}
use Rattle.cap_log.specs.Lines.{IsDataSize, IsDataValue, IsNumber, IsOffset, IsPlace, IsRegister, IsTarget, IsWord}
use Rattle.cap_log.specs.{Lines.{place_spelling, register_spelling, tag_spelling}, Parts.{Begins, BeginsWithNone}}
use Rattle.cap_log.specs.{Parts.{HasNoSpace, accessed_spelling, result_spelling, value_mark, Lacks}, Ranges.IsDatum}
use Rattle.cap_log.proofs.{Cuts.{Lacks-by_test, same_cut}, OperandLemmas.IsOperand}

-- counts
pub count-operand : IsOperand (λ n. n < 2 ^ 32) decimal 10
count-operand = record {
  one = λ m n small small' e. decimal_injective m n (omega arith) (omega arith) e;
  plain = λ n small. Lacks-decimal 10 n (omega arith) (omega arith);
  short = λ n small. length-decimal-le 10 n (omega arith) (omega arith) (omega arith);
}

-- registers
pub register-operand : IsOperand IsRegister register_spelling 3
register-operand = record {
  one = λ m n small small' e. let digits : decimal m ≡ decimal n = cc in decimal_injective m n (omega arith) (omega arith) digits;
  plain = λ n small. All-cons (λ b. b ≢ 10) 99 (decimal n) (omega arith) (Lacks-decimal 10 n (omega arith) (omega arith));
  short = λ n small. let short = length-decimal-le 2 n (omega arith) (omega arith) (omega arith) in omega arith;
}

pub target-operand : IsOperand IsTarget register_spelling 3
target-operand = record {
  one = λ m n fits fits' e. register-operand.one m n fits.1 fits'.1 e;
  plain = λ n fits. register-operand.plain n fits.1;
  short = λ n fits. register-operand.short n fits.1;
}

-- numbers of so many hexadecimal digits
hex-operand : (k : ℕ) → IsOperand (λ n. n < 16 ^ k) (hex_digits k) k
hex-operand k = record {
  one = λ m n small small' e. hex_digits-same k m n small small' e;
  plain = λ n small. Lacks-hex 10 k n refl;
  short = λ n small. omega (arith, length-hex_digits k n);
}

pub number-operand : IsOperand IsNumber (hex_digits 16) 16
number-operand = hex-operand 16

pub word-operand : IsOperand IsWord (hex_digits 32) 32
word-operand = hex-operand 32

-- places
place-one : (a b : Place) → IsPlace a → IsPlace b → place_spelling a ≡ place_spelling b → a ≡ b
place-one (Register m) (Register n) fits fits' e = ap Register (target-operand.one m n fits fits' e)
place-one (Register m) (Granule n) fits fits' e = let h : ◌≡◌ {A = ℕ} 99 64 = ap (λ (bs : List ℕ). get_or bs 0 0) e in absurd (omega arith)
place-one (Granule m) (Register n) fits fits' e = let h : ◌≡◌ {A = ℕ} 64 99 = ap (λ (bs : List ℕ). get_or bs 0 0) e in absurd (omega arith)
place-one (Granule m) (Granule n) fits fits' e =
    let address = number-operand.one (16 * m) (16 * n) (omega arith) (omega arith) (ap (drop 1) e) in
    ap Granule (omega arith)

place-plain : (a : Place) → IsPlace a → Lacks 10 (place_spelling a) × (length (place_spelling a) ≤ 17)
place-plain (Register n) fits = (target-operand.plain n fits, omega (arith, target-operand.short n fits))
place-plain (Granule n) fits =
    (All-cons (λ b. b ≢ 10) 64 (hex_digits 16 (16 * n)) (omega arith) (Lacks-hex 10 16 (16 * n) refl), omega (arith, length-hex_digits 16 (16 * n)))

pub place-operand : IsOperand IsPlace place_spelling 17
place-operand = record { one = place-one; plain = λ a fits. (place-plain a fits).0; short = λ a fits. (place-plain a fits).1 }

-- results
result_parts : (s t : Bool) (x y : List ℕ) → tag_spelling s ++ 32 ∷ x ≡ tag_spelling t ++ 32 ∷ y → (s ≡ t) × (x ≡ y)
result_parts true true x y e = (refl, ap (λ (bs : List ℕ). drop 2 bs) e)
result_parts true false x y e = let h : ◌≡◌ {A = ℕ} 49 48 = ap (λ (bs : List ℕ). get_or bs 0 0) e in absurd (omega arith)
result_parts false true x y e = let h : ◌≡◌ {A = ℕ} 48 49 = ap (λ (bs : List ℕ). get_or bs 0 0) e in absurd (omega arith)
result_parts false false x y e = (refl, ap (λ (bs : List ℕ). drop 2 bs) e)

result-plain : (t : Bool) (x : List ℕ) → Lacks 10 x → Lacks 10 (61 ∷ 32 ∷ (tag_spelling t ++ 32 ∷ x))
result-plain true x h = All-append (λ b. b ≢ 10) (codes "= 1 ") x (Lacks-by_test 10 (codes "= 1 ") refl) h
result-plain false x h = All-append (λ b. b ≢ 10) (codes "= 0 ") x (Lacks-by_test 10 (codes "= 0 ") refl) h

result-long : (t : Bool) (x : List ℕ) → length (61 ∷ 32 ∷ (tag_spelling t ++ 32 ∷ x)) ≡ length x + 4
result-long true x = omega arith
result-long false x = omega arith

-- behind the first four bytes
pub drop_result : (t : Bool) (x more : List ℕ) → drop 4 (61 ∷ 32 ∷ (tag_spelling t ++ 32 ∷ x) ++ more) ≡ x ++ more
drop_result true x more = refl
drop_result false x more = refl

pub length-result : (result : Cap) → length (result_spelling result) ≡ 36
length-result result = omega (arith, result-long result.tag (hex_digits 32 result.word.0), length-hex_digits 32 result.word.0)

result_of : Bool → ℕ → Cap
result_of tag n = record { tag = tag; word = record { 0 = n } }

pub result-operand : IsOperand (λ r. IsWord r.word.0) result_spelling 36
unfolding result_of
result-operand = record {
  one = λ a b small small' e.
      let rest : tag_spelling a.tag ++ 32 ∷ hex_digits 32 a.word.0 ≡ tag_spelling b.tag ++ 32 ∷ hex_digits 32 b.word.0 = cc in
      let parts = result_parts a.tag b.tag (hex_digits 32 a.word.0) (hex_digits 32 b.word.0) rest in
      let number = hex_digits-same 32 a.word.0 b.word.0 small small' parts.1 in
      ap (λ t. result_of t a.word.0) parts.0 ∙ ap (result_of b.tag) number;
  plain = λ a small. result-plain a.tag (hex_digits 32 a.word.0) (Lacks-hex 10 32 a.word.0 refl);
  short = λ a small. omega (arith, result-long a.tag (hex_digits 32 a.word.0), length-hex_digits 32 a.word.0);
}

-- offsets
offset-short : (z : ℤ) → IsOffset z → length (signed_decimal z) ≤ 5
offset-short z fits = let small = offset-mag z fits in length_signed_le 4 z (omega arith) (omega arith)

pub offset-operand : IsOperand IsOffset signed_decimal 5
offset-operand = record {
  one = λ y z fits fits' e. signed_decimal_injective y z (omega (arith, offset-mag y fits)) (omega (arith, offset-mag z fits')) e;
  plain = λ z fits. Lacks-signed 10 z (omega arith) fits;
  short = offset-short;
}

-- sizes
pub size-small : (n : ℕ) → IsDataSize n → (1 ≤ n) × (n ≤ 8)
size-small n fits = (omega arith, omega arith)

pub size-spaceless : (n : ℕ) → IsDataSize n → HasNoSpace (decimal n)
size-spaceless n fits = let small = size-small n fits in Lacks-decimal 32 n (omega arith) (omega arith)

-- values of a size
pub value-same : (size m n : ℕ) → IsDataValue size m → IsDataValue size n → hex_digits (2 * size) m ≡ hex_digits (2 * size) n → m ≡ n
value-same size m n small small' e =
    hex_digits-same (2 * size) m n (subst (λ (p : ℕ). m < p) (pow_256 size) small) (subst (λ (p : ℕ). n < p) (pow_256 size) small') e

sized_parts : (s t m n : ℕ) → IsDataSize s → IsDataSize t → IsDataValue s m → IsDataValue t n → decimal s ≡ decimal t
    → hex_digits (2 * s) m ≡ hex_digits (2 * t) n → (s ≡ t) × (m ≡ n)
sized_parts s t m n fits fits' value value' size digits =
    let small = size-small s fits in
    let small' = size-small t fits' in
    let same = decimal_injective s t (omega arith) (omega arith) size in
    let same_value = subst (λ (k : ℕ). IsDataValue k n → hex_digits (2 * s) m ≡ hex_digits (2 * k) n → m ≡ n) same (value-same s m n value) in
    (same, same_value value' digits)

-- what stands before a value
mark-plain : (is_load : Bool) → Lacks 10 (value_mark is_load) × (length (value_mark is_load) ≤ 2)
mark-plain true = (Lacks-by_test 10 (codes "= ") refl, lit≤ tt)
mark-plain false = (Lacks-by_test 10 [] refl, lit≤ tt)

pub behind_mark : (is_load : Bool) (x y : List ℕ) → value_mark is_load ++ x ≡ value_mark is_load ++ y → x ≡ y
behind_mark true x y e = ap (λ (bs : List ℕ). drop 2 bs) e
behind_mark false x y e = e

-- the ends of loads and stores
pub accessed-operand : (is_load : Bool) → IsOperand IsDatum (accessed_spelling is_load) 20
accessed-operand is_load = record {
  one = λ a b fits fits' e.
      let cut = same_cut 32 (decimal a.size) (decimal b.size) (value_mark is_load ++ hex_digits (2 * a.size) a.value)
      (value_mark is_load ++ hex_digits (2 * b.size) b.value) (size-spaceless a.size fits.0) (size-spaceless b.size fits'.0) e in
      let parts = sized_parts a.size b.size a.value b.value fits.0 fits'.0 fits.1 fits'.1 cut.0 (behind_mark is_load _ _ cut.1) in
      ap (λ (x : ℕ). record { size = x; value = a.value }) parts.0 ∙ ap (λ (y : ℕ). record { size = b.size; value = y }) parts.1;
  plain = λ a fits.
      let small = size-small a.size fits.0 in
      let digits = hex_digits (2 * a.size) a.value in
      All-append (λ b. b ≢ 10) (decimal a.size) (32 ∷ (value_mark is_load ++ digits)) (Lacks-decimal 10 a.size (omega arith) (omega arith))
      (All-cons (λ b. b ≢ 10) 32 (value_mark is_load ++ digits) (omega arith)
      (All-append (λ b. b ≢ 10) (value_mark is_load) digits (mark-plain is_load).0 (Lacks-hex 10 (2 * a.size) a.value refl)));
  short = λ a fits.
      let small = size-small a.size fits.0 in
      let size = length-decimal-le 1 a.size (omega arith) (omega arith) (omega arith) in
      let digits = hex_digits (2 * a.size) a.value in
      omega (
        arith,
        length-append (decimal a.size) (32 ∷ (value_mark is_load ++ digits)),
        length-append (value_mark is_load) digits,
        (mark-plain is_load).1,
        length-hex_digits (2 * a.size) a.value,
      );
}

-- behind an @ stands the address of a granule
pub no_address : (end : ℕ) (digits : List ℕ) → BeginsWithNone IsNumber (hex_digits 16) end digits
    → BeginsWithNone IsPlace place_spelling end (64 ∷ digits)
no_address end digits none (Register n) rest begins =
    let h : ◌≡◌ {A = ℕ} 64 99 = ap (λ (bs : List ℕ). get_or bs 0 0) begins.1 in absurd (omega arith)
no_address end digits none (Granule n) rest begins = none (16 * n) rest (omega (arith, begins.0), ap (λ (bs : List ℕ). drop 1 bs) begins.1)

pub no_granule : (end address : ℕ) (digits rest : List ℕ) → Begins IsNumber (hex_digits 16) end digits address rest → (address % 16 ≡ 0 → ⊥)
    → BeginsWithNone IsPlace place_spelling end (64 ∷ digits)
no_granule end address digits rest found other (Register n) rest' begins =
    let h : ◌≡◌ {A = ℕ} 64 99 = ap (λ (bs : List ℕ). get_or bs 0 0) begins.1 in absurd (omega arith)
no_granule end address digits rest found other (Granule n) rest' begins =
    let same = sym found.1 ∙ ap (λ (bs : List ℕ). drop 1 bs) begins.1 in
    let text = sym (take_at (hex_digits 16 address) (end ∷ rest) 16 (length-hex_digits 16 address)) ∙ ap (λ (bs : List ℕ). take 16 bs) same
    ∙ take_at (hex_digits 16 (16 * n)) (end ∷ rest') 16 (length-hex_digits 16 (16 * n)) in
    let one = number-operand.one address (16 * n) found.0 (omega (arith, begins.0)) text in
    other (omega arith)

-- and without an @, a register that is written
pub no_place : (end : ℕ) (bytes : List ℕ) → pointwise eqb (take 1 bytes) (64 ∷ []) ≡ false
    → BeginsWithNone IsTarget register_spelling end bytes
    → BeginsWithNone IsPlace place_spelling end bytes
no_place end bytes other none (Register n) rest begins = none n rest begins
no_place end bytes other none (Granule n) rest begins =
    false≢true (sym other ∙ ap (λ (bs : List ℕ). pointwise eqb (take 1 bs) (64 ∷ [])) begins.1)
