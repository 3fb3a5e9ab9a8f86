-- Sizes and values behind them: what the readers' answers mean.
use Rattle.std.specs.{Int.from_le_bytes}
use Rattle.std.proofs.Common.{Bool, ◌≡◌, ℕ, zero, suc, ◌+◌, ◌*◌, ◌-◌, ◌%◌, ◌<◌, ◌≤◌, List, [], ◌∷◌, ◌++◌, length, take, drop}
use Rattle.std.proofs.Common.{get_or, sym, ap, subst, ◌∙◌, arith, rules, decimal, append_assoc, refl, Fits, w8, w16, w32}
use Rattle.std.proofs.{Common.{length-take-le, take_all}, lemmas.{Fmt.{decimal_digit, decimal_injective}, Nat.{le_bytes_2, le_bytes_4}}}
use Rattle.cap_word.specs.Digits.{hex_digits}
use Rattle.cap_word.proofs.DigitLemmas.{length-hex_digits}
use Rattle.cap_log.specs.Parts.{Begins, BeginsWithNone, accessed_spelling, value_mark}
use Rattle.cap_log.specs.Ranges.{Datum, IsDataSize, IsDataValue, IsDatum}
use Rattle.cap_log.proofs.{Cuts.{rejoined, same_cut}, PartLemmas.{behind_mark, size-small, size-spaceless}}

-- the bytes of a load's or a store's end, cut behind its size
pub accessed_cut : (is_load : Bool) (datum : Datum) (end : ℕ) (bytes rest : List ℕ) → IsDatum datum
    → bytes ≡ accessed_spelling is_load datum ++ end ∷ rest
    → Begins IsDataSize decimal 32 bytes datum.size (value_mark is_load ++ (hex_digits (2 * datum.size) datum.value ++ end ∷ rest))
accessed_cut is_load datum end bytes rest fits e =
    let digits = hex_digits (2 * datum.size) datum.value in (
      fits.0,
      e ∙ append_assoc (decimal datum.size) (32 ∷ (value_mark is_load ++ digits)) (end ∷ rest)
          ∙ ap (λ (bs : List ℕ). decimal datum.size ++ 32 ∷ bs) (append_assoc (value_mark is_load) digits (end ∷ rest)),
    )

-- so where no value of the size at the front stands behind it, none stands there
pub no_accessed : (is_load : Bool) (datum : Datum) (n end : ℕ) (bytes digits rest : List ℕ)
    → Begins IsDataSize decimal 32 bytes n (value_mark is_load ++ digits) → BeginsWithNone (IsDataValue n) (hex_digits (2 * n)) end digits
    → IsDatum datum → bytes ≡ accessed_spelling is_load datum ++ end ∷ rest → ⊥
no_accessed is_load datum n end bytes digits rest found none fits e =
    let cut = accessed_cut is_load datum end bytes rest fits e in
    let parts = same_cut 32 (decimal n) (decimal datum.size) _ _ (size-spaceless n found.0) (size-spaceless datum.size fits.0)
    (sym found.1 ∙ cut.1) in
    let same = decimal_injective n datum.size (omega (arith, size-small n found.0)) (omega (arith, size-small datum.size fits.0)) parts.0 in
    subst (λ (k : ℕ). BeginsWithNone (IsDataValue k) (hex_digits (2 * k)) end digits) same none datum.value rest
    (fits.1, behind_mark is_load _ _ parts.1)

-- a digit and the byte behind it, by the number of two bytes
pub by_two : (bytes : List ℕ) (word end n : ℕ) → ((i : ℕ) → Fits w8 (get_or bytes i 0)) → word < 65536
    → word ≡ from_le_bytes w16 (take 2 bytes) → end < 256 → n < 10
    → (2 ≤ length bytes → (word + (65536 - (48 + end * 256))) % 65536 ≡ n → bytes ≡ decimal n ++ end ∷ drop 2 bytes)
    × ((rest : List ℕ) → bytes ≡ decimal n ++ end ∷ rest → (word + (65536 - (48 + end * 256))) % 65536 ≡ n)
by_two bytes word end n small below is ended few = rw (decimal_digit n few) (
  λ two e. rejoined 2 bytes _ _ (sym (le_bytes_2 ((48 + n) ∷ end ∷ []) word refl (λ i. search rules) (omega arith))
      ∙ le_bytes_2 (take 2 bytes) word (length-take-le 2 bytes two) (λ i. search (rules, small i)) is) refl,
  λ rest e. omega (arith, is ∙ ap (λ (bs : List ℕ). from_le_bytes w16 (take 2 bs)) e),
)

-- a digit and the mark of a load behind it, by the number of four bytes
pub by_four : (bytes : List ℕ) (word n : ℕ) → ((i : ℕ) → Fits w8 (get_or bytes i 0)) → word < 4294967296
    → word ≡ from_le_bytes w32 (take 4 bytes) → n < 10
    → (4 ≤ length bytes → (word + (4294967296 - 540876848)) % 4294967296 ≡ n → bytes ≡ decimal n ++ 32 ∷ 61 ∷ 32 ∷ drop 4 bytes)
    × ((rest : List ℕ) → bytes ≡ decimal n ++ 32 ∷ 61 ∷ 32 ∷ rest → (word + (4294967296 - 540876848)) % 4294967296 ≡ n)
by_four bytes word n small below is few = rw (decimal_digit n few) (
  λ four e. rejoined 4 bytes _ _ (sym (le_bytes_4 ((48 + n) ∷ 32 ∷ 61 ∷ 32 ∷ []) word refl (λ i. search rules) (omega arith))
      ∙ le_bytes_4 (take 4 bytes) word (length-take-le 4 bytes four) (λ i. search (rules, small i)) is) refl,
  λ rest e. omega (arith, is ∙ ap (λ (bs : List ℕ). from_le_bytes w32 (take 4 bs)) e),
)

-- digits in front of others
pub drop-hex_digits : (j k n : ℕ) → drop j (hex_digits (j + k) n) ≡ hex_digits k n
unfolding hex_digits
drop-hex_digits zero k n = ap (λ (i : ℕ). hex_digits i n) (omega arith)
drop-hex_digits (suc j) k n =
    let more : suc j + k ≡ suc (j + k) = omega arith in
    rw more (drop-hex_digits j k n)

-- the last digits of so many of a number's
pub last_digits : (all count n : ℕ) (text : List ℕ) → count ≤ all → text ≡ hex_digits all n
    → take (all - (all - count)) (drop (all - count) text) ≡ hex_digits count n
last_digits all count n text few e =
    let whole : (all - count) + count ≡ all = omega arith in
    let digits = rw whole at (drop-hex_digits (all - count) count n) in
    rw (e, digits) (take_all _ _ (omega (arith, length-hex_digits count n)))
