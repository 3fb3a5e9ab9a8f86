-- Bytes that were compared as one vector, and a result behind its mark.
use Rattle.std.proofs.Common.{◌≡◌, ℕ, ◌%◌, ◌^◌, ◌/◌, eqb, not, Bool, true, false, cond, codes, List, [], ◌∷◌, ◌++◌, map, length, refl, sym}
use Rattle.std.proofs.Common.{◌∙◌, arith, inl, inr, append_assoc, w8}
use Rattle.std.proofs.lemmas.{Bool.{cases_eq, eqb-true, ne_eqb}, Simd.{length-zip2, mask_l-mod, tops_compared}}
use lib.Lanes.{zip2, mask_l, top}
use Rattle.cap_word.specs.Digits.{hex_digits}
use Rattle.cap_log.specs.Lines.{tag_spelling}
use Rattle.cap_log.specs.Parts.{result_mark}
use Rattle.cap_word.proofs.ReadingLemmas.{hex_digits-halves}

-- whether two lanes differ
abbrev miss : ℕ → ℕ → Bool
miss x y = not (eqb x y)

no_miss : (xs ys : List ℕ) → length xs ≡ length ys → mask_l (zip2 miss xs ys) ≡ 0 → xs ≡ ys
no_miss [] [] long none = refl
no_miss [] (y ∷ ys) long none = absurd (omega (arith, long))
no_miss (x ∷ xs) [] long none = absurd (omega (arith, long))
no_miss (x ∷ xs) (y ∷ ys) long none = elim (cases_eq x y) [
  | inl same ↦ rw (same, no_miss xs ys (omega (arith, long)) (omega (arith, none))) refl
  | inr other ↦ let hit = rw (ne_eqb x y other) at none in absurd (omega (arith, hit))
]

-- where no lane differs, the bytes are the same
pub same_lanes : (xs ys : List ℕ) → length xs ≡ 16 → length ys ≡ 16
    → eqb (mask_l (map (top 7) (zip2 (λ x y. cond (miss x y) 255 0) xs ys)) % 2 ^ 64) 0 ≡ true → xs ≡ ys
same_lanes xs ys long long' none =
    let size = length-zip2 miss xs ys (omega arith) in
    let lanes = tops_compared w8 miss xs ys in
    no_miss xs ys (omega arith) (sym (mask_l-mod (zip2 miss xs ys) 64 (omega arith)) ∙ eqb-true _ 0 (rw lanes at none))

-- a result behind its mark
result_marked : (tag : Bool) (digits rest : List ℕ)
    → (codes "=" ++ 32 ∷ (tag_spelling tag ++ 32 ∷ digits)) ++ rest ≡ result_mark tag ++ (digits ++ rest)
result_marked true digits rest = refl
result_marked false digits rest = refl

-- a mark, the digits of a word and the byte that ends them are a result
pub marked : (tag : Bool) (first high low : List ℕ) (last end n : ℕ) (bytes r s t rest : List ℕ) → first ≡ result_mark tag → bytes ≡ first ++ r
    → r ≡ high ++ s → s ≡ low ++ t → t ≡ last ∷ rest → last ≡ end → high ≡ hex_digits 16 (n / 2 ^ 64)
    → low ≡ hex_digits 16 (n % 2 ^ 64) → bytes ≡ (codes "=" ++ 32 ∷ (tag_spelling tag ++ 32 ∷ hex_digits 32 n)) ++ end ∷ rest
marked tag first high low last end n bytes r s t rest m i j k l e h w =
    let whole : bytes ≡ first ++ (hex_digits 32 n ++ end ∷ rest) =
    rw (hex_digits-halves n, ← h, ← w, ← e, append_assoc, ← l, ← k, ← j) i in
    rw (result_marked tag (hex_digits 32 n) (end ∷ rest)) (rw m at whole)
