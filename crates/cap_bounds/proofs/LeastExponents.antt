-- The least exponent of a request: it is there, it is one, and the code finds it.
use Rattle.std.proofs.Common.{◌≡◌, ℕ, zero, suc, ◌+◌, ◌-◌, ◌*◌, ◌^◌, ◌<◌, ◌≤◌, sym, inl, inr, arith, subst, pow_pos}
use Rattle.std.proofs.lemmas.{Bool.{cases_lt, cases_order, Decides.nat_tests}, Nat.leading_top}
use lib.Count.{count_leading_zeros}
use Rattle.cap_bounds.specs.Rounding.{units_of, IsLeastExponent, first_exponent, rounded_exponent}
use Rattle.cap_bounds.proofs.{Powers.{pow_split, pow_le}, Units.{many, few}}

first-here : (b l count e : ℕ) → units_of b l e < 1024 → first_exponent b l (suc count) e ≡ e
unfolding first_exponent
first-here b l count e h = grind (arith, nat_tests)

first-later : (b l count e : ℕ) → 1024 ≤ units_of b l e → first_exponent b l (suc count) e ≡ first_exponent b l count (suc e)
unfolding first_exponent
first-later b l count e h = grind (arith, nat_tests)

-- r is the least exponent at which a request covers less than 1024 units
record IsFirst (b l r : ℕ) : Type 0 where
  fits : units_of b l r < 1024
  least : (k : ℕ) → k < r → 1024 ≤ units_of b l k

first-is : (b l count e : ℕ) → ((k : ℕ) → k < e → 1024 ≤ units_of b l k) → units_of b l (e + count) < 1024
    → (first_exponent b l count e ≤ e + count) × IsFirst b l (first_exponent b l count e)
unfolding first_exponent
first-is b l zero e below h =
    (omega arith, record { fits = subst (λ (x : ℕ). units_of b l x < 1024) (let f : e + 0 ≡ e = omega arith in f) h; least = below })
first-is b l (suc count) e below h = elim (cases_lt (units_of b l e) 1024) [
  | inl here ↦ subst (λ (x : ℕ). (x ≤ e + suc count) × IsFirst b l x) (sym (first-here b l count e here))
      (omega arith, record { fits = here; least = below })
  | inr later ↦
      let more : (k : ℕ) → k < suc e → 1024 ≤ units_of b l k = λ k p. elim (cases_order k e) [
        | inl same ↦ subst (λ (x : ℕ). 1024 ≤ units_of b l x) (sym same) later
        | inr (inl lower) ↦ below k lower
        | inr (inr higher) ↦ absurd (omega arith)
      ] in
      let same : e + suc count ≡ suc e + count = omega arith in
      let next = first-is b l count (suc e) more (subst (λ (x : ℕ). units_of b l x < 1024) same h) in
      subst (λ (x : ℕ). (x ≤ e + suc count) × IsFirst b l x) (sym (first-later b l count e later)) (omega (arith, next.0), next.1)
]

-- at exponent 52 every request covers few units
pub units-at-52 : (b l : ℕ) → l < 2 ^ 64 → units_of b l 52 < 1024
units-at-52 b l h = few b l (2 ^ 55) (omega arith) 1024 (omega arith)

pub rounded_exponent-short : (b l : ℕ) → l < 4096 → rounded_exponent b l ≡ 0
unfolding rounded_exponent
rounded_exponent-short b l h = grind (arith, nat_tests)

rounded_exponent-long : (b l : ℕ) → 4096 ≤ l → rounded_exponent b l ≡ first_exponent b l 52 0
unfolding rounded_exponent
rounded_exponent-long b l h = grind (arith, nat_tests)

-- the exponent of a long request is the least one
pub IsLeastExponent-rounded : (b l : ℕ) → 4096 ≤ l → l < 2 ^ 64 → IsLeastExponent b l (rounded_exponent b l)
IsLeastExponent-rounded b l h k =
    let f = first-is b l 52 0 (λ j p. absurd (omega arith)) (units-at-52 b l k) in
    subst (λ (x : ℕ). IsLeastExponent b l x) (sym (rounded_exponent-long b l h))
    (record { within = omega arith; fits = f.1.fits; least = f.1.least })

-- two least exponents are one
pub IsLeastExponent-unique : (b l d e : ℕ) → IsLeastExponent b l d → IsLeastExponent b l e → d ≡ e
IsLeastExponent-unique b l d e p q = elim (cases_order d e) [
  | inl same ↦ same
  | inr (inl lower) ↦ absurd (omega (arith, q.least d lower, p.fits))
  | inr (inr higher) ↦ absurd (omega (arith, p.least e higher, q.fits))
]

-- the exponent of a request is at most 52
pub rounded_exponent-le : (b l : ℕ) → l < 2 ^ 64 → rounded_exponent b l ≤ 52
rounded_exponent-le b l h = elim (cases_lt l 4096) [
  | inl short ↦ omega (arith, rounded_exponent-short b l short)
  | inr long ↦ let e = IsLeastExponent-rounded b l long h in omega (arith, e.within)
]

-- a length of 512 units or more covers 1024 smaller units or more
units-below : (b l e k : ℕ) → 512 * 2 ^ (e + 3) ≤ l → k < e → 1024 ≤ units_of b l k
units-below b l e k h p =
    let step : 2 ^ (k + 4) ≤ 2 ^ (e + 3) = pow_le (k + 4) (e + 3) (omega arith) in
    let double : 2 ^ (k + 4) ≡ 2 * 2 ^ (k + 3) = pow_split (k + 4) 1 (k + 3) (omega arith) in
    many b l (2 ^ (k + 3)) (pow_pos (k + 3)) 1024 (omega arith)

-- a length below 512 units covers less than 1024 of them
units-few : (b l e : ℕ) → l < 512 * 2 ^ (e + 3) → units_of b l e < 1024
units-few b l e h = few b l (2 ^ (e + 3)) (pow_pos (e + 3)) 1024 (omega (arith, pow_pos (e + 3)))

-- where the length has bit e + 12 as its highest, the least exponent is e, if the request covers few
-- units at it
pub IsLeastExponent-start : (b l e : ℕ) → e ≤ 52 → 2 ^ (e + 12) ≤ l → units_of b l e < 1024 → IsLeastExponent b l e
IsLeastExponent-start b l e he h k =
    let scale : 2 ^ (e + 12) ≡ 512 * 2 ^ (e + 3) = pow_split (e + 12) 9 (e + 3) (omega arith) in
    record { within = he; fits = k; least = λ j p. units-below b l e j (omega arith) p }

-- and else one more
pub IsLeastExponent-raised : (b l e : ℕ) → e < 52 → 2 ^ (e + 12) ≤ l → l < 2 ^ (e + 13) → 1024 ≤ units_of b l e
    → IsLeastExponent b l (e + 1)
IsLeastExponent-raised b l e he h k p =
    let scale : 2 ^ (e + 12) ≡ 512 * 2 ^ (e + 3) = pow_split (e + 12) 9 (e + 3) (omega arith) in
    let next : 2 ^ (e + 13) ≡ 512 * 2 ^ (e + 1 + 3) = pow_split (e + 13) 9 (e + 1 + 3) (omega arith) in
    let below : (j : ℕ) → j < e + 1 → 1024 ≤ units_of b l j = λ j q. elim (cases_order j e) [
      | inl same ↦ subst (λ (x : ℕ). 1024 ≤ units_of b l x) (sym same) p
      | inr (inl lower) ↦ units-below b l e j (omega arith) lower
      | inr (inr higher) ↦ absurd (omega arith)
    ] in
    record { within = omega arith; fits = units-few b l (e + 1) (omega arith); least = below }

from-top : (l j z : ℕ) → 4096 ≤ l → z + suc j ≡ 64 → 2 ^ j ≤ l → l < 2 ^ suc j
    → (z ≤ 51) × (2 ^ (51 - z + 12) ≤ l) × (l < 2 ^ (51 - z + 13))
from-top l j z h is low high =
    let big : 12 ≤ j = elim (cases_lt j 12) [ inl small ↦ absurd (omega (arith, pow_le (suc j) 12 small)) | inr p ↦ p ] in
    let a : 51 - z + 12 ≡ j = omega arith in
    let b : 51 - z + 13 ≡ suc j = omega arith in
    (omega arith, subst (λ (x : ℕ). 2 ^ x ≤ l) (sym a) low, subst (λ (x : ℕ). l < 2 ^ x) (sym b) high)

-- the exponent at which the code starts, by the leading zeros of the length
pub start_is : (l : ℕ) → 4096 ≤ l → l < 2 ^ 64
    → (count_leading_zeros 64 l ≤ 51) × (2 ^ (51 - count_leading_zeros 64 l + 12) ≤ l) × (l < 2 ^ (51 - count_leading_zeros 64 l + 13))
start_is l h k = let t = leading_top 64 l (omega arith) k in from-top l t.0 (count_leading_zeros 64 l) h t.1 t.2 t.3
