-- Where the runs of a number end, and what one more does to them.
use Rattle.std.specs.Int.{bit_at}
use Rattle.std.proofs.Common.{◌≡◌, ℕ, zero, suc, ◌+◌, ◌-◌, ◌*◌, ◌/◌, ◌%◌, ◌^◌, ◌<◌, ◌≤◌, sym, ap, ◌∙◌, arith, mod-lt}
use Rattle.std.proofs.Common.{div-add-mod', div-mul-le_self, mul-le-mul_right, pow-add, pow_pos}
use Rattle.std.proofs.Math.Nat.{div-div-eq-div-mul, div-eq_of_lt, div-eq_of_lt-le}
use Rattle.tagmem_lent.specs.Lent.{run_end}

-- a number without its lowest bits
abbrev bit_end : ℕ → ℕ → ℕ
bit_end n bit = n / 2 ^ bit * 2 ^ bit

-- a shift by one more halves
halved : (n bit : ℕ) → n / 2 ^ suc bit ≡ n / 2 ^ bit / 2
halved n bit = sym (div-div-eq-div-mul n (2 ^ bit) 2 ∙ ap (λ (d : ℕ). n / d) (omega arith))

-- it is no greater, and the greater the fewer they are
bit_end-le : (n bit : ℕ) → bit_end n bit ≤ n
bit_end-le n bit = div-mul-le_self n (2 ^ bit)

bit_end-zero : (n : ℕ) → bit_end n 0 ≡ n
bit_end-zero n = omega arith

-- nothing is left of a number that is too small
bit_end-past : (n bit : ℕ) → n < 2 ^ bit → bit_end n bit ≡ 0
bit_end-past n bit past =
    let none : 0 * 2 ^ bit ≡ 0 = omega arith in
    ap (λ (q : ℕ). q * 2 ^ bit) (div-eq_of_lt {n = n} {m = 2 ^ bit} past) ∙ none

twice : (q bit : ℕ) → q * 2 ^ suc bit ≡ q * 2 * 2 ^ bit
twice q bit =
    let doubled : 2 ^ suc bit ≡ 2 ^ bit * 2 = omega arith in
    let power = 2 ^ bit in
    let moved : q * (power * 2) ≡ q * 2 * power = omega arith in
    ap (λ (d : ℕ). q * d) doubled ∙ moved

bit_end-halved : (n bit : ℕ) → bit_end n (suc bit) ≡ n / 2 ^ bit / 2 * 2 * 2 ^ bit
bit_end-halved n bit = ap (λ (q : ℕ). q * 2 ^ suc bit) (halved n bit) ∙ twice (n / 2 ^ bit / 2) bit

bit_end-far : (n bit more : ℕ) → bit_end n (bit + more) ≤ bit_end n bit
bit_end-far n bit more =
    let low = 2 ^ bit in
    let high = 2 ^ more in
    let quotient = n / low / high in
    let is : bit_end n (bit + more) ≡ quotient * (low * high) =
    ap (λ (d : ℕ). n / d * d) (pow-add 2 bit more) ∙ ap (λ (q : ℕ). q * (low * high)) (sym (div-div-eq-div-mul n low high)) in
    let moved : quotient * (low * high) ≡ quotient * high * low = omega arith in
    omega (arith, is, moved, mul-le-mul_right low (div-mul-le_self (n / low) high))

-- a bit that isn't set leaves the number
bit_end-unset : (n bit : ℕ) → n / 2 ^ bit % 2 ≡ 0 → bit_end n (suc bit) ≡ bit_end n bit
bit_end-unset n bit unset =
    let even : n / 2 ^ bit / 2 * 2 ≡ n / 2 ^ bit = omega (arith, unset) in
    bit_end-halved n bit ∙ ap (λ (q : ℕ). q * 2 ^ bit) even

-- a number whose lowest bit that is set is a given one
module _ (n lowest : ℕ) (unset : (bit : ℕ) → bit < lowest → bit_at n bit ≡ 0) (set : bit_at n lowest ≡ 1) where
  bit_end-low : (bit : ℕ) → bit ≤ lowest → bit_end n bit ≡ n
  bit_end-low zero le = bit_end-zero n
  bit_end-low (suc bit) le = bit_end-unset n bit (unset bit (omega arith)) ∙ bit_end-low bit (omega arith)

  bit_end-next : bit_end n (suc lowest) < n
  bit_end-next =
      let power = 2 ^ lowest in
      let half = n / power / 2 in
      let some : 0 < power = pow_pos lowest in
      let odd : n / power ≡ half * 2 + 1 = omega (arith, set) in
      let all : (half * 2 + 1) * power ≡ n = ap (λ (q : ℕ). q * power) (sym odd) ∙ bit_end-low lowest (omega arith) in
      omega (arith, all, some, bit_end-halved n lowest)

  -- has its lowest digit there
  pub run_end-lowest : (run_end n (lowest / 4) ≡ n) × (run_end n (lowest / 4 + 1) < n)
  run_end-lowest =
      let level = lowest / 4 in
      let is : suc lowest + (4 * (level + 1) - suc lowest) ≡ 4 * (level + 1) = omega arith in (
        bit_end-low (4 * level) (omega arith),
        omega (arith, bit_end-next, bit_end-far n (suc lowest) (4 * (level + 1) - suc lowest), ap (bit_end n) is),
      )

-- no run ends behind the number, and they end later the lower their digit is
pub run_end-le : (n level : ℕ) → run_end n level ≤ n
run_end-le n level = bit_end-le n (4 * level)

pub run_end-zero : (n : ℕ) → run_end n 0 ≡ n
run_end-zero n = bit_end-zero n

pub run_end-past : (n level : ℕ) → n < 2 ^ (4 * level) → run_end n level ≡ 0
run_end-past n level past = bit_end-past n (4 * level) past

pub run_end-far : (n level more : ℕ) → run_end n (level + more) ≤ run_end n level
run_end-far n level more =
    let is : run_end n (level + more) ≡ bit_end n (4 * level + 4 * more) = ap (bit_end n) (omega arith) in
    omega (arith, is, bit_end-far n (4 * level) (4 * more))

pub run_end-rises : (n level : ℕ) → run_end n (level + 1) ≤ run_end n level
run_end-rises n level = run_end-far n level 1

-- where the run of a digit ends behind all, those of lower ones do
pub run_end-last : (n level lower : ℕ) → lower ≤ level → run_end n level ≡ n → run_end n lower ≡ n
run_end-last n level lower le last =
    let is : run_end n (lower + (level - lower)) ≡ run_end n level = ap (run_end n) (omega arith) in
    omega (arith, is, last, run_end-le n lower, run_end-far n lower (level - lower))

-- and one that doesn't end behind one more ends where it did
pub run_end-stays : (n level : ℕ) → run_end (n + 1) level < n + 1 → run_end (n + 1) level ≡ run_end n level
run_end-stays n level lt =
    let power = 2 ^ (4 * level) in
    let quotient = (n + 1) / power in
    let some : 0 < power = pow_pos (4 * level) in
    let before : quotient * power ≤ n = omega arith in
    let left : (n + 1) % power < power = mod-lt (n + 1) some in
    let behind : n < (quotient + 1) * power = omega (arith, div-add-mod' (n + 1) power, left) in
    ap (λ (q : ℕ). q * power) (sym (div-eq_of_lt-le power before behind))
