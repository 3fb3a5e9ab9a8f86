-- Numbers rounded down and up to a unit v, and how many units a request covers.
use Rattle.std.proofs.Common.{◌≡◌, ℕ, suc, ◌+◌, ◌-◌, ◌*◌, ◌/◌, ◌%◌, ◌<◌, ◌≤◌, sym, ap, ◌∙◌, arith, div-mul-le_self}
use Rattle.std.proofs.Common.{div-lt_iff_lt-mul, lt_of_mul-lt-mul_right, le_of_mul-le-mul_right, mul-le-mul_right}
use Rattle.std.proofs.Math.Nat.{lt-div-mul-add, add-mul-div_right, div-add-mod, mod-eq-sub-div-mul, mul-mod_left}
use Rattle.std.proofs.Math.Nat.{mul-add-mod_self_right}
use Rattle.cap_bounds.specs.Rounding.{div_up}

pub div_up-ge : (n v : ℕ) → 0 < v → n ≤ div_up n v * v
div_up-ge n v pos = let h : n + v - 1 < (n + v - 1) / v * v + v = lt-div-mul-add pos in omega arith

pub div_up-lt : (n v : ℕ) → 0 < v → div_up n v * v < n + v
div_up-lt n v pos = let h : (n + v - 1) / v * v ≤ n + v - 1 = div-mul-le_self (n + v - 1) v in omega arith

-- the quotient rounded up is the least number of units that is enough
pub div_up-le : (n v k : ℕ) → 0 < v → n ≤ k * v → div_up n v ≤ k
div_up-le n v k pos h =
    let e : n + v - 1 < suc k * v = omega arith in
    let f : (n + v - 1) / v < suc k = (div-lt_iff_lt-mul {k = v} {x = n + v - 1} {y = suc k} pos).1 e in
    omega arith

pub down-le : (n v : ℕ) → n / v * v ≤ n
down-le n v = div-mul-le_self n v

pub down-gt : (n v : ℕ) → 0 < v → n < n / v * v + v
down-gt n v pos = lt-div-mul-add pos

-- rounding up loses nothing that rounding down has
pub down-le-up : (b l v : ℕ) → 0 < v → b / v ≤ div_up (b + l) v
down-le-up b l v pos =
    let f : b / v * v < suc (div_up (b + l) v) * v = omega (arith, down-le b v, div_up-ge (b + l) v pos) in
    let g : b / v < suc (div_up (b + l) v) = lt_of_mul-lt-mul_right v f in
    omega arith

-- a request and the units that it covers
module _ (b l v : ℕ) (pos : 0 < v) where
  pub covered-ge : l ≤ (div_up (b + l) v - b / v) * v
  covered-ge =
      let e : (b / v + (div_up (b + l) v - b / v)) * v
      ≡ div_up (b + l) v * v = ap (λ (x : ℕ). x * v) (omega (arith, down-le-up b l v pos)) in
      omega (arith, down-le b v, div_up-ge (b + l) v pos)

  pub covered-lt : (div_up (b + l) v - b / v) * v < l + 2 * v
  covered-lt =
      let e : (b / v + (div_up (b + l) v - b / v)) * v
      ≡ div_up (b + l) v * v = ap (λ (x : ℕ). x * v) (omega (arith, down-le-up b l v pos)) in
      omega (arith, down-gt b v pos, div_up-lt (b + l) v pos)

  pub many : (n : ℕ) → n * v ≤ l → n ≤ div_up (b + l) v - b / v
  many n h = le_of_mul-le-mul_right {m = n} {n = div_up (b + l) v - b / v} {k = v} (omega (arith, covered-ge)) pos

  pub few : (n : ℕ) → l + 2 * v ≤ n * v → div_up (b + l) v - b / v < n
  few n h = lt_of_mul-lt-mul_right v {m = div_up (b + l) v - b / v} {n = n} (omega (arith, covered-lt))

-- the top of some addresses rounded up is the unit behind that of the last of them
pub div_up-last : (b l v : ℕ) → 0 < v → 0 < l → div_up (b + l) v ≡ (b + (l - 1)) / v + 1
div_up-last b l v pos some =
    ap (λ (x : ℕ). x / v) (let f : b + l + v - 1 ≡ b + (l - 1) + 1 * v = omega arith in f) ∙ add-mul-div_right (b + (l - 1)) 1 pos

-- the unit of an address is not behind that of a higher one
pub down-le-down : (n m v : ℕ) → 0 < v → n ≤ m → n / v ≤ m / v
down-le-down n m v pos h =
    let f : n / v * v < suc (m / v) * v = omega (arith, down-le n v, down-gt m v pos) in
    let g : n / v < suc (m / v) = lt_of_mul-lt-mul_right v f in
    omega arith

-- multiples of a unit, which rounding keeps
pub down-whole : (n v : ℕ) → n % v ≡ 0 → n / v * v ≡ n
down-whole n v h = omega (arith, div-add-mod n v, h)

pub whole-down : (n v : ℕ) → n / v * v ≡ n → n % v ≡ 0
whole-down n v h = omega (arith, mod-eq-sub-div-mul n v, h)

pub up-whole : (n v : ℕ) → 0 < v → n % v ≡ 0 → div_up n v * v ≡ n
up-whole n v pos h =
    let whole : n / v * v ≡ n = down-whole n v h in
    let few : div_up n v ≤ n / v = div_up-le n v (n / v) pos (omega (arith, whole)) in
    let most : div_up n v * v ≤ n / v * v = mul-le-mul_right v few in
    omega (arith, whole, most, div_up-ge n v pos)

pub whole-up : (n v : ℕ) → div_up n v * v ≡ n → n % v ≡ 0
whole-up n v h = ap (λ (x : ℕ). x % v) (sym h) ∙ mul-mod_left (div_up n v) v

-- behind a multiple of a unit
pub behind-whole : (b l v : ℕ) → b % v ≡ 0 → (b + l) % v ≡ l % v
behind-whole b l v h = ap (λ (x : ℕ). (x + l) % v) (sym (down-whole b v h)) ∙ mul-add-mod_self_right (b / v) v l
