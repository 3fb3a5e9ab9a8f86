-- The powers of two that the bounds of a word are made of, for an exponent e of 0 .. 52.
use Rattle.std.proofs.Common.{◌≡◌, ℕ, ◌+◌, ◌-◌, ◌*◌, ◌^◌, ◌<◌, ◌≤◌, ap, ◌∙◌, arith, mul-le-mul_left, pow-add}
use Rattle.std.proofs.Math.Nat.{pow-le-pow_right}

-- a power by a sum of exponents
pub pow_split : (n i j : ℕ) → n ≡ i + j → 2 ^ n ≡ 2 ^ i * 2 ^ j
pow_split n i j h = ap (λ (x : ℕ). 2 ^ x) h ∙ pow-add 2 i j

pub pow_le : (i j : ℕ) → i ≤ j → 2 ^ i ≤ 2 ^ j
pow_le i j h = pow-le-pow_right (let p : 0 < 2 = omega arith in p) h

pub eighth_is : (e : ℕ) → 2 ^ (e + 11) ≡ 2048 * 2 ^ e
eighth_is e = pow_split (e + 11) 11 e (omega arith)

pub size_is : (e : ℕ) → 2 ^ (e + 14) ≡ 16384 * 2 ^ e
size_is e = pow_split (e + 14) 14 e (omega arith)

pub grain_is : (e : ℕ) → 2 ^ (e + 3) ≡ 8 * 2 ^ e
grain_is e = pow_split (e + 3) 3 e (omega arith)

pub size-le : (e : ℕ) → e ≤ 52 → 2 ^ (e + 14) ≤ 2 ^ 66
size-le e h = pow_le (e + 14) 66 (omega arith)

-- up to exponent 50, windows divide 2 ^ 64
pub size_divides : (e : ℕ) → e ≤ 50 → 2 ^ 64 ≡ 2 ^ (50 - e) * 2 ^ (e + 14)
size_divides e h = pow_split 64 (50 - e) (e + 14) (omega arith)

-- from exponent 51 on, 2 ^ 65 divides windows
pub size_covers : (e : ℕ) → 51 ≤ e → 2 ^ (e + 14) ≡ 2 ^ (e - 51) * 2 ^ 65
size_covers e h = pow_split (e + 14) (e - 51) 65 (omega arith)

-- up to exponent 50, a length is below 2 ^ 63
pub length-lt : (e d : ℕ) → e ≤ 50 → d < 8192 → d * 2 ^ e < 2 ^ 63
length-lt e d h k =
    let unit : 2 ^ e ≤ 2 ^ 50 = pow_le e 50 h in
    let f : d * 2 ^ e ≤ d * 2 ^ 50 = mul-le-mul_left d unit in
    omega arith
