-- The window of an address, and the raw bounds in it, over any unit u.
use Rattle.std.proofs.Common.{◌≡◌, ℕ, ◌+◌, ◌-◌, ◌*◌, ◌/◌, ◌%◌, ◌<◌, ◌≤◌, sym, ap, ◌∙◌, arith, mul-le-mul_right}
use Rattle.std.proofs.Common.{mul-lt-mul_of_pos_right, le-div_iff_mul-le, div-lt_iff_lt-mul, mul_assoc, add-mul}
use Rattle.cap_bounds.proofs.Residues.{mul-mod-mul}

-- which window holds an address whose quotient by an eighth of a window is a, in windows
abbrev pub turn_of : ℕ → ℕ → ℕ
turn_of b a = (a + 1 - b / 2048) / 8

-- where that window starts, in eighths of a window
abbrev pub eighth_of : ℕ → ℕ → ℕ
eighth_of b a = 8 * turn_of b a + b / 2048 - 1

pub eighth-le : (b a : ℕ) → b < 16384 → 8 ≤ a → eighth_of b a ≤ a
eighth-le b a h k = omega arith

pub eighth-gt : (b a : ℕ) → b < 16384 → 8 ≤ a → a < eighth_of b a + 8
eighth-gt b a h k = omega arith

pub eighth-mod : (b a : ℕ) → b < 16384 → 8 ≤ a → eighth_of b a % 8 ≡ (b / 2048 + 7) % 8
eighth-mod b a h k = omega arith

eighth-turn : (b a : ℕ) → b < 16384 → 8 ≤ a → 16384 * turn_of b a + b ≡ 2048 * eighth_of b a + (2048 + b % 2048)
eighth-turn b a h k = omega arith

module _ (u U s b a : ℕ) (pos : 0 < u) (U_is : U ≡ 2048 * u) (s_is : s ≡ 16384 * u) (small : b < 16384) (high : s ≤ a) where
  pos_U : 0 < U
  pos_U = omega arith

  from_eight : 8 ≤ a / U
  from_eight = (le-div_iff_mul-le {k = U} {x = 8} {y = a} pos_U).1 (omega arith)

  pub start_below : eighth_of b (a / U) * U ≤ a
  start_below = (le-div_iff_mul-le {k = U} {x = eighth_of b (a / U)} {y = a} pos_U).0 (eighth-le b (a / U) small from_eight)

  pub end_above : a < eighth_of b (a / U) * U + s
  end_above =
      let h : a < (eighth_of b (a / U) + 8) * U = (div-lt_iff_lt-mul {k = U} {x = a} {y = eighth_of b (a / U) + 8} pos_U).0
      (eighth-gt b (a / U) small from_eight) in
      omega arith

  pub start_aligned : eighth_of b (a / U) * U % s ≡ (b / 2048 + 7) % 8 * 2048 * u
  start_aligned =
      let s_U : s ≡ 8 * U = omega arith in
      ap (λ (x : ℕ). eighth_of b (a / U) * U % x) s_U ∙ mul-mod-mul (eighth_of b (a / U)) U 8 (omega arith) pos_U
      ∙ ap (λ (x : ℕ). x * U) (eighth-mod b (a / U) small from_eight)
      ∙ ap (λ (x : ℕ). (b / 2048 + 7) % 8 * x) U_is ∙ sym (mul_assoc ((b / 2048 + 7) % 8) 2048 u)

  pub raw_from_start : (16384 * turn_of b (a / U) + b) * u ≡ eighth_of b (a / U) * U + (2048 + b % 2048) * u
  raw_from_start =
      ap (λ (x : ℕ). x * u) (eighth-turn b (a / U) small from_eight) ∙ add-mul (2048 * eighth_of b (a / U)) (2048 + b % 2048) u
      ∙ (let e : 2048 * eighth_of b (a / U) * u + (2048 + b % 2048) * u
      ≡ eighth_of b (a / U) * (2048 * u) + (2048 + b % 2048) * u = omega arith in e)
      ∙ ap (λ (x : ℕ). eighth_of b (a / U) * x + (2048 + b % 2048) * u) (sym U_is)

  pub raw_residue : (v : ℕ) → (16384 * turn_of b (a / U) + v) * u % s ≡ v * u % s
  raw_residue v =
      let e : (16384 * turn_of b (a / U) + v) % 16384 ≡ v % 16384 = omega arith in
      ap (λ (x : ℕ). (16384 * turn_of b (a / U) + v) * u % x) s_is ∙ mul-mod-mul (16384 * turn_of b (a / U) + v) u 16384 (omega arith) pos
      ∙ ap (λ (x : ℕ). x * u) e
      ∙ sym (mul-mod-mul v u 16384 (omega arith) pos) ∙ ap (λ (x : ℕ). v * u % x) (sym s_is)

  pub raw_above : eighth_of b (a / U) * U + 2048 * u ≤ (16384 * turn_of b (a / U) + b) * u
  raw_above =
      let h : 2048 * u ≤ (2048 + b % 2048) * u = mul-le-mul_right u (let k : 2048 ≤ 2048 + b % 2048 = omega arith in k) in
      omega (arith, raw_from_start)

  pub raw_within : (d : ℕ) → d < 8192 → (16384 * turn_of b (a / U) + b) * u + d * u + 4096 * u < eighth_of b (a / U) * U + s
  raw_within d k =
      let f : 2048 + b % 2048 + d + 4096 < 16384 = omega arith in
      let h : (2048 + b % 2048 + d + 4096) * u < 16384 * u = mul-lt-mul_of_pos_right f pos in
      let g : (2048 + b % 2048 + d + 4096) * u ≡ (2048 + b % 2048) * u + d * u + 4096 * u = omega arith in
      omega (arith, raw_from_start)

  pub top_residue : (d : ℕ) → ((16384 * turn_of b (a / U) + b) * u + d * u) % s ≡ (b + d) % 16384 * u % s
  top_residue d =
      let f : (b + d) % 16384 % 16384 ≡ (b + d) % 16384 = omega arith in
      let g : (16384 * turn_of b (a / U) + b) * u + d * u ≡ (16384 * turn_of b (a / U) + (b + d)) * u = omega arith in
      ap (λ (x : ℕ). x % s) g ∙ raw_residue (b + d)
      ∙ ap (λ (x : ℕ). (b + d) * u % x) s_is ∙ mul-mod-mul (b + d) u 16384 (omega arith) pos ∙ ap (λ (x : ℕ). x * u) (sym f)
      ∙ sym (mul-mod-mul ((b + d) % 16384) u 16384 (omega arith) pos) ∙ ap (λ (x : ℕ). (b + d) % 16384 * u % x) (sym s_is)
