-- What the search for an exponent finds is the rounding of the request.
use Rattle.std.proofs.Common.{◌≡◌, ℕ, ◌+◌, ◌*◌, ◌/◌, ◌%◌, ◌^◌, ◌<◌, ◌≤◌, sym, ap, ◌∙◌, refl, arith}
use Rattle.cap_bounds.specs.Rounding.{div_up, IsLeastExponent, rounded_base, rounded_top, rounded_b, rounded_t}
use Rattle.cap_bounds.proofs.{Powers.pow_le, Roundings.{rounded_base_is, rounded_top_is, rounded_top-le, long_request}}

pub unit-lt : (e : ℕ) → e ≤ 52 → 1 * 2 ^ (e + 3) % 2 ^ 128 < 2 ^ 56
unit-lt e h = let p : 2 ^ (e + 3) ≤ 2 ^ 55 = pow_le (e + 3) 55 (omega arith) in omega arith

module _ (b l e unit base top up : ℕ) (long : 4096 ≤ l) (b_fits : b < 2 ^ 64) (l_fits : l < 2 ^ 64) (least : IsLeastExponent b l e)
    (unit_is : unit ≡ 2 ^ (e + 3)) (base_is : base ≡ b) (top_is : top ≡ b + l) (up_is : up ≡ div_up top unit) where
  down : base / unit ≡ b / 2 ^ (e + 3)
  down = ap (λ (x : ℕ). x / unit) base_is ∙ ap (λ (x : ℕ). b / x) unit_is

  above : up ≡ div_up (b + l) (2 ^ (e + 3))
  above = up_is ∙ ap (λ (x : ℕ). div_up x unit) top_is ∙ ap (λ (x : ℕ). div_up (b + l) x) unit_is

  pub base_found : base / unit * unit ≡ rounded_base b l
  base_found = ap (λ (x : ℕ). x * unit) down ∙ ap (λ (x : ℕ). b / 2 ^ (e + 3) * x) unit_is ∙ sym (rounded_base_is b l e long l_fits least)

  pub top_found : up * unit ≡ rounded_top b l
  top_found = ap (λ (x : ℕ). x * unit) above ∙ ap (λ (x : ℕ). div_up (b + l) (2 ^ (e + 3)) * x) unit_is
      ∙ sym (rounded_top_is b l e long l_fits least)

  pub top_found-le : up * unit ≤ 2 ^ 65
  top_found-le = omega (arith, top_found, rounded_top-le b l 65 l_fits (omega arith) (omega arith))

  pub b_found : 8 * (base / unit) % 2 ^ 14 ≡ rounded_b b l
  b_found = ap (λ (x : ℕ). 8 * x % 2 ^ 14) down
      ∙ (long_request b l e (b / 2 ^ (e + 3)) (div_up (b + l) (2 ^ (e + 3))) long b_fits l_fits least refl refl).b_is

  pub t_found : 8 * up % 2 ^ 14 ≡ rounded_t b l
  t_found = ap (λ (x : ℕ). 8 * x % 2 ^ 14) above
      ∙ (long_request b l e (b / 2 ^ (e + 3)) (div_up (b + l) (2 ^ (e + 3))) long b_fits l_fits least refl refl).t_is
