-- Quotients, remainders and numbers of an interval that are congruent to a value.
use Rattle.std.proofs.Common.{◌≡◌, ℕ, suc, ◌+◌, ◌*◌, ◌/◌, ◌%◌, ◌<◌, ◌≤◌, sym, ap, ◌∙◌, inl, inr, arith, mul-le-mul_left}
use Rattle.std.proofs.{Common.add-zero, Math.{Arith.mod-mul, Nat.div-add-mod}, lemmas.Bool.cases_order}
use Rattle.std.proofs.lemmas.Nat.{div-mul-add, mod-mul-add}
use Rattle.cap_bounds.specs.Bounds.{IsResidue}

-- two numbers of z .. z + s - 1 that are congruent modulo s are one
pub same_residue : (s x y z : ℕ) → x % s ≡ y % s → z ≤ x → x < z + s → z ≤ y → y < z + s → x ≡ y
same_residue s x y z e zx xs zy ys =
    let dx : s * (x / s) + x % s ≡ x = div-add-mod x s in
    let dy : s * (y / s) + y % s ≡ y = div-add-mod y s in
    elim (cases_order (x / s) (y / s)) [
      | inl q ↦ let f : s * (x / s) ≡ s * (y / s) = ap (λ (k : ℕ). s * k) q in omega arith
      | inr (inl h) ↦ let f : s * suc (x / s) ≤ s * (y / s) = mul-le-mul_left s h in absurd (omega arith)
      | inr (inr h) ↦ let f : s * suc (y / s) ≤ s * (x / s) = mul-le-mul_left s h in absurd (omega arith)
    ]

pub IsResidue-unique : (low size value x y : ℕ) → IsResidue low size value x → IsResidue low size value y → x ≡ y
IsResidue-unique low size value x y p q = same_residue size x y low (p.congruent ∙ sym q.congruent) p.from p.below q.from q.below

-- a multiple and a rest below the factor, modulo a multiple of the factor
pub mul-add-mod-mul : (k s m r : ℕ) → 0 < m → r < s → (k * s + r) % (m * s) ≡ k % m * s + r
mul-add-mod-mul k s m r pos h =
    let e : (k * s + r) % (m * s) ≡ (k * s + r) / s % m * s + (k * s + r) % s = mod-mul (k * s + r) pos (omega arith) in
    e ∙ ap (λ (x : ℕ). x % m * s + (k * s + r) % s) (div-mul-add k s r h) ∙ ap (λ (x : ℕ). k % m * s + x) (mod-mul-add k s r h)

-- a multiple, modulo a multiple of the factor
pub mul-mod-mul : (k s m : ℕ) → 0 < m → 0 < s → k * s % (m * s) ≡ k % m * s
mul-mod-mul k s m pos h = ap (λ (x : ℕ). x % (m * s)) (sym (add-zero (k * s))) ∙ mul-add-mod-mul k s m 0 pos h ∙ add-zero (k % m * s)
