-- Whether a word's representable range is the address space.
use Rattle.std.proofs.Common.{◌≡◌, ℕ, ◌+◌, ◌%◌, ◌^◌, ◌≤◌, inl, inr, nat_le, sym, ap, ◌∙◌, arith}
use Rattle.std.proofs.lemmas.Bool.{cond-true, cond-false, Decides.leb_tells}
use Rattle.cap_bounds.specs.{Bounds.{cut_exponent_of, window_size}, Range.window_start}
use Rattle.cap_report.specs.Says.{range_end, range_start}

pub open_range : (w : ℕ) → 50 ≤ cut_exponent_of w → (0 ≡ range_start w) × (2 ^ 64 ≡ range_end w)
open_range w wide = elim (leb_tells 50 (cut_exponent_of w)) [
  | inl is ↦ (
    sym (cond-true (nat_le 50 (cut_exponent_of w)) 0 (window_start w % 2 ^ 64) is.0),
    sym (cond-true (nat_le 50 (cut_exponent_of w)) (2 ^ 64) (window_start w % 2 ^ 64 + window_size w) is.0),
  )
  | inr less ↦ absurd (omega (arith, less.1, wide))
]

pub closed_range : (w start size : ℕ) → (50 ≤ cut_exponent_of w → ⊥) → start ≡ window_start w % 2 ^ 64 → size ≡ window_size w
    → (start ≡ range_start w) × (start + size ≡ range_end w)
closed_range w start size narrow start_is size_is = elim (leb_tells 50 (cut_exponent_of w)) [
  | inl is ↦ absurd (narrow is.1)
  | inr less ↦ (
    start_is ∙ sym (cond-false (nat_le 50 (cut_exponent_of w)) 0 (window_start w % 2 ^ 64) less.0),
    ap (λ (s : ℕ). s + size) start_is ∙ ap (λ (s : ℕ). window_start w % 2 ^ 64 + s) size_is
        ∙ sym (cond-false (nat_le 50 (cut_exponent_of w)) (2 ^ 64) (window_start w % 2 ^ 64 + window_size w) less.0),
  )
]
