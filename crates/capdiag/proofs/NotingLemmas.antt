-- The first bytes of what a writer took.
use Rattle.std.proofs.Common.{◌≡◌, ◌≤◌, ◌+◌, ◌-◌, ◌++◌, ℕ, List, inl, inr, length, min, take, take_all, sym, ap, subst, ◌∙◌, arith, length-take}
use Rattle.std.proofs.Math.Seq.{take-append-add}
use Rattle.std.proofs.lemmas.{Bool.cases_lt, List.length-append}
use borrow.Rule.Slice.PartMut.{put_mid}
use Rattle.capdiag.proofs.FrontLemmas.{front_more}

-- more bytes after some, as far as there is room for 96
first_of : (kept bytes : List ℕ) (n : ℕ) → length kept ≤ 96 → n ≡ min (length bytes) (96 - length kept)
    → kept ++ take n bytes ≡ take 96 (kept ++ bytes)
first_of kept bytes n inside few = elim (cases_lt (length bytes) (96 - length kept)) [
  | inl less ↦
      ap (λ (t : List ℕ). kept ++ t) (take_all n bytes (omega (arith, few)))
      ∙ sym (take_all 96 (kept ++ bytes) (omega (arith, length-append kept bytes)))
  | inr more ↦
      let whole : length kept + n ≡ 96 = omega (arith, few) in
      sym (subst (λ (m : ℕ). take m (kept ++ bytes) ≡ kept ++ take n bytes) whole (take-append-add kept bytes n))
]

pub kept_front : (a k n : ℕ) (front bytes new : List ℕ) → length front ≡ 96 → a ≤ 96 → n ≡ min (length bytes) (96 - a) → new ≡ take n bytes
    → take (a + n) (put_mid a k front new) ≡ take 96 (take a front ++ bytes)
kept_front a k n front bytes new long inside few is =
    let fits : length new ≡ n = ap (λ (t : List ℕ). length t) is ∙ length-take n bytes ∙ omega (arith, few) in
    let held : length (take a front) ≡ a = length-take a front ∙ omega (arith, long) in
    front_more a k n front new (omega (arith, long)) (omega (arith, fits))
    ∙ ap (λ (t : List ℕ). take a front ++ t) (take_all n new (omega (arith, fits)) ∙ is)
    ∙ first_of (take a front) bytes n (omega (arith, held)) (few ∙ ap (λ (m : ℕ). min (length bytes) (96 - m)) (sym held))
