-- Lines of one number after another, and the texts that a sink took of them.
use Rattle.std.proofs.Common.{◌≡◌, ℕ, zero, suc, ◌+◌, ◌-◌, ◌≤◌, ◌<◌, List, [], ◌∷◌, ◌++◌, take}
use Rattle.std.proofs.Common.{refl, sym, ap, subst, ◌∙◌, append-nil, append_assoc, arith}
use Rattle.cap_judge.proofs.OriginLemmas.{began}
use Rattle.cap_run_judge.specs.OwnerLists.{lines_from}

lines-zero : (line : ℕ → List ℕ) (from : ℕ) → lines_from line from 0 ≡ []
unfolding lines_from
lines-zero line from = refl

lines-suc : (line : ℕ → List ℕ) (from count : ℕ) → lines_from line from (suc count) ≡ line from ++ lines_from line (from + 1) count
unfolding lines_from
lines-suc line from count = refl

-- the lines of so many numbers, and of so many more
lines-split : (line : ℕ → List ℕ) (from a b : ℕ) → lines_from line from (a + b) ≡ lines_from line from a ++ lines_from line (from + a) b
lines-split line from zero b =
    let none : 0 + b ≡ b = omega arith in
    let here : from ≡ from + 0 = omega arith in
    ap (lines_from line from) none ∙ ap (λ (k : ℕ). lines_from line k b) here
    ∙ sym (ap (λ (l : List ℕ). l ++ lines_from line (from + 0) b) (lines-zero line from))
lines-split line from (suc a) b =
    let sum : suc a + b ≡ suc (a + b) = omega arith in
    let after : (from + 1) + a ≡ from + suc a = omega arith in
    ap (lines_from line from) sum ∙ lines-suc line from (a + b)
    ∙ ap (λ (l : List ℕ). line from ++ l) (lines-split line (from + 1) a b)
    ∙ sym (append_assoc (line from) (lines_from line (from + 1) a) (lines_from line ((from + 1) + a) b))
    ∙ ap (λ (l : List ℕ). l ++ lines_from line ((from + 1) + a) b) (sym (lines-suc line from a))
    ∙ ap (λ (k : ℕ). lines_from line from (suc a) ++ lines_from line k b) after

-- no lines yet
pub no_lines : (line : ℕ → List ℕ) (from : ℕ) → [] ≡ lines_from line from 0
no_lines line from = sym (lines-zero line from)

lines-none : (line : ℕ → List ℕ) (from count : ℕ) → ((k : ℕ) → from ≤ k → k < from + count → line k ≡ []) → lines_from line from count ≡ []
lines-none line from zero none = lines-zero line from
lines-none line from (suc count) none =
    lines-suc line from count
    ∙ ap (λ (l : List ℕ). l ++ lines_from line (from + 1) count) (none from (omega arith) (omega arith))
    ∙ lines-none line (from + 1) count (λ k least less. none k (omega (arith, least)) (omega (arith, less)))

-- numbers without a line add none
pub skip_lines : (line : ℕ → List ℕ) (from a b : ℕ) → a ≤ b → ((k : ℕ) → from + a ≤ k → k < from + b → line k ≡ [])
    → lines_from line from a ≡ lines_from line from b
skip_lines line from a b least none =
    let sum : b ≡ a + (b - a) = omega (arith, least) in
    sym
    (ap (lines_from line from) sum ∙ lines-split line from a (b - a)
    ∙ ap (λ (l : List ℕ). lines_from line from a ++ l) (lines-none line (from + a) (b - a) (λ k more less. none k more (omega (arith, less, least))))
    ∙ append-nil (lines_from line from a))

lines-one : (line : ℕ → List ℕ) (from : ℕ) → lines_from line from 1 ≡ line from
lines-one line from =
    lines-suc line from 0 ∙ ap (λ (l : List ℕ). line from ++ l) (lines-zero line (from + 1)) ∙ append-nil (line from)

-- one line more
pub one_more : (line : ℕ → List ℕ) (from done at next : ℕ) → at ≡ from + done → next ≡ done + 1
    → lines_from line from done ++ line at ≡ lines_from line from next
one_more line from done at next here more =
    ap (λ (k : ℕ). lines_from line from done ++ line k) here
    ∙ ap (λ (l : List ℕ). lines_from line from done ++ l) (sym (lines-one line (from + done)))
    ∙ sym (ap (lines_from line from) more ∙ lines-split line from done 1)

-- a beginning of one line after those before it
pub stopped : (line : ℕ → List ℕ) (from done at count n : ℕ) → at ≡ from + done → done < count
    → (m : ℕ) × (lines_from line from done ++ take n (line at) ≡ take m (lines_from line from count))
stopped line from done at count n here less =
    let rest = count - done - 1 in
    let sum : count ≡ done + (1 + rest) = omega (arith, less) in
    let m = began n (lines_from line from done) (lines_from line (from + done) 1) (lines_from line ((from + done) + 1) rest) in (
      m.0,
      ap (λ (k : ℕ). lines_from line from done ++ take n (line k)) here
          ∙ ap (λ (l : List ℕ). lines_from line from done ++ take n l) (sym (lines-one line (from + done)))
          ∙ sym
          (ap (take m.0)
          (ap (lines_from line from) sum ∙ lines-split line from done (1 + rest)
          ∙ ap (λ (l : List ℕ). lines_from line from done ++ l) (lines-split line (from + done) 1 rest))
          ∙ m.1),
    )
