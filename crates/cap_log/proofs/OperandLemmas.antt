-- Parts of a line: each value has one spelling of few bytes, and two parts with a space between are one.
use Rattle.std.proofs.Common.{◌≡◌, ◌≢◌, ℕ, ◌+◌, ◌≤◌, List, ◌∷◌, length, sym, ap, ◌∙◌, arith, length-append}
use Rattle.std.proofs.lemmas.List.Elements.{All-append, All-cons}
use Rattle.cap_streams.specs.Front.{HasNoFeed}
use Rattle.cap_log.specs.Parts.{HasNoSpace, FitBoth, spaced}
use Rattle.cap_log.proofs.Cuts.{same_cut}

-- no spelling has a space
abbrev pub Spaceless : {A : Type 0} → (A → Type 0) → (A → List ℕ) → Type 0
Spaceless {A} Fits spelled = (a : A) → Fits a → HasNoSpace (spelled a)

-- a kind of part: no two values share a spelling, which has no line feed and at most so many bytes
pub record IsOperand {A : Type 0} (Fits : A → Type 0) (spelled : A → List ℕ) (most : ℕ) : Type 0 where
  pub one : (a b : A) → Fits a → Fits b → spelled a ≡ spelled b → a ≡ b
  pub plain : (a : A) → Fits a → HasNoFeed (spelled a)
  pub short : (a : A) → Fits a → length (spelled a) ≤ most

-- the same of a type that has one value for each
pub mapped : {A B : Type 0} (Fits : A → Type 0) (spelled : A → List ℕ) (most : ℕ) → IsOperand Fits spelled most
    → (un : B → A) (make : A → B) → ((b : B) → make (un b) ≡ b) → IsOperand (λ b. Fits (un b)) (λ b. spelled (un b)) most
mapped Fits spelled most operand un make back = record {
  one = λ a b fits fits' e. sym (back a) ∙ ap make (operand.one (un a) (un b) fits fits' e) ∙ back b;
  plain = λ b fits. operand.plain (un b) fits;
  short = λ b fits. operand.short (un b) fits;
}

-- two parts with a space between them, of which the first is one word
pub FitBoth-operand : {A B : Type 0} (P : A → Type 0) (f : A → List ℕ) (m : ℕ) (Q : B → Type 0) (g : B → List ℕ) (n : ℕ)
    → Spaceless P f → IsOperand P f m → IsOperand Q g n → IsOperand (FitBoth P Q) (spaced f g) (m + 1 + n)
FitBoth-operand P f m Q g n spaceless first second = record {
  one = λ a b fits fits' e.
      let parts = same_cut 32 (f a.0) (f b.0) (g a.1) (g b.1) (spaceless a.0 fits.0) (spaceless b.0 fits'.0) e in
      let one = first.one a.0 b.0 fits.0 fits'.0 parts.0 in
      let other = second.one a.1 b.1 fits.1 fits'.1 parts.1 in
      ap (λ x. (x, a.1)) one ∙ ap (λ y. (b.0, y)) other;
  plain = λ a fits. All-append (λ b. b ≢ 10) (f a.0) (32 ∷ g a.1) (first.plain a.0 fits.0)
      (All-cons (λ b. b ≢ 10) 32 (g a.1) (omega arith) (second.plain a.1 fits.1));
  short = λ a fits.
      let long = length-append (f a.0) (32 ∷ g a.1) in
      let one = first.short a.0 fits.0 in
      let other = second.short a.1 fits.1 in
      omega arith;
}
