-- Parts at the front of some bytes, with the byte that ends them.
use Rattle.std.proofs.Common.{◌≡◌, ℕ, ◌+◌, ◌<◌, List, ◌∷◌, ◌++◌, length, take, drop, get_or, sym, ap}
use Rattle.std.proofs.Common.{◌∙◌, arith, append_assoc, length-append, take-append-drop, take_at}
use Rattle.std.proofs.lemmas.List.{drop_more, get_or_at}
use Rattle.cap_log.specs.{Parts.{Begins, BeginsWithNone, FitBoth, HasNoSpace, spaced}}
use Rattle.cap_log.proofs.Cuts.{same_cut}

module _ {A : Type 0} (Fits : A → Type 0) (spelled : A → List ℕ) (end : ℕ) where
  -- where all spellings have so many bytes: no more than these, another byte behind them, or bytes that are none
  pub none_ended : (n : ℕ) → ((a : A) → Fits a → length (spelled a) ≡ n) → (bytes : List ℕ) → (n < length bytes → get_or bytes n 0 ≡ end → ⊥)
      → BeginsWithNone Fits spelled end bytes
  none_ended n long bytes none a rest begins =
      let same = long a begins.0 in
      let whole = ap length begins.1 ∙ length-append (spelled a) (end ∷ rest) in
      none (omega arith) (ap (λ (bs : List ℕ). get_or bs n 0) begins.1 ∙ get_or_at (spelled a) end rest 0 n same)

  pub none_in_front : (n : ℕ) → ((a : A) → Fits a → length (spelled a) ≡ n) → (bytes : List ℕ)
      → ((a : A) → Fits a → take n bytes ≡ spelled a → ⊥) → BeginsWithNone Fits spelled end bytes
  none_in_front n long bytes none a rest begins =
      none a begins.0 (ap (take n) begins.1 ∙ take_at (spelled a) (end ∷ rest) n (long a begins.0))

-- so many bytes, the one behind them and the rest
pub cut_behind : (n end : ℕ) (bytes : List ℕ) → n < length bytes → get_or bytes n 0 ≡ end → bytes ≡ take n bytes ++ end ∷ drop (n + 1) bytes
cut_behind n end bytes before ended = rw (← ended, ← drop_more bytes n 0 before) (sym (take-append-drop n bytes))

-- two parts, of which the first is one word
module _ {A B : Type 0} (P : A → Type 0) (first : A → List ℕ) (Q : B → Type 0) (second : B → List ℕ) (end : ℕ) (bytes : List ℕ) where
  -- their bytes, cut behind the first
  both_cut : (pair : A × B) (rest : List ℕ) → Begins (FitBoth P Q) (spaced first second) end bytes pair rest
      → bytes ≡ first pair.0 ++ 32 ∷ (second pair.1 ++ end ∷ rest)
  both_cut pair rest begins = begins.1 ∙ append_assoc (first pair.0) (32 ∷ second pair.1) (end ∷ rest)

  pub both : (a : A) (b : B) (middle rest : List ℕ) → Begins P first 32 bytes a middle → Begins Q second end middle b rest
      → Begins (FitBoth P Q) (spaced first second) end bytes (a, b) rest
  both a b middle rest x y = (
    (x.0, y.0),
    x.1 ∙ ap (λ (m : List ℕ). first a ++ 32 ∷ m) y.1 ∙ sym (append_assoc (first a) (32 ∷ second b) (end ∷ rest)),
  )

  pub no_first : BeginsWithNone P first 32 bytes → BeginsWithNone (FitBoth P Q) (spaced first second) end bytes
  no_first none pair rest begins = none pair.0 (second pair.1 ++ end ∷ rest) (begins.0.0, both_cut pair rest begins)

  pub no_second : ((a : A) → P a → HasNoSpace (first a)) → (a : A) (middle : List ℕ) → Begins P first 32 bytes a middle
      → BeginsWithNone Q second end middle → BeginsWithNone (FitBoth P Q) (spaced first second) end bytes
  no_second spaceless a middle x none pair rest begins =
      let same = same_cut 32 (first a) (first pair.0) middle (second pair.1 ++ end ∷ rest) (spaceless a x.0) (spaceless pair.0 begins.0.0)
      (sym x.1 ∙ both_cut pair rest begins) in
      none pair.1 rest (begins.0.1, same.1)
