-- The numbered lines of some bytes, one after another.
use Rattle.std.proofs.Common.{◌≡◌, ◌≢◌, ℕ, ◌+◌, List, [], ◌∷◌, ◌++◌, fold, sym, ap, ◌∙◌, append_assoc, append-nil}
use Rattle.cap_json.specs.Words.{lines_of, past, upto}
use Rattle.cap_json.proofs.WordLemmas.{first_line}
use Rattle.cap_context.specs.Contexts.{Entry, before_lines, before_text, numbered}

-- where there are no bytes left
entries_none : (at : ℕ) (rest : List ℕ) → rest ≡ [] → numbered at (lines_of rest) ≡ []
unfolding numbered lines_of
entries_none at rest none = ap (λ (r : List ℕ). numbered at (lines_of r)) none

-- what a fold gives then
pub fold_none : {A : Type 0} (step : A → Entry → A) (a : A) (at : ℕ) (rest : List ℕ) → rest ≡ []
    → a ≡ fold step a (numbered at (lines_of rest))
fold_none step a at rest none = ap (fold step a) (sym (entries_none at rest none))

-- and that nothing is to be appended
pub before_none : (count line at : ℕ) (rest items : List ℕ) → rest ≡ []
    → items ≡ items ++ before_lines count line (numbered at (lines_of rest))
before_none count line at rest items none =
    sym (append-nil items) ∙ ap (λ (e : List Entry). items ++ before_lines count line e) (sym (entries_none at rest none))

-- the first line of the bytes that are left, and the others
module _ (at : ℕ) (rest text more : List ℕ) (some : rest ≢ []) (text_is : text ≡ upto 10 rest) (more_is : more ≡ past 10 rest) where
  entries_more : numbered at (lines_of rest) ≡ (at, text) ∷ numbered (at + 1) (lines_of more)
  unfolding numbered
  entries_more =
      ap (numbered at) (first_line rest some)
      ∙ ap (λ (t : List ℕ). (at, t) ∷ numbered (at + 1) (lines_of (past 10 rest))) (sym text_is)
      ∙ ap (λ (m : List ℕ). (at, text) ∷ numbered (at + 1) (lines_of m)) (sym more_is)

  -- what a fold gives from the first line on
  pub fold_more : {A : Type 0} (step : A → Entry → A) (a next : A) → next ≡ step a (at, text)
      → fold step next (numbered (at + 1) (lines_of more)) ≡ fold step a (numbered at (lines_of rest))
  fold_more {A} step a next next_is =
      ap (λ (b : A). fold step b (numbered (at + 1) (lines_of more))) next_is ∙ ap (fold step a) (sym entries_more)

  -- and what was appended for it
  pub before_more : (count line : ℕ) (items appended : List ℕ) → appended ≡ items ++ before_text count line (at, text)
      → appended ++ before_lines count line (numbered (at + 1) (lines_of more)) ≡ items ++ before_lines count line (numbered at (lines_of rest))
  before_more count line items appended is =
      ap (λ (i : List ℕ). i ++ before_lines count line (numbered (at + 1) (lines_of more))) is
      ∙ append_assoc items (before_text count line (at, text)) (before_lines count line (numbered (at + 1) (lines_of more)))
      ∙ ap (λ (e : List Entry). items ++ before_lines count line e) (sym entries_more)
