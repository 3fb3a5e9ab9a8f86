-- Rows of a tally.
use Rattle.std.proofs.Common.{◌≡◌, ◌<◌, ℕ, ◌+◌, List, [], ◌∷◌, ◌++◌, not, cond, nat_lt, length, get_or, set, bytes_eq, Option, Some, None, refl, sym, ap, ◌∙◌}
use Rattle.std.proofs.lemmas.List.{get_or-map, length-map, map-set}
use Rattle.std.specs.List.{position_or_len}
use Rattle.capdiag.specs.declared.tallies.Row.{Row}
use Rattle.capdiag.specs.Tallies.{counted_at, next, next_of, one_more, place_in, place_of, row_of, rows_of}
use Rattle.capdiag.specs.Tallies as tallies

-- the rows before a refusal are as many as the code has
before : (name : List ℕ) (rows : List Row)
    → position_or_len (λ row. bytes_eq row.0 name) (rows_of rows) ≡ position_or_len (λ row. bytes_eq row.name.items name) rows
before name [] = refl
before name (row ∷ rows) = ap (λ (n : ℕ). cond (not (bytes_eq row.name.items name)) (1 + n) 0) (before name rows)

same_place : (name : List ℕ) (rows : List Row) → place_of name (rows_of rows) ≡ place_in name rows
same_place name rows =
    ap (λ (n : ℕ). cond (nat_lt n (length (rows_of rows))) (Some n) None) (before name rows)
    ∙ ap (λ (n : ℕ). cond (nat_lt (position_or_len (λ row. bytes_eq row.name.items name) rows) n)
    (Some (position_or_len (λ row. bytes_eq row.name.items name) rows)) None) (length-map rows row_of)

-- a refusal that has a row, and one that has none
pub counted_in : (name : List ℕ) (rows : List Row) (place : ℕ) (old new : Row) → Some place ≡ place_in name rows → place < length rows
    → old ≡ get_or rows place old → row_of new ≡ next_of (row_of old) → rows_of (set rows place new) ≡ one_more name (rows_of rows)
counted_in name rows place old new is inside old_is new_is =
    map-set row_of rows place new
    ∙ ap (λ (row : tallies.Row). set (rows_of rows) place row)
    (new_is ∙ ap next_of (ap row_of old_is ∙ sym (get_or-map row_of rows place old ([], 0) inside)))
    ∙ sym (ap (λ (found : Option ℕ). counted_at found name (rows_of rows)) (same_place name rows ∙ sym is))

pub counted_new : (name : List ℕ) (rows : List Row) → None ≡ place_in name rows
    → rows_of rows ++ ((name, 1) ∷ []) ≡ one_more name (rows_of rows)
counted_new name rows is =
    sym (ap (λ (found : Option ℕ). counted_at found name (rows_of rows)) (same_place name rows ∙ sym is))
