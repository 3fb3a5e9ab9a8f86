-- How many of several files were accepted, and by which refusals the others were rejected. All of it is this profile's own.
use Rattle.std.specs.Prelude.{ℕ, ◌+◌, ◌-◌, ◌^◌, min, nat_lt, if◌then◌else◌, List, [], ◌∷◌, ◌++◌, codes, decimal, get_or, map, flat_map, set}
use Rattle.std.specs.Prelude.{position, bytes_eq, Option, Some, None}
use Rattle.capdiag.specs.declared.tallies.{Row.{Row as OfCode}, Tally.{Tally as TallyOfCode}}

-- a refusal by its name, and how many logs have it
abbrev pub Row : Type 0
Row = List ℕ × ℕ

-- how many files were accepted, rejected, and not opened, and the refusals in the order in which they came
pub record Tally : Type 0 where
  pub accepted : ℕ
  pub rejected : ℕ
  pub unread : ℕ
  pub rows : List Row

-- no file was judged yet
abbrev pub no_files : Tally
no_files = record { accepted = 0; rejected = 0; unread = 0; rows = [] }

-- one more, of which no more are counted than a u64 holds
abbrev pub next : ℕ → ℕ
next count = min (count + 1) (2 ^ 64 - 1)

-- the place of a refusal among rows
abbrev pub place_of : List ℕ → List Row → Option ℕ
place_of name rows = position (λ row. bytes_eq row.0 name) rows

-- a row with one log more
abbrev pub next_of : Row → Row
next_of row = (row.0, next row.1)

-- rows with one log more of a refusal: in its row, or in a new one at the end
abbrev pub counted_at : Option ℕ → List ℕ → List Row → List Row
counted_at None name rows = rows ++ ((name, 1) ∷ [])
counted_at (Some place) name rows = set rows place (next_of (get_or rows place ([], 0)))

abbrev pub one_more : List ℕ → List Row → List Row
one_more name rows = counted_at (place_of name rows) name rows

abbrev pub with_accepted : Tally → Tally
with_accepted tally = record tally { accepted = next tally.accepted }

abbrev pub with_unread : Tally → Tally
with_unread tally = record tally { unread = next tally.unread }

abbrev pub with_rejected : List ℕ → Tally → Tally
with_rejected name tally = record tally { rejected = next tally.rejected; rows = one_more name tally.rows }

-- a row as text
abbrev pub row_text : Row → List ℕ
row_text row = decimal row.1 ++ codes " " ++ row.0

-- each row after a mark, the first after another
abbrev pub comma_text : Row → List ℕ
comma_text row = codes ", " ++ row_text row

abbrev pub rows_text : List Row → List ℕ
rows_text [] = []
rows_text (row ∷ rows) = codes ": " ++ row_text row ++ flat_map comma_text rows

-- how many could not be opened, if any
abbrev pub unread_text : ℕ → List ℕ
unread_text count = if nat_lt 0 count then codes "; " ++ decimal count ++ codes " not opened" else []

-- the line that tells all of it
unfoldable pub summary_line : Tally → List ℕ
summary_line tally =
    codes "capdiag: " ++ decimal tally.accepted ++ codes " accepted, " ++ decimal tally.rejected ++ codes " rejected" ++ rows_text tally.rows
    ++ unread_text tally.unread ++ codes "\n"

-- what the code holds
abbrev pub row_of : OfCode → Row
row_of row = (row.name.items, row.count)

-- the place of a refusal among the rows that it holds
abbrev pub place_in : List ℕ → List OfCode → Option ℕ
place_in name rows = position (λ row. bytes_eq row.name.items name) rows

abbrev pub rows_of : List OfCode → List Row
rows_of rows = map row_of rows

abbrev pub tally_of : TallyOfCode → Tally
tally_of tally = record { accepted = tally.accepted; rejected = tally.rejected; unread = tally.unread; rows = rows_of tally.rows.items }
