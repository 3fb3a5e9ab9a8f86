-- How a report is shown, by what the words after the program's name ask for. All of it is this profile's own.
use Rattle.std.specs.Prelude.{ℕ, ◌+◌, ◌-◌, ◌*◌, Bool, true, false, ◌&&◌, ◌||◌, ◌==◌, not, nat_le, if◌then◌else◌}
use Rattle.std.specs.Prelude.{List, [], ◌∷◌, Option, Some, None, is_some}
use Rattle.capdiag.specs.declared.forms.{Form.Form, Look.{Look, TheVariants.{Plain, Json}}}

-- as it is
abbrev pub plain : Form
plain = record { look = Plain; context = None }

abbrev pub is_plain : Look → Bool
is_plain Plain = true
is_plain look = false

-- whether it is an object of JSON
abbrev pub is_json : Look → Bool
is_json Json = true
is_json look = false

-- the same form, as an object of JSON
abbrev pub with_json : Form → Form
with_json form = record form { look = Json }

-- the same form, with at most this many lines before a line that is refused
abbrev pub with_lines : Form → ℕ → Form
with_lines form count = record form { context = Some count }

-- a report that is kept before it is shown, by its form and by the name of its file, if that is shown
abbrev pub is_kept : Form → Option (List ℕ) → Bool
is_kept form name = not (is_plain form.look) || (is_some form.context || is_some name)

-- a decimal digit
abbrev pub is_digit : ℕ → Bool
is_digit byte = nat_le 48 byte && nat_le byte 57

-- the number of lines that a word spells: a decimal from 0 to 99
abbrev pub count_of : List ℕ → Option ℕ
count_of (digit ∷ []) = if is_digit digit then Some (digit - 48) else None
count_of (ten ∷ digit ∷ []) =
    if is_digit ten && (not (ten == 48) && is_digit digit) then Some (10 * (ten - 48) + (digit - 48)) else None
count_of word = None
