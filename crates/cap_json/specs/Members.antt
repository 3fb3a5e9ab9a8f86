-- The members of an object of JSON that the lines of a report are. All of it is this profile's own.
use Rattle.std.specs.Prelude.{ℕ, Bool, false, ◌==◌, if◌then◌else◌, List, [], ◌∷◌, ◌++◌, length, drop, codes, bytes_eq}
use Rattle.std.specs.Prelude.{Option, None, Some}
use Rattle.cap_json.specs.declared.rows.{LogKind.LogKind, Place.{Place, TheVariants.{Alone, Part, Element}}}
use Rattle.cap_json.specs.{Rows.{Row, lone_rows, part_rows, verdict_rows}, Words.{begins, escaped, past, upto}}

-- a form, filled with values
unfoldable pub filled : List ℕ → List ℕ → List ℕ
filled [] values = []
filled (byte ∷ form) values =
    if byte == 36 then escaped (upto 32 values) ++ filled form (past 32 values)
    else if byte == 42 then escaped values ++ filled form []
    else if byte == 39 then 34 ∷ filled form values
    else byte ∷ filled form values

-- where a member stands, its form, and the values that fill it
abbrev pub Member : Type 0
Member = Place × List ℕ × List ℕ

-- the member that a line is by the first row whose name it begins with
unfoldable pub member_in : List Row → List ℕ → Option Member
member_in [] line = None
member_in ((name, place, form) ∷ rows) line =
    if begins name line then Some (place, form, drop (length name) line) else member_in rows line

-- a member, if there is one, or else another
abbrev pub or_else : Option Member → Member → Member
or_else None other = other
or_else (Some member) other = member

-- the form of a capability's first line by how many words follow its name
unfoldable pub form_by_words : List ℕ → List ℕ
form_by_words values =
    if length (past 32 values) == 0 then codes "'value':'$'"
    else if length (past 32 (past 32 values)) == 0 then codes "'bounds':['$','$']"
    else codes "'place':'$','tag':$,'word':'$'"

-- the member that a line is by what follows its first word
unfoldable pub described : List ℕ → Member
described values = or_else (member_in part_rows values) (Part, form_by_words values, values)

-- the member that a line is
unfoldable pub member_of : List ℕ → Member
member_of line = or_else (member_in lone_rows line) (described (past 32 line))

-- the members that the line of a verdict is
unfoldable pub verdict_of : LogKind → List ℕ → Member
verdict_of kind line = or_else (member_in (verdict_rows kind) line) (described line)

unfoldable pub verdict_text : LogKind → List ℕ → List ℕ
verdict_text kind line = let member = verdict_of kind line in filled member.1 member.2

-- the members of two lines stand in the same object or array within the object
abbrev pub continues : Place → List ℕ → Place → List ℕ → Bool
continues Part group Part name = bytes_eq group name
continues Element group Element name = bytes_eq group name
continues last group place name = false

-- what begins the members of a place, and what ends them
unfoldable pub opening : Place → List ℕ → List ℕ
opening Alone name = []
opening Part name = codes "\"" ++ escaped name ++ codes "\":{"
opening Element name = codes "\"" ++ escaped name ++ codes "\":["

abbrev pub closing : Place → List ℕ
closing Alone = []
closing Part = codes "}"
closing Element = codes "]"

-- what stands between the members of two lines
unfoldable pub between : Place → List ℕ → Place → List ℕ → List ℕ
between last group place name =
    if continues last group place name then codes "," else closing last ++ codes "," ++ opening place name

-- the members that lines are, where the last member before them stands in a place of this name
unfoldable pub members : Place → List ℕ → List (List ℕ) → List ℕ
members last group [] = closing last
members last group (line ∷ lines) =
    let member = member_of line in
    between last group member.0 (upto 32 line) ++ filled member.1 member.2 ++ members member.0 (upto 32 line) lines
