-- The lines that show a capability of a report (this profile's own).
use Rattle.std.specs.Prelude.{ℕ, List, [], ◌++◌, Option, Some, None, codes}
use Rattle.cap_word.specs.{declared.word.Cap.Cap, Digits.hex_digits, Fields.otype_of}
use Rattle.cap_bounds.specs.Bounds.{base_of, top_of}
use Rattle.cap_ops.specs.Permissions.{perm_view_of}
use Rattle.cap_log.specs.{declared.lines.Place.Place, Lines.{place_spelling, tag_spelling}}
use Rattle.cap_texts.specs.ExplainLines.{type_name}

-- its place, tag and word
unfoldable pub cap_line : List ℕ → Place → Cap → List ℕ
cap_line name place cap =
    name ++ codes " " ++ place_spelling place ++ codes " " ++ tag_spelling cap.tag ++ codes " " ++ hex_digits 32 cap.word.0 ++ codes "\n"

-- permissions in the view
unfoldable pub perms_line : List ℕ → ℕ → List ℕ
perms_line name view = name ++ codes " perms " ++ hex_digits 8 view ++ codes "\n"

-- an object type, and what it stands for
unfoldable pub type_line : List ℕ → ℕ → List ℕ
type_line name otype = name ++ codes " otype " ++ hex_digits 5 otype ++ codes " " ++ type_name otype ++ codes "\n"

-- two bounds behind a name and a word
unfoldable pub bounds_line : List ℕ → List ℕ → ℕ → ℕ → List ℕ
bounds_line name word base top = name ++ word ++ hex_digits 16 base ++ codes " " ++ hex_digits 17 top ++ codes "\n"

-- what a word stands for: permissions, object type, bounds
unfoldable pub meaning_lines : List ℕ → ℕ → List ℕ
meaning_lines name w =
    perms_line name (perm_view_of w) ++ type_line name (otype_of w) ++ bounds_line name (codes " bounds ") (base_of w) (top_of w)

-- the four lines
unfoldable pub cap_lines : List ℕ → Place → Cap → List ℕ
cap_lines name place cap = cap_line name place cap ++ meaning_lines name cap.word.0

-- the place of the root that a capability descends from
unfoldable pub descent_line : List ℕ → Place → List ℕ
descent_line name root = name ++ codes " origin " ++ place_spelling root ++ codes "\n"

-- that line, where there is such a root
abbrev pub descent_lines : List ℕ → Option Place → List ℕ
descent_lines name None = []
descent_lines name (Some root) = descent_line name root

-- the lines of an operand: those of the capability that its place holds, and the root that this descends from
unfoldable pub operand_lines : List ℕ → Place → Cap → Option Place → List ℕ
operand_lines name place cap root = cap_lines name place cap ++ descent_lines name root
