-- The lines of reports, by their names, and the members of JSON that they are. All of it is this profile's own.
use Rattle.std.specs.Prelude.{ℕ, List, [], ◌∷◌, codes}
use Rattle.cap_json.specs.declared.rows.{LogKind.{LogKind, TheVariants.{Machine, Heap, Run}}, Place.{Place, TheVariants.{Alone, Part, Element}}}

-- a line that begins so, where its member stands, and the form of it: $ is the line's next word, * all that is left of the
-- line, and ' a quotation mark
abbrev pub Row : Type 0
Row = List ℕ × Place × List ℕ

-- the line of a no
abbrev pub no_row : Row
no_row = (codes "no ", Alone, codes "'verdict':'no','line':$,'number':$,'name':'$'")

-- the line in place of a verdict if the log can't be opened
abbrev pub unopened_row : Row
unopened_row = (codes "unopened ", Alone, codes "'unopened':'*'")

-- the lines of verdicts
unfoldable pub verdict_rows : LogKind → List Row
verdict_rows Machine = (codes "yes ", Alone, codes "'verdict':'yes','steps':$,'roots':$") ∷ no_row ∷ unopened_row ∷ []
verdict_rows Heap = (codes "yes ", Alone, codes "'verdict':'yes','events':$,'live':$") ∷ no_row ∷ unopened_row ∷ []
verdict_rows Run = (codes "yes ", Alone, codes "'verdict':'yes','steps':$,'roots':$,'objects':$") ∷ no_row ∷ unopened_row ∷ []

-- the lines that describe no capability
unfoldable pub lone_rows : List Row
lone_rows =
    (codes "file ", Alone, codes "'file':'*'") ∷
    (codes "asked ", Alone, codes "'asked':'*'") ∷
    (codes "line ", Alone, codes "'text':'*'") ∷
    (codes "found ", Alone, codes "'found':'*'") ∷
    (codes "expected ", Alone, codes "'expected':'*'") ∷
    (codes "hint ", Alone, codes "'hint':'*'") ∷
    (codes "says ", Alone, codes "'says':'*'") ∷
    (codes "differs ", Alone, codes "'differs':'*'") ∷
    (codes "column ", Alone, codes "'column':$") ∷
    (codes "roots ", Alone, codes "'roots':$") ∷
    (codes "steps ", Alone, codes "'steps':$") ∷
    (codes "granules ", Alone, codes "'granules':$") ∷
    (codes "events ", Alone, codes "'events':$") ∷
    (codes "objects ", Alone, codes "'objects':$") ∷
    (codes "most ", Alone, codes "'most':$") ∷
    (codes "inexact ", Alone, codes "'inexact':$") ∷
    (codes "excess ", Alone, codes "'excess':$") ∷
    (codes "padding ", Alone, codes "'padding':$") ∷
    (codes "gaps ", Alone, codes "'gaps':$") ∷
    (codes "freed ", Alone, codes "'freed':$") ∷
    (codes "gone ", Alone, codes "'gone':$") ∷
    (codes "needs ", Alone, codes "'needs':'$'") ∷
    (codes "length ", Alone, codes "'length':'$'") ∷
    (codes "alignment ", Alone, codes "'alignment':'$'") ∷
    (codes "live length ", Alone, codes "'live_length':'$'") ∷
    (codes "live alignment ", Alone, codes "'live_alignment':'$'") ∷
    (codes "request ", Alone, codes "'request':['$','$']") ∷
    (codes "rounded ", Alone, codes "'rounded':['$','$']") ∷
    (codes "live request ", Alone, codes "'live_request':['$','$']") ∷
    (codes "live rounded ", Alone, codes "'live_rounded':['$','$']") ∷
    (codes "moved ", Alone, codes "'moved':['$','$']") ∷
    (codes "representable ", Alone, codes "'representable':['$','$']") ∷
    (codes "access ", Alone, codes "'access':['$','$']") ∷
    (codes "extent ", Alone, codes "'extent':['$','$']") ∷
    (codes "cleared ", Alone, codes "'cleared':{'number':$,'name':'$'}") ∷
    (codes "before ", Element, codes "{'line':$,'text':'*'}") ∷
    (codes "wrote ", Element, codes "{'place':'$','line':$,'text':'*'}") ∷
    (codes "origin ", Element, codes "{'place':'$','root':'$'}") ∷
    (codes "owner ", Element, codes "{'place':'$','object':$}") ∷
    (codes "object ", Element, codes "{'number':$,'line':$,'extent':['$','$'],'state':'$','held':$}") ∷ []

-- the lines that describe a capability, by what follows its name
unfoldable pub part_rows : List Row
part_rows =
    (codes "perms ", Part, codes "'perms':'$'") ∷
    (codes "otype ", Part, codes "'otype':'$','kind':'$'") ∷
    (codes "bounds ", Part, codes "'bounds':['$','$']") ∷
    (codes "origin ", Part, codes "'origin':'$'") ∷
    (codes "owner ", Part, codes "'owner':$") ∷ []
