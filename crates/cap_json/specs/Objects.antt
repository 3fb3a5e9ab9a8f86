-- The object of JSON that a report is. All of it is this profile's own.
use Rattle.std.specs.Prelude.{ℕ, List, [], ◌++◌, codes}
use Rattle.cap_json.specs.declared.rows.{LogKind.LogKind, Place.TheVariants.Alone}
use Rattle.cap_json.specs.{Members.{members, verdict_text}, Words.{lines_of, past, upto}}

-- the object of a report, and a line feed: the members of the verdict, and those of the lines after it
unfoldable pub json_of : LogKind → List ℕ → List ℕ
json_of kind report =
    codes "{" ++ verdict_text kind (upto 10 report) ++ members Alone [] (lines_of (past 10 report)) ++ codes "}\n"
