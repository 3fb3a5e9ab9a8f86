-- What the code reads of rows and members, as the definitions have it. All of it is this profile's own.
use Rattle.std.specs.Prelude.{ℕ, List}
use Rattle.cap_json.specs.declared.rows.{Place.Place, Row.Row, Member.Member}
use Rattle.cap_json.specs.Rows as rows

-- a row
abbrev pub row_parts : Row → rows.Row
row_parts row = (row.0.now, row.1, row.2.now)

-- a member: where it stands, its form, and the values that fill it
abbrev pub member_parts : Member → Place × List ℕ × List ℕ
member_parts member = (member.place, member.form.now, member.values.now)
