-- The lines of origins, place after place, and the text of a report (this profile's own).
use Rattle.std.specs.Prelude.{ℕ, zero, suc, ◌+◌, ◌-◌, ◌^◌, nat_lt, if◌then◌else◌, List, [], ◌∷◌, ◌++◌, Option, Some}
use Rattle.std.specs.Prelude.{None}
use Rattle.cap_log.specs.declared.lines.Place.{Place, TheVariants.{Register, Granule}}
use Rattle.cap_machine.specs.Helds.{Held, account_of}
use Rattle.cap_judge.specs.{declared.verdict.Verdict.{Verdict, TheVariants.{Yes, No}}, Origins.{Origin, origin_lines}}
use Rattle.cap_judge.specs.VerdictLines.{verdict_line}

-- the place with a key
abbrev pub place_of : ℕ → Place
place_of key = if nat_lt key 32 then Register key else Granule (key - 32)

-- the origin of a place, where it has one
abbrev pub listed : Place → Option Place → List Origin
listed place None = []
listed place (Some root) = record { place = place; root = root } ∷ []

-- the origins of so many places, from a key on
unfoldable pub origins_from : (ℕ → Option Place) → ℕ → ℕ → List Origin
origins_from origins key zero = []
origins_from origins key (suc count) = listed (place_of key) (origins key) ++ origins_from origins (key + 1) count

-- their lines
abbrev pub lines_from : (ℕ → Option Place) → ℕ → ℕ → List ℕ
lines_from origins key count = origin_lines (origins_from origins key count)

-- the lines of so many places, from a key on, by what a machine holds
abbrev pub held_lines : Held → ℕ → ℕ → List ℕ
held_lines held key count = lines_from (account_of held).origin key count

-- the text of a report: the verdict's line, and after a yes the lines of all places, by what the machine holds
abbrev pub report_text : Held → Verdict → List ℕ
report_text held (Yes steps roots) = verdict_line (Yes steps roots) ++ held_lines held 1 (31 + 2 ^ 60)
report_text held (No line refusal) = verdict_line (No line refusal)
