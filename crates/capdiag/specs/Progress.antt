-- How far a log was read, and what is told of it. All of it is this profile's own.
use Rattle.std.specs.Prelude.{ℕ, ◌+◌, ◌-◌, ◌/◌, ◌==◌, ◌^◌, nat_lt, min, max, if◌then◌else◌, List, [], ◌∷◌, ◌++◌, length, codes, decimal}
use Rattle.std.specs.Prelude.{Bool, true, false, Option, Some, None}
use Rattle.capdiag.specs.declared.progress.Reading.{Reading}
use Rattle.capdiag.specs.Complaints.{named}

-- the line feeds among some bytes
abbrev pub feeds : List ℕ → ℕ
feeds [] = 0
feeds (byte ∷ bytes) = (if byte == 10 then 1 else 0) + feeds bytes

-- a number that stays below 2^64
abbrev pub limited : ℕ → ℕ
limited number = min number (2 ^ 64 - 1)

-- how far a log was read with some bytes more
abbrev pub read_on : Reading → List ℕ → Reading
read_on reading piece = record reading { bytes = limited (reading.bytes + length piece); lines = limited (reading.lines + feeds piece) }

-- how many thousand bytes a second were read in so many milliseconds
abbrev pub rate_of : Reading → ℕ → ℕ
rate_of reading milliseconds = reading.bytes / max milliseconds 1

-- a number of thousand bytes
abbrev pub amount_text : ℕ → List ℕ
amount_text thousands = if nat_lt thousands 10_000 then decimal thousands ++ codes " kB" else decimal (thousands / 1000) ++ codes " MB"

-- how many bytes there are in all, if that is known
abbrev pub whole_text : Option ℕ → List ℕ
whole_text None = []
whole_text (Some bytes) = codes " of " ++ amount_text (bytes / 1000)

-- a number of seconds
abbrev pub time_text : ℕ → List ℕ
time_text seconds =
    if nat_lt seconds 120 then decimal seconds ++ codes " s"
    else if nat_lt seconds 7200 then decimal (seconds / 60) ++ codes " min"
    else decimal (seconds / 3600) ++ codes " h"

-- how long the rest takes at this rate, if that is known
abbrev pub left_text : Option ℕ → ℕ → ℕ → List ℕ
left_text None bytes rate = []
left_text (Some whole) bytes rate =
    if nat_lt 0 rate then codes ", " ++ time_text ((whole - bytes) / rate / 1000) ++ codes " left" else []

-- how far a log was read
unfoldable pub reading_text : Reading → List ℕ
reading_text reading =
    amount_text (reading.bytes / 1000) ++ whole_text reading.whole ++ codes ", " ++ decimal reading.lines ++ codes " lines"

-- how fast
unfoldable pub rate_text : Reading → ℕ → List ℕ
rate_text reading rate = codes ", " ++ amount_text rate ++ codes "/s" ++ left_text reading.whole reading.bytes rate

-- both, with the name of the file, if that is one of several
unfoldable pub progress_line : Option (List ℕ) → Reading → ℕ → List ℕ
progress_line name reading rate = codes "capdiag: " ++ named name ++ reading_text reading ++ rate_text reading rate

-- the same, on a terminal in place of what its line shows, and elsewhere as a line
abbrev pub progress_text : Bool → List ℕ → List ℕ
progress_text true line = (13 ∷ []) ++ line ++ (27 ∷ codes "[K")
progress_text false line = line ++ codes "\n"
