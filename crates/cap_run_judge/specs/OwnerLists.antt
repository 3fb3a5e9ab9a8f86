-- The lines of a run's present objects and of the places that they own, and the text of a report. All of it is this
-- profile's own.
use Rattle.std.specs.Prelude.{ℕ, zero, suc, ◌+◌, ◌^◌, ◌==◌, Bool, true, false, if◌then◌else◌, List, [], ◌++◌, codes, decimal, Option, Some, None}
use Rattle.cap_word.specs.Digits.{hex_digits}
use Rattle.cap_objects.specs.{declared.objects.Object.Object, Moments.line_at, Objects.top_of_extent}
use Rattle.cap_run_log.specs.declared.lines.RunPlace.{RunPlace, TheVariants.Granule}
use Rattle.cap_run_log.specs.RunLines.{run_place_spelling}
use Rattle.cap_run.specs.{HartPlaces.{place_in, place_numbered}, Run.Run}
use Rattle.cap_run_judge.specs.declared.verdict.RunVerdict.{RunVerdict, TheVariants.{Yes}}
use Rattle.cap_run_judge.specs.VerdictLines.{run_verdict_line}

-- the lines of so many numbers, from one on
unfoldable pub lines_from : (ℕ → List ℕ) → ℕ → ℕ → List ℕ
lines_from line from zero = []
lines_from line from (suc count) = line from ++ lines_from line (from + 1) count

-- whether an object was freed
abbrev pub life_spelling : Bool → List ℕ
life_spelling true = codes "freed"
life_spelling false = codes "live"

-- its extent: the base and the top
abbrev pub extent_spelling : Object → List ℕ
extent_spelling object = hex_digits 16 object.base ++ codes " " ++ hex_digits 17 (top_of_extent object)

-- the line of an object in a log with so many roots: its number, the line that handed it out, its extent, whether it was
-- freed, and how many places it owns
abbrev pub object_line : ℕ → Object → List ℕ
object_line roots object =
    codes "object " ++ decimal object.number ++ codes " " ++ decimal (line_at roots object.handed_at) ++ codes " "
    ++ extent_spelling object ++ codes " " ++ life_spelling object.freed ++ codes " " ++ decimal object.held ++ codes "\n"

-- a place, where a register is that of a hart: the hart's number stands before it, unless that is the one that is left out
abbrev pub hart_place_spelling : ℕ → ℕ → RunPlace → List ℕ
hart_place_spelling left_out hart place = (if hart == left_out then [] else decimal hart ++ codes ".") ++ run_place_spelling place

-- the line of a place, where a register is that of a hart, and of the number of the object that owns it: the number of hart 0
-- is left out
abbrev pub owner_line : ℕ → RunPlace → ℕ → List ℕ
owner_line hart place number = codes "owner " ++ hart_place_spelling 0 hart place ++ codes " " ++ decimal number ++ codes "\n"

-- the line of an object, if there is one
abbrev pub line_of_object : ℕ → Option Object → List ℕ
line_of_object roots None = []
line_of_object roots (Some object) = object_line roots object

-- the line of a place, if an object owns it
abbrev pub line_of_place : ℕ → RunPlace → Option ℕ → List ℕ
line_of_place hart place None = []
line_of_place hart place (Some number) = owner_line hart place number

-- a run's lines of the object with a number, and of a place
abbrev pub numbered_line : Run → ℕ → List ℕ
numbered_line run number = line_of_object run.roots (run.objects number)

abbrev pub place_line : Run → ℕ → RunPlace → List ℕ
place_line run hart place = line_of_place hart place (run.owners (place_in run.harts hart place))

-- the lines of the present objects, whose numbers go from 1 to the count of all that were handed out
abbrev pub object_lines : Run → List ℕ
object_lines run = lines_from (numbered_line run) 1 run.count

-- the lines of the registers of a hart, of all harts, and of the granules
abbrev pub register_lines : Run → ℕ → List ℕ
register_lines run hart = lines_from (λ number. place_line run hart (place_numbered number)) 1 63

abbrev pub hart_lines : Run → List ℕ
hart_lines run = lines_from (register_lines run) 0 65536

abbrev pub granule_lines : Run → List ℕ
granule_lines run = lines_from (λ granule. place_line run 0 (Granule granule)) 0 (2 ^ 60)

-- the lines of the owned places: by hart c1 to c31 and scr0 to scr31, and the granules by address
abbrev pub owner_lines : Run → List ℕ
owner_lines run = hart_lines run ++ granule_lines run

-- the text of a report: the verdict's line, and if owners are asked for, after a yes the lines of the present objects and
-- of the owned places
abbrev pub run_report_text : Bool → Run → RunVerdict → List ℕ
run_report_text true run (Yes steps roots objects) =
    run_verdict_line (Yes steps roots objects) ++ (object_lines run ++ owner_lines run)
run_report_text owners run verdict = run_verdict_line verdict
