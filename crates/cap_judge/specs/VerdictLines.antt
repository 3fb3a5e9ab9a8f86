-- The line of a verdict, its exit status, and the line of an origin.
use Rattle.std.specs.Prelude.{ℕ, List, ◌++◌, codes, decimal}
use Rattle.cap_ops.specs.Refusals.{refusal_number, refusal_name}
use Rattle.cap_log.specs.{declared.lines.Place.Place, Lines.place_spelling}
use Rattle.cap_judge.specs.declared.verdict.{TakeFault.{TakeFault, TheVariants.{NoLine, NoMemory}}, Verdict.{Verdict, TheVariants.{Yes, No}}}

-- the verdict as a line (this profile's own)
abbrev pub verdict_line : Verdict → List ℕ
verdict_line (Yes steps roots) = codes "yes " ++ decimal steps ++ codes " " ++ decimal roots ++ codes "\n"
verdict_line (No line refusal) =
    codes "no " ++ decimal line ++ codes " " ++ decimal (refusal_number refusal) ++ codes " " ++ refusal_name refusal ++ codes "\n"

-- why a line was not taken, as a text (this profile's own)
abbrev pub take_fault_text : TakeFault → List ℕ
take_fault_text NoLine = codes "the bytes are no line"
take_fault_text NoMemory = codes "out of memory"

-- the exit status of a verdict (this profile's own)
abbrev pub verdict_status : Verdict → ℕ
verdict_status (Yes steps roots) = 0
verdict_status (No line refusal) = 1

-- a place and the place of its root, as a log spells them, with a line feed (this profile's own)
abbrev pub origin_line : Place → Place → List ℕ
origin_line place root = codes "origin " ++ place_spelling place ++ codes " " ++ place_spelling root ++ codes "\n"
