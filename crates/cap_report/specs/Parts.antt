-- The parts of the report on a step, and their lines (this profile's own).
use Rattle.std.specs.{Prelude.{ℕ, Bool, ◌==◌, if◌then◌else◌, List, [], ◌++◌, flat_map, codes, decimal}, Bool.beq}
use Rattle.cap_word.specs.{declared.word.Cap.Cap, Digits.hex_digits}
use Rattle.cap_word.specs.Fields.{address_of, perms_of, reserved_of, flag_of, otype_of, ie_of, e_of, b_of, t_of}
use Rattle.cap_ops.specs.{declared.refusal.Refusal.Refusal, Refusals.{refusal_number, refusal_name}}
use Rattle.cap_texts.specs.{CapLines.{cap_lines, bounds_line, operand_lines}, TextLines.text_line}
use Rattle.cap_report.specs.declared.parts.ReportPart.{ReportPart}
use Rattle.cap_report.specs.declared.parts.ReportPart.TheVariants.{Source, Authority, Request, Rounded, Moved, Representable}
use Rattle.cap_report.specs.declared.parts.ReportPart.TheVariants.{Access, Needs, Gives, Cleared, Recorded, Differs}

-- a field's name, where it differs
abbrev pub where_different : Bool → List ℕ → List ℕ
where_different same name = if same then [] else name

-- the fields beside their bounds and addresses in which two capabilities differ, by the names that an explanation gives them
abbrev pub rights_different : Cap → Cap → List ℕ
rights_different a b =
    let v = a.word.0 in
    let w = b.word.0 in
    where_different (beq a.tag b.tag) (codes " tag")
    ++ where_different (perms_of v == perms_of w) (codes " perms")
    ++ where_different (reserved_of v == reserved_of w) (codes " reserved")
    ++ where_different (beq (flag_of v) (flag_of w)) (codes " flag")
    ++ where_different (otype_of v == otype_of w) (codes " otype")

-- the fields of their bounds and their addresses in which two words differ, by these names
abbrev pub bounds_different : ℕ → ℕ → List ℕ
bounds_different v w =
    where_different (beq (ie_of v) (ie_of w)) (codes " ie")
    ++ where_different (e_of v == e_of w) (codes " e")
    ++ where_different (b_of v == b_of w) (codes " b")
    ++ where_different (t_of v == t_of w) (codes " t")
    ++ where_different (address_of v == address_of w) (codes " address")

-- the fields in which two capabilities differ, by these names
unfoldable pub differs_line : Cap → Cap → List ℕ
differs_line a b = codes "differs" ++ rights_different a b ++ bounds_different a.word.0 b.word.0 ++ codes "\n"

-- the number and the name of a refusal
unfoldable pub cleared_line : Refusal → List ℕ
cleared_line refusal = codes "cleared " ++ decimal (refusal_number refusal) ++ codes " " ++ refusal_name refusal ++ codes "\n"

-- the lines of a part
abbrev pub part_lines : ReportPart → List ℕ
part_lines (Source place cap root) = operand_lines (codes "source") place cap root
part_lines (Authority place cap root) = operand_lines (codes "authority") place cap root
part_lines (Request base top) = bounds_line (codes "request") (codes " ") base top
part_lines (Rounded base top) = bounds_line (codes "rounded") (codes " ") base top
part_lines (Moved base top) = bounds_line (codes "moved") (codes " ") base top
part_lines (Representable start end) = bounds_line (codes "representable") (codes " ") start end
part_lines (Access start end) = bounds_line (codes "access") (codes " ") start end
part_lines (Needs view) = text_line (codes "needs") (hex_digits 8 view)
part_lines (Gives place cap) = cap_lines (codes "gives") place cap
part_lines (Cleared fault) = cleared_line fault
part_lines (Recorded place cap) = cap_lines (codes "recorded") place cap
part_lines (Differs given recorded) = differs_line given recorded

-- the lines of parts, one after another
abbrev pub lines_of_parts : List ReportPart → List ℕ
lines_of_parts parts = flat_map part_lines parts
