-- What the report on a step shows (this profile's own).
use Rattle.std.specs.Prelude.{ℕ, Bool, ◌+◌, ◌*◌, if◌then◌else◌, List, [], ◌∷◌, ◌++◌, Option, Some, None}
use Rattle.std.specs.Prelude.{codes}
use Rattle.cap_word.specs.{Digits.hex_digits, Fields.address_of}
use Rattle.cap_bounds.specs.{Bounds.{base_of, top_of}, Range.with_address}
use Rattle.cap_bounds.specs.Rounding.{rounded_base, rounded_top}
use Rattle.cap_ops.specs.declared.refusal.Refusal.{Refusal, TheVariants.WrongResult}
use Rattle.cap_log.specs.declared.{kinds.Step.Step, lines.Place.{Place, TheVariants.Register}}
use Rattle.cap_texts.specs.TextLines.{says_line, text_line}
use Rattle.cap_machine.specs.declared.shown.{Given.{Given, TheVariants.{Capability, Number, Nothing}}, Reached.Reached}
use Rattle.cap_machine.specs.{declared.shown.{Request.Request, Shown.Shown}, Accounts.Account, Shown.shown_of}
use Rattle.cap_machine.specs.States.{key_of}
use Rattle.cap_machine.specs.declared.shown.Request.TheVariants as requests
use Rattle.cap_report.specs.{declared.parts.ReportPart.ReportPart, Parts.lines_of_parts, Says.{range_end, range_start, step_sentence}}
use Rattle.cap_report.specs.declared.parts.ReportPart.TheVariants as parts

-- an account whose origins are shown, or are not
abbrev pub seen : Bool → Account → Account
seen origins account = record account { origin = λ key. if origins then account.origin key else None }

-- what a place holds as a source, and the place of the root of that
abbrev pub source_part : Account → Place → ReportPart
source_part account place = let key = key_of place in parts.Source place (account.state key) (account.origin key)

-- what a register holds as an authority, and the place of the root of that
abbrev pub authority_part : Account → ℕ → ReportPart
authority_part account register = parts.Authority (Register register) (account.state register) (account.origin register)

-- the representable range of a word
abbrev pub range_part : ℕ → ReportPart
range_part w = parts.Representable (range_start w) (range_end w)

-- the bounds of a length from a word's address on, and what they are rounded to
abbrev pub bounds_parts : ℕ → ℕ → List ReportPart
bounds_parts w length =
    let base = address_of w in
    parts.Request base (base + length) ∷ parts.Rounded (rounded_base base length) (rounded_top base length) ∷ []

-- the bounds that a word has at an address, and the range of the addresses that keep its own
abbrev pub moved_parts : ℕ → ℕ → List ReportPart
moved_parts w address =
    let moved = with_address w address in parts.Moved (base_of moved) (top_of moved) ∷ range_part w ∷ []

-- what is asked for, of a source that holds a word
abbrev pub request_parts : Account → ℕ → Request → List ReportPart
request_parts account w (requests.Length length) = bounds_parts w length
request_parts account w (requests.Address address) = moved_parts w address
request_parts account w (requests.Authority register needs) = authority_part account register ∷ parts.Needs needs ∷ []
request_parts account w requests.Nothing = []

-- what a result comes from or what is stored, and what an operation on registers asks for
abbrev pub operand_parts : Account → Option Place → Request → List ReportPart
operand_parts account None request = []
operand_parts account (Some place) request =
    source_part account place ∷ request_parts account (account.state (key_of place)).word.0 request

-- an access to memory and its authority
abbrev pub access_parts : Account → Option Reached → List ReportPart
access_parts account None = []
access_parts account (Some access) =
    authority_part account access.authority
    ∷ parts.Access access.address (access.address + access.size)
    ∷ parts.Needs access.needs ∷ []

-- what a step read and asked for
abbrev pub asked_parts : Account → Shown → List ReportPart
asked_parts account shown = operand_parts account shown.source shown.request ++ access_parts account shown.access

-- the check for which a result is untagged, if there is one
abbrev pub cleared_parts : Option Refusal → List ReportPart
cleared_parts None = []
cleared_parts (Some fault) = parts.Cleared fault ∷ []

-- what the rules give, what the line records, and in which fields two capabilities differ. The result of an operation
-- on registers is that of clear mode: it is untagged if a check fails, which is named then; if none fails it is that of
-- strict rules too
abbrev pub given_lines : Given → List ℕ
given_lines (Capability place given fault recorded) =
    lines_of_parts ((parts.Gives place given ∷ cleared_parts fault) ++ parts.Recorded place recorded ∷ parts.Differs given recorded ∷ [])
given_lines (Number given size recorded) =
    text_line (codes "gives") (hex_digits (2 * size) given) ++ text_line (codes "recorded") (hex_digits (2 * size) recorded)
given_lines Nothing = []

-- the lines of what a step shows: what it read and asked for, and where its line records another result, what the rules
-- give
abbrev pub shown_lines : Account → Shown → Refusal → List ℕ
shown_lines account shown WrongResult = lines_of_parts (asked_parts account shown) ++ given_lines shown.given
shown_lines account shown refusal = lines_of_parts (asked_parts account shown)

-- the lines of a step
abbrev pub step_lines : Account → Step → Refusal → List ℕ
step_lines account step refusal =
    let shown = shown_of account.state step in
    shown_lines account shown refusal ++ says_line (step_sentence account.state shown refusal)
