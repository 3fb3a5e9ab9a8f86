-- Why a step on objects is refused, or an access for its owner, in a sentence (this profile's own).
use Rattle.std.specs.Prelude.{◌≡◌, ◌⊎◌, ℕ, ◌+◌, ◌-◌, nat_lt, Bool, true, false, if◌then◌else◌, List, [], ◌++◌, Option, Some, None, codes, decimal}
use Rattle.cap_word.specs.declared.word.Cap.{Cap}
use Rattle.cap_bounds.specs.Bounds.{base_of, top_of}
use Rattle.cap_objects.specs.{declared.objects.Object.Object, Moments.line_at}
use Rattle.cap_run_log.specs.declared.lines.RunPlace.{RunPlace, TheVariants.General}
use Rattle.cap_run_log.specs.RunLines.{run_place_spelling}
use Rattle.cap_run.specs.Run.{Run}
use Rattle.cap_run_judge.specs.OwnerLists.{hart_place_spelling}
use Rattle.cap_run_report.specs.ObjectParts.{HasNoHolder, IsFirstHolder, IsLeastMet, MeetsNone}
use Rattle.cap_run_report.specs.{DeriveSentences.sealed_type_text, Extents.asked_extent}

-- the line that freed an object, if one did, in a log with so many roots
abbrev pub freed_by : ℕ → Object → List ℕ
freed_by roots object = codes " and freed by line " ++ decimal (line_at roots object.freed_at)

abbrev pub freed_text : ℕ → Object → List ℕ
freed_text roots object = if object.freed then freed_by roots object else []

-- an object, the line that allocated it, and the line that freed it
unfoldable pub object_text : ℕ → Object → List ℕ
object_text roots object =
    codes "object " ++ decimal object.number ++ codes ", allocated by line " ++ decimal (line_at roots object.handed_at) ++ freed_text roots object

-- an object that isn't present
unfoldable pub gone_text : ℕ → List ℕ
gone_text number = codes "object " ++ decimal number ++ codes ", freed and held by no place"

-- the object with a number, present or not
abbrev pub found_text : ℕ → ℕ → Option Object → List ℕ
found_text roots number (Some object) = object_text roots object
found_text roots number None = gone_text number

-- the object of this number, if one is meant
abbrev pub owner_text : Run → Option ℕ → List ℕ
owner_text run (Some number) = found_text run.roots number (run.objects number)
owner_text run None = []

-- an object owns a place; or it isn't live
abbrev pub owns_text : Run → Option ℕ → RunPlace → List ℕ
owns_text run owner place = owner_text run owner ++ codes ", owns " ++ run_place_spelling place

abbrev pub dead_text : Run → Option ℕ → List ℕ
dead_text run owner = owner_text run owner ++ codes ", isn't live"

-- a place holds no unsealed capability
abbrev pub capability_text : RunPlace → Cap → List ℕ
capability_text place cap =
    run_place_spelling place ++ (if cap.tag then sealed_type_text cap.word.0 else codes " has no tag")

-- no object owns a place
abbrev pub empty_text : ℕ → List ℕ
empty_text w = if nat_lt (base_of w) (top_of w) then [] else codes ": its bounds are empty; free the object by its number"

abbrev pub unowned_text : RunPlace → Cap → List ℕ
unowned_text place cap = codes "no object owns " ++ run_place_spelling place ++ empty_text cap.word.0

-- no line allocated the object with a number
abbrev pub unallocated_text : Run → Option ℕ → List ℕ
unallocated_text run (Some number) =
    codes "no line allocated object " ++ decimal number ++ codes "; the count of objects is " ++ decimal run.count
unallocated_text run None = []

-- what asks for an extent: a place's bounds, or an object that is widened to these
abbrev pub asking_text : RunPlace → Option ℕ → List ℕ
asking_text place None = run_place_spelling place ++ codes "'s bounds overlap "
asking_text place (Some number) =
    codes "object " ++ decimal number ++ codes ", widened to " ++ run_place_spelling place ++ codes "'s bounds, overlaps "

-- how many places hold an object beside the first
abbrev pub others_text : ℕ → List ℕ
others_text held = if nat_lt 1 held then codes ", as " ++ decimal (held - 1) ++ codes " more do" else []

-- the first place that holds a freed object
abbrev pub IsHolderText : Run → Object → List ℕ → Type 0
IsHolderText run object text =
    ((found : ℕ × RunPlace) × IsFirstHolder run object.number found
    × (text ≡ codes "; " ++ hart_place_spelling (let harts = run.harts in harts.current) found.0 found.1 ++ codes " still holds it"
    ++ others_text object.held))
    ⊎ (HasNoHolder run object.number × (text ≡ []))

-- the object whose extent an interval shares an address with, of several that of the least base; with its holder, if it is
-- freed
abbrev pub HasHolderText : Run → Bool → Object → List ℕ → Type 0
HasHolderText run true object text = IsHolderText run object text
HasHolderText run false object text = text ≡ []

abbrev pub IsMetText : Run → Option ℕ → Bool → ℕ → ℕ → List ℕ → Type 0
IsMetText run left_out freed base top text =
    ((object : Object) × IsLeastMet run left_out freed base top (run.count + 1) object
    × (holder : List ℕ) × HasHolderText run freed object holder × (text ≡ object_text run.roots object ++ holder))
    ⊎ (MeetsNone run left_out freed base top (run.count + 1) × (text ≡ []))

-- an interval that can't be an extent, and the object that it meets
abbrev pub IsExtentText : Run → Option ℕ → Bool → Option (ℕ × ℕ) → List ℕ → Type 0
IsExtentText run left_out freed None text = text ≡ []
IsExtentText run left_out freed (Some extent) text = IsMetText run left_out freed extent.0 extent.1 text

abbrev pub IsAskedText : Run → ℕ → Option ℕ → Bool → List ℕ → Type 0
IsAskedText run register number freed text =
    (met : List ℕ) × IsExtentText run number freed (asked_extent run register number) met × (text ≡ asking_text (General register) number ++ met)

-- no object owns the authority of an access, and the object that it touches
abbrev pub IsTouchedText : Run → ℕ → ℕ → ℕ → List ℕ → Type 0
IsTouchedText run authority base top text =
    (met : List ℕ) × IsMetText run None false base top met
    × (text ≡ codes "no object owns " ++ run_place_spelling (General authority) ++ codes ", and the access touches " ++ met)
