-- What is shown of a report. All of it is this profile's own.
use Rattle.std.specs.Prelude.{◌≡◌, ◌⊎◌, ◌&&◌, ◌||◌, ℕ, Bool, true, nat_le, nat_lt, if◌then◌else◌, List, [], ◌∷◌, ◌++◌, codes, flat_map, take}
use Rattle.std.specs.Prelude.{Option, Some, None, unwrap_or, Result, Ok, Err}
use Rattle.cap_context.specs.Contexts.{context_of}
use Rattle.cap_json.specs.{declared.rows.LogKind.{LogKind, TheVariants.Machine}, Objects.json_of, Words.{begins, past, upto}}
use Rattle.cap_program.specs.declared.faults.Fault.{Fault, TheVariants.{NoMemory, Write}}
use Rattle.cap_texts.specs.ShownBytes.{shown_byte}
use Rattle.capdiag.specs.declared.{complaints.Unopened.Unopened, forms.{Form.Form, Look.{Look, TheVariants.{Plain, Colored, Json}}}}
use Rattle.capdiag.specs.{Complaints.reason_text, Forms.is_json}

-- the name that is shown of a file, if there are more, and in an object of JSON if there is one: that of standard input is a
-- minus sign
abbrev pub name_of : Look → ℕ → Option (List ℕ) → Option (List ℕ)
name_of look files file = if nat_lt 1 files || (is_json look && nat_lt 0 files) then Some (unwrap_or file (codes "-")) else None

-- a file's name as it is shown: in an object of JSON, bytes that aren't ASCII are as they are
abbrev pub name_byte : Bool → ℕ → List ℕ
name_byte is_raw byte = if is_raw && nat_le 128 byte then byte ∷ [] else shown_byte byte

abbrev pub name_text : Bool → List ℕ → List ℕ
name_text is_raw name = flat_map (name_byte is_raw) name

-- a report, followed by the context of the line that it refuses in the bytes of its log, where that is asked for
abbrev pub in_context : Option ℕ → List ℕ → List ℕ → List ℕ
in_context None bytes report = report
in_context (Some count) bytes report = report ++ context_of count bytes report

-- a report, with the name of its file after the line of the verdict, where that is shown
abbrev pub with_name : Bool → Option (List ℕ) → List ℕ → List ℕ
with_name is_raw None report = report
with_name is_raw (Some name) report = upto 10 report ++ codes "\nfile " ++ name_text is_raw name ++ codes "\n" ++ past 10 report

-- what is shown of a file that cannot be opened, as an object of JSON
unfoldable pub unopened_object : List ℕ → Unopened → List ℕ
unopened_object name reason =
    json_of Machine (codes "unopened " ++ reason_text reason ++ codes "\nfile " ++ name_text true name ++ codes "\n")

-- what switches a terminal to green for a yes, and to red for a no
abbrev pub color_of : List ℕ → List ℕ
color_of verdict = if begins (codes "yes") verdict then 27 ∷ codes "[32m" else 27 ∷ codes "[31m"

-- a report whose verdict has its color on a terminal
abbrev pub colored : List ℕ → List ℕ
colored report = color_of (upto 10 report) ++ upto 10 report ++ (27 ∷ codes "[0m\n") ++ past 10 report

-- a text as it looks: colored on a terminal, or an object of JSON
abbrev pub looking : Look → LogKind → List ℕ → List ℕ
looking Plain kind text = text
looking Colored kind text = colored text
looking Json kind text = json_of kind text

-- what is shown of a report on these bytes
abbrev pub rendered : Form → Option (List ℕ) → LogKind → List ℕ → List ℕ → List ℕ
rendered form name kind bytes report = looking form.look kind (with_name (is_json form.look) name (in_context form.context bytes report))

-- a text that is shown of a report on bytes that were read
abbrev pub Renders : Form → Option (List ℕ) → LogKind → List ℕ → (List ℕ → ℕ → Type 0) → List ℕ → ℕ → Type 0
Renders form name kind given shows text status = (report : List ℕ) × shows report status × (text ≡ rendered form name kind given report)

-- some bytes are a beginning of all, and all where the input has ended
abbrev pub Begins : List ℕ → Bool → List ℕ → Type 0
Begins given ended bytes = (rest : List ℕ) × (bytes ≡ given ++ rest) × (ended ≡ true → rest ≡ [])

-- a text that is shown of a report on all bytes: the bytes that were read are a beginning of them, with the same report, and
-- hold the context
abbrev pub RendersAll : Form → Option (List ℕ) → LogKind → List ℕ → (List ℕ → Bool → List ℕ → ℕ → Type 0) → (List ℕ → ℕ → Type 0) → List ℕ → ℕ
    → Type 0
RendersAll form name kind bytes shows prints text status =
    (given : List ℕ) × (ended : Bool) × Begins given ended bytes
    × (report : List ℕ) × shows given ended report status × prints report status × (text ≡ rendered form name kind given report)

-- why there is no text: as the judge stops; of a report that is kept also since there was no memory for it
abbrev pub Lacks : Bool → (Bool → List ℕ → ℕ → Type 0) → (Fault → Type 0) → Fault → Type 0
Lacks true shows stops NoMemory = stops NoMemory ⊎ ((ended : Bool) × (report : List ℕ) × (status : ℕ) × shows ended report status)
Lacks kept shows stops fault = stops fault

-- what a report that was kept became, by what was done for it: what is shown of it was pushed, or a beginning where the output
-- failed; or nothing, where there was no memory for it
abbrev pub IsPut : List ℕ → (List ℕ → Type 0) → Result ℕ Fault → Result ℕ Fault → Type 0
IsPut text took (Ok status) (Ok answer) = (answer ≡ status) × took text
IsPut text took (Ok status) (Err Write) = (n : ℕ) × took (take n text)
IsPut text took (Ok status) (Err NoMemory) = took []
IsPut text took (Ok status) (Err fault) = ⊥
IsPut text took (Err Write) answer = (answer ≡ Err NoMemory) × took []
IsPut text took (Err fault) answer = (answer ≡ Err fault) × took []
