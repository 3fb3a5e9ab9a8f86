-- Which file an order is on. All of it is this profile's own.
use Rattle.std.specs.Prelude.{◌≡◌, ℕ, nat_lt, if◌then◌else◌, List, ◌++◌, codes, bytes_eq, Option, Some, None, option_map, unwrap_or}
use Rattle.cap_program.specs.declared.faults.Fault.{Fault, TheVariants.Read}
use Rattle.capdiag.specs.declared.{forms.Form.Form, orders.{Judging.Judging, Order.{Order, TheVariants.Judge}}}
use Rattle.capdiag.specs.Complaints.{named}

-- the file that a word names: a minus sign alone names standard input, as no word does
abbrev pub file_of : Option (List ℕ) → Option (List ℕ)
file_of None = None
file_of (Some word) = if bytes_eq word (codes "-") then None else Some word

-- an order judges this file, one of so many
abbrev pub Judges : Judging → Form → Option (List ℕ) → ℕ → Order → Type 0
Judges judging form file files (Judge other shown own count) =
    (other ≡ judging) × (shown ≡ form) × (option_map (λ it. it.now) own ≡ file) × (count ≡ files)
Judges judging form file files order = ⊥

-- the name that a fault has of the input, if the words name one: that of standard input is a minus sign
abbrev pub told_name : ℕ → Option (List ℕ) → Option (List ℕ)
told_name files file = if nat_lt 0 files then Some (unwrap_or file (codes "-")) else None

-- what the line of a fault begins with: the program's name, and that of an input that could not be read
abbrev pub front_of : Option Order → Fault → List ℕ
front_of (Some (Judge judging form file files)) Read = codes "capdiag: " ++ named (told_name files (option_map (λ it. it.now) file))
front_of order fault = codes "capdiag: "
