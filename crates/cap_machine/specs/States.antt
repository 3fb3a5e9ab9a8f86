-- States of the machine: what each place holds.
use Rattle.std.specs.Prelude.{ℕ, ◌+◌, ◌/◌, ◌%◌, Bool, true, false, ◌==◌, if◌then◌else◌, List, [], ◌∷◌, take, drop}
use Rattle.std.specs.List.{list_any}
use Rattle.cap_word.specs.{declared.word.{Cap.Cap, Word.Word}, Memory.{memory_of, number_of}, Word.null_word}
use Rattle.cap_log.specs.declared.lines.Place.{Place, TheVariants.{Register, Granule}}

-- NULL without a tag (Sail CHERI-RISC-V: null_cap)
abbrev pub untagged_null : Cap
untagged_null = record { tag = false; word = record { 0 = null_word } }

-- a word with its tag
abbrev pub tagged : Word → Cap
tagged word = record { tag = true; word = word }

-- the key of a granule: its number plus 32 (this profile's own)
abbrev pub granule_key : ℕ → ℕ
granule_key granule = granule + 32

-- the key of a place: a register's number, or a granule's key
abbrev pub key_of : Place → ℕ
key_of (Register n) = n
key_of (Granule g) = granule_key g

-- what each place holds, by its key. Key 0 is c0, which is no place: it reads as NULL, and nothing writes it
abbrev pub State : Type 0
State = ℕ → Cap

-- a function with another value at one key
abbrev pub put : {A : Type 0} → (ℕ → A) → ℕ → A → ℕ → A
put told key value = λ other. if key == other then value else told other

-- a root: a capability that a place holds, tagged, at the start
pub record DeclaredRoot : Type 0 where
  pub place : Place
  pub word : Word

-- whether one of the roots has this place
abbrev pub is_taken : List DeclaredRoot → Place → Bool
is_taken roots place = list_any (λ root. key_of root.place == key_of place) roots

-- the state at the start: each root's word, tagged, at its place, and untagged NULL elsewhere
abbrev pub start : List DeclaredRoot → State
start [] = λ key. untagged_null
start (root ∷ roots) = put (start roots) (key_of root.place) (tagged root.word)

-- the number that size bytes of a granule are, from an address on, the least significant first
abbrev pub value_at : State → ℕ → ℕ → ℕ
value_at state address size = number_of (take size (drop (address % 16) (memory_of (state (key_of (Granule (address / 16)))).word.0)))
