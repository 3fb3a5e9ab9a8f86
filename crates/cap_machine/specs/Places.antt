-- What registers and granules hold, as one state, and the origins of that (this profile's own).
use Rattle.std.specs.Prelude.{ℕ, ◌+◌, ◌-◌, ◌^◌, ◌<◌, Bool, ◌==◌, nat_lt, if◌then◌else◌, List, slice_index_or, Option}
use Rattle.std.specs.Prelude.{Some, None}
use Rattle.cap_word.specs.{declared.word.Cap.Cap, Memory.stored_word}
use Rattle.cap_log.specs.declared.lines.Place.{Place, TheVariants.{Register, Granule}}
use Rattle.tagmem.specs.Granules.{Granules, IsCodeFor, tag_at, bytes_at, code_at}
use Rattle.cap_machine.specs.States.{State, untagged_null}

-- the capability that a granule holds
abbrev pub granule_cap : Granules → ℕ → Cap
granule_cap memory granule = record { tag = tag_at memory granule; word = record { 0 = stored_word (bytes_at memory granule) } }

-- what is told of each place, by the place's key, where it is told of registers and of granules
abbrev pub at_places : {A : Type 0} → List A → A → (ℕ → A) → ℕ → A
at_places registers default granules key = if nat_lt key 32 then slice_index_or registers key default else granules (key - 32)

-- the state that registers and a memory are in
abbrev pub places_of : List Cap → Granules → State
places_of registers memory = at_places registers untagged_null (granule_cap memory)

-- the codes of the origins that registers and a memory have
abbrev pub codes_of : List ℕ → Granules → ℕ → ℕ
codes_of codes memory = at_places codes 0 (code_at memory)

-- the place that the code of an origin is the key of; 0 is none
abbrev pub place_at : ℕ → Option Place
place_at code = if code == 0 then None else (if nat_lt code 32 then Some (Register code) else Some (Granule (code - 32)))

-- a code is a place's key, or 0 exactly where there is no tag
abbrev pub IsCoded : Bool → ℕ → Type 0
IsCoded tag code = IsCodeFor tag code × (code < 2 ^ 60 + 32)

-- the codes are those of a state's capabilities
abbrev pub AreCoded : State → (ℕ → ℕ) → Type 0
AreCoded state codes = (key : ℕ) → IsCoded (state key).tag (codes key)
