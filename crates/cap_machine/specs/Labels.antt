-- What changes of single places leave, where a place's code is a label that descent carries on (this profile's own).
use Rattle.std.specs.Prelude.{ℕ, ◌+◌, true, false, slice_set, Some}
use Rattle.cap_word.specs.{declared.word.{Cap.Cap, Word.Word}, Memory.memory_of}
use Rattle.cap_log.specs.declared.lines.Place.{Place, TheVariants.{Register, Granule}}
use Rattle.tagmem.specs.Granules.{with_cap}
use Rattle.cap_machine.specs.Accounts.{Account, granule_of, naming}
use Rattle.cap_machine.specs.{Helds.Held, Places.place_at, States.{granule_key, key_of, put, tagged}}

-- the machine with another capability, and another label, in a register
abbrev pub with_label : Held → ℕ → Cap → ℕ → Held
with_label held target cap label =
    record held { registers = slice_set held.registers target cap; codes = slice_set held.codes target label }

-- the account with another capability, and another label, at a key
abbrev pub labelled : Account → ℕ → Cap → ℕ → Account
labelled account key cap label =
    record account { state = put account.state key cap; origin = put account.origin key (place_at label) }

-- the account with another capability, and another label, in a granule, after one step more
abbrev pub filled : Account → ℕ → Cap → ℕ → Account
filled account granule cap label =
    record (labelled (naming account (Some granule)) (granule_key granule) cap label) { steps = account.steps + 1 }

-- what a machine holds after a root with a label was put into a place
abbrev pub placed_with : Held → Place → Word → ℕ → Held
placed_with old (Register number) word label = with_label old number (tagged word) label
placed_with old (Granule granule) word label = record old { memory = with_cap old.memory granule true (memory_of word.0) label }

-- the account after one more root, with a label
abbrev pub with_labelled_root : Account → Place → Word → ℕ → Account
with_labelled_root account place word label =
    record (labelled (naming account (granule_of place)) (key_of place) (tagged word) label) { roots = account.roots + 1 }

-- a capability without its tag
abbrev pub untagged : Cap → Cap
untagged cap = record cap { tag = false }
