-- What lists of capabilities and labels say of registers (this profile's own).
use Rattle.std.specs.Prelude.{ℕ, List, slice_index_or}
use Rattle.cap_word.specs.declared.word.Cap.{Cap}
use Rattle.cap_machine.specs.States.{untagged_null}

abbrev pub cap_by : List Cap → ℕ → Cap
cap_by caps number = slice_index_or caps number untagged_null

abbrev pub label_by : List ℕ → ℕ → ℕ
label_by labels number = slice_index_or labels number 0
