-- What registers that are kept apart hold (this profile's own).
use Rattle.std.specs.Prelude.{ℕ, List}
use Rattle.cap_word.specs.declared.word.Cap.{Cap}
use Rattle.cap_machine.specs.{declared.registers.Registers.Registers, RegisterCaps.{cap_by, label_by}}

abbrev pub caps_of : Registers → List Cap
caps_of registers = registers.caps

abbrev pub labels_of : Registers → List ℕ
labels_of registers = registers.labels

abbrev pub cap_in : Registers → ℕ → Cap
cap_in registers = cap_by registers.caps

abbrev pub label_in : Registers → ℕ → ℕ
label_in registers = label_by registers.labels
