-- The lines that last wrote registers. All of it is this profile's own.
use Rattle.std.specs.Prelude.{ℕ, ◌+◌, Bool, ◌&&◌, if◌then◌else◌, List, [], ◌∷◌, fold, map, bytes_eq, Option, None, Some, option_map}
use Rattle.std.specs.{BTreeMap.BTreeMap, Global.Vec, Option.option_map_or, Ordering.nat_cmp}
use Rattle.std.specs.BTreeMap as tree
use Rattle.cap_context.specs.declared.writers.Writer.{Writer}
use Rattle.cap_context.specs.{Contexts.{Entry, Last, number_of}, Registers.{HartRegister, first_hart, hart_after, writes_of}}

-- the hart after some lines from the first on
abbrev pub hart_next : List ℕ → Entry → List ℕ
hart_next hart entry = hart_after hart entry.1

abbrev pub hart_of : List Entry → List ℕ
hart_of entries = fold hart_next first_hart entries

-- that hart, and the last of those lines that writes a register of a hart
abbrev pub writing_step : HartRegister → Last → Entry → Last
writing_step register last entry = (hart_after last.0 entry.1, if writes_of register last.0 entry.1 then Some entry else last.1)

abbrev pub last_of : HartRegister → List Entry → Last
last_of register entries = fold (writing_step register) (first_hart, None) entries

-- a register of a hart, with the last line that wrote it
abbrev pub Slot : Type 0
Slot = HartRegister × Entry

abbrev pub slot_of : Writer → Slot
slot_of writer = ((writer.register.items, writer.hart.items), (writer.line.number, writer.line.text.items))

abbrev pub slots_of : List Writer → List Slot
slots_of writers = map slot_of writers

-- two are the same register of the same hart
abbrev pub is_same : HartRegister → HartRegister → Bool
is_same one other = bytes_eq one.0 other.0 && bytes_eq one.1 other.1

-- the line of a register, if it has one
unfoldable pub found : HartRegister → List Slot → Option Entry
found register [] = None
found register (slot ∷ slots) = if is_same register slot.0 then Some slot.1 else found register slots

-- its place
unfoldable pub place_in : HartRegister → List Slot → Option ℕ
place_in register [] = None
place_in register (slot ∷ slots) = if is_same register slot.0 then Some 0 else option_map (λ place. 1 + place) (place_in register slots)

-- the writers that are kept for the harts of a number
abbrev pub writers_of : BTreeMap ℕ (Vec Writer) → ℕ → List Writer
writers_of writers number = option_map_or (λ own. own.items) (tree.get nat_cmp writers number) []

-- the line of a register of a hart, if it has one
unfoldable pub written : BTreeMap ℕ (Vec Writer) → HartRegister → Option Entry
written writers register = found register (slots_of (writers_of writers (number_of register.1)))
