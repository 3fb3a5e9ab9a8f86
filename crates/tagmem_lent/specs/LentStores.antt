-- What a clause reads of a `LentStore`. This profile's own.
use Rattle.std.specs.Prelude.{ℕ, List, length}
use Rattle.tagmem.specs.declared.list_store.Listed.{Listed}
use Rattle.tagmem_lent.specs.{declared.lent_store.LentStore.LentStore, Lent.entries_of}

-- the entries that the slots in use are
abbrev pub in_use : LentStore → List Listed
in_use s = entries_of s.used s.slots.now

-- how many slots were lent
abbrev pub capacity_of : LentStore → ℕ
capacity_of s = length s.slots.now
