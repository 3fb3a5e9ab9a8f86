-- Why the count of slots in use fits 32 bits.
use Rattle.std.specs.Prelude.{ℕ, ◌^◌, ◌<◌, List, take}
use Rattle.std.specs.FinMap as map
use Rattle.std.proofs.{Common.arith, lemmas.List.{length-map, length-take}}
use Rattle.tagmem.{specs.Listed.{AreApart, contents_of}, proofs.ListLaws.len-apart}
use Rattle.tagmem_lent.specs.{declared.lent_store.Slot.Slot, Lent.{entries_of, listed_of}}

-- few slots have a map whose count fits
pub few_entries : (used : ℕ) (slots : List Slot) → AreApart (entries_of used slots) → used < 2 ^ 32
    → map.len (contents_of (entries_of used slots)) < 2 ^ 32
few_entries used slots apart few = omega (arith, len-apart (entries_of used slots) apart, length-map (take used slots) listed_of, length-take used slots)
