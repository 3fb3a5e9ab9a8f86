-- How a heap keeps objects: a map of lengths, and a set of the addresses of objects without a byte (this profile's
-- own).
use Rattle.std.specs.{Prelude.{ℕ, ◌+◌, Bool, true, false, Option, Some, None}, BTreeMap.{BTreeMap, btree_map_len}}
use Rattle.std.specs.{BTreeSet.{BTreeSet, btree_set_len}, Ordering.nat_cmp}
use Rattle.std.specs.BTreeMap as tree
use Rattle.std.specs.BTreeSet as set
use Rattle.cap_heap.specs.Objects.{Objects}

-- the length of an object, from what the map has and whether the set has it
abbrev pub length_from : Option ℕ → Bool → Option ℕ
length_from (Some length) is_empty = Some length
length_from None true = Some 0
length_from None false = None

-- the objects that are kept
abbrev pub kept : BTreeMap ℕ ℕ → BTreeSet ℕ → Objects
kept lengths empty address = length_from (tree.get nat_cmp lengths address) (set.contains nat_cmp empty address)

-- how many they are
abbrev pub kept_count : BTreeMap ℕ ℕ → BTreeSet ℕ → ℕ
kept_count lengths empty = btree_map_len lengths + btree_set_len empty
