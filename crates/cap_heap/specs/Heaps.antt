-- What a `Heap` is seen as (this profile's own).
use Rattle.std.specs.Prelude.{ℕ}
use Rattle.cap_heap.specs.{declared.heap.Heap.Heap, Kept.{kept, kept_count}, Objects.Objects}

-- its live objects
abbrev pub objects_in : Heap → Objects
objects_in heap = kept heap.lengths heap.empty

-- how many they are
abbrev pub live_in : Heap → ℕ
live_in heap = kept_count heap.lengths heap.empty
