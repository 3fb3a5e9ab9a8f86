-- What a clause reads of a source and of a sink over bytes in memory. All of it is this profile's own.
use Rattle.std.specs.Prelude.{◌≡◌, ℕ, Bool, zero, suc, ◌-◌, List, [], ◌∷◌, ◌++◌, length, min, if◌then◌else◌, ◌==◌}
use Rattle.cap_streams.specs.declared.{sinks.slices.SliceSink.SliceSink, sources.slices.SliceSource.SliceSource}
use Rattle.cap_streams.specs.Written.{WritesInside}

-- the bytes that were not given yet
abbrev pub bytes_left : SliceSource → List ℕ
bytes_left s = s.rest.now

-- whether the last pull found the end
abbrev pub has_ended : SliceSource → Bool
has_ended s = s.is_ended

-- how many pulls failed: none does
abbrev pub failed_pulls : SliceSource → ℕ
failed_pulls s = 0

-- the bytes that a source gave between two moments
abbrev pub Gave : SliceSource → SliceSource → List ℕ → Type 0
Gave old new bytes = bytes_left old ≡ bytes ++ bytes_left new

-- what is left of the length of the piece at hand, and the lengths of those to come
abbrev pub lengths_left : SliceSource → ℕ × List ℕ
lengths_left s = (s.left, s.lengths.now)

-- the first length that is not 0, and those behind it
unfoldable pub piece_lengths : ℕ → List ℕ → ℕ × List ℕ
piece_lengths zero [] = (0, [])
piece_lengths zero (n ∷ lengths) = piece_lengths n lengths
piece_lengths (suc n) lengths = (suc n, lengths)

-- how many bytes the piece at hand has, of so many that are left: all of them behind the last length
abbrev pub piece_size : ℕ → ℕ → ℕ
piece_size size left = if size == 0 then left else min size left

-- a pull gives as many bytes of the piece at hand as there is room for
pub record GivesPiece (old new : SliceSource) (room count : ℕ) : Type 0 where
  pub count_is : count ≡ min room (piece_size (piece_lengths old.left old.lengths.now).0 (length old.rest.now))
  pub lengths_are : lengths_left new ≡ ((piece_lengths old.left old.lengths.now).0 - count, (piece_lengths old.left old.lengths.now).1)

-- the bytes of a sink's room, those behind what it took too
abbrev pub room_of : SliceSink → List ℕ
room_of s = s.room.now

-- the name of the reference to a sink's room: while it stays, the room is the same
abbrev pub name_of_room : SliceSink → ℕ
name_of_room s = s.room.ghost_name

-- how many bytes it took
abbrev pub taken_by : SliceSink → ℕ
taken_by s = s.taken

-- how many pushes failed, modulo 2 ^ 64
abbrev pub faults_of : SliceSink → ℕ
faults_of s = s.faults

-- the bytes that the sink has room for
abbrev pub room_left : SliceSink → ℕ
room_left s = length (room_of s) - taken_by s

-- the bytes that a sink took between two moments: they stand behind those that it had, in the same room
abbrev pub Took : SliceSink → SliceSink → List ℕ → Type 0
Took old new bytes = (new.room.ghost_name ≡ old.room.ghost_name) × WritesInside old.taken new.taken bytes old.room.now new.room.now
