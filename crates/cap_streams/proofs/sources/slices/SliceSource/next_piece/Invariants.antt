use Rattle.std.proofs.Common.{◌≡◌, length}
use Rattle.cap_streams.specs.Slices.{piece_lengths}
use Rattle.cap_streams.proofs.sources.slices.SliceSource.next_piece.Given as goal

-- the first length that is not 0 is still to come, and so are the bytes
abbrev pub invariant-loop-self : goal.invariant-loop-self
invariant-loop-self l = (l.self.rest.now ≡ l.fn.self.rest.now)
    × (piece_lengths l.self.left l.self.lengths.now ≡ piece_lengths l.fn.self.left l.fn.self.lengths.now)

abbrev pub decreases-loop-self : goal.decreases-loop-self
decreases-loop-self l = length l.self.lengths.now
