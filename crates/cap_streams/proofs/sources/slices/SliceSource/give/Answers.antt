use Rattle.std.proofs.Common.{◌≡◌, ◌≢◌, ◌∙◌, ◌-◌, ℕ, List, ap, arith, length, length-append, length-drop, min}
use Rattle.std.proofs.lemmas.Bool.Decides.{nat_tests}
use Rattle.cap_streams.specs.declared.sources.slices.SliceSource.{SliceSource}
use Rattle.cap_streams.specs.Slices.{GivesPiece, bytes_left, lengths_left, piece_lengths, piece_size}
use Rattle.cap_streams.proofs.sources.slices.SliceSource.give.Goals.{then-self-eq0, else-self-eq0}
use Rattle.cap_streams.proofs.sources.slices.SliceSource.give.Goals as goal

-- how many bytes the piece at hand has
all_left : (left size more : ℕ) → left ≡ 0 → size ≡ more → size ≡ piece_size left more
all_left left size more none is = rw none is

some_left : (left size more : ℕ) → left ≢ 0 → size ≡ min left more → size ≡ piece_size left more
some_left left size more some is = grind (arith, nat_tests)

-- where the piece at hand was gone to first
given_of : (old next new : SliceSource) (room count size : ℕ) → bytes_left next ≡ bytes_left old
    → lengths_left next ≡ piece_lengths old.left old.lengths.now → size ≡ piece_size next.left (length next.rest.now)
    → count ≡ min room size → lengths_left new ≡ (next.left - count, next.lengths.now) → GivesPiece old new room count
given_of old next new room count size same is sized counted left = record {
  count_is = counted ∙ ap (min room) (sized ∙ ap (λ (n : ℕ). piece_size n (length next.rest.now)) (ap (λ (p : ℕ × List ℕ). p.0) is)
      ∙ ap (λ (b : List ℕ). piece_size (piece_lengths old.left old.lengths.now).0 (length b)) same);
  lengths_are = left ∙ ap (λ (p : ℕ × List ℕ). (p.0 - count, p.1)) is;
}

pub returns-clause-pieces : goal.returns-clause-pieces
returns-clause-pieces c =
    let next = c.next_piece.new.self in
    let sized : c.if-self-eq0.size ≡ piece_size next.left (length next.rest.now) = elim c.if-self-eq0.branch [
      | then-self-eq0 w ↦ all_left next.left c.if-self-eq0.size (length next.rest.now) w.if-self-eq0.true w.size-is
      | else-self-eq0 w ↦ some_left next.left c.if-self-eq0.size (length next.rest.now) w.if-self-eq0.false (omega arith)
    ] in
    given_of c.args.self.now next _ _ c.min-count.result c.if-self-eq0.size c.next_piece.ensures.bytes c.next_piece.ensures.lengths sized
    (omega (arith, length-append {A = ℕ}, length-drop {A = ℕ}))
    (ap (λ (n : ℕ). (n, next.lengths.now)) c.saturating_sub-self.ensures)
