use Rattle.std.proofs.{Common.{◌≡◌, ◌≢◌, ◌∷◌, [], sym, ◌∙◌, rules}, lemmas.List.nil_from_length}
use Rattle.cap_streams.proofs.SliceLemmas.{piece_lengths-none, piece_lengths-some, piece_lengths-next}
use Rattle.cap_streams.proofs.sources.slices.SliceSource.next_piece.Goals as goal

pub returns-in_default-clause-lengths : goal.returns-in_default-clause-lengths
returns-in_default-clause-lengths c =
    let s = c.loop-self.self in
    let none : s.left ≡ 0 = search rules in
    let last : s.lengths.now ≡ [] = nil_from_length _ (search rules) in
    sym (piece_lengths-none s.left s.lengths.now none last) ∙ c.loop-self.invariant.1

pub loop-self-preserved : goal.loop-self-preserved
loop-self-preserved c =
    let s = c.loop-self.self in
    let none : s.left ≡ 0 = search rules in
    let next : s.lengths.now ≡ c.in-Some.first.now ∷ c.in-Some.others.now = search rules in
    (c.loop-self.invariant.0, sym (piece_lengths-next s.left _ s.lengths.now _ none next) ∙ c.loop-self.invariant.1)

pub returns-clause-lengths : goal.returns-clause-lengths
returns-clause-lengths c =
    let s = c.loop-self.self in
    let some : s.left ≢ 0 = search rules in
    sym (piece_lengths-some s.left s.lengths.now some) ∙ c.loop-self.invariant.1
