-- The lengths of the pieces of a slice.
use Rattle.std.proofs.Common.{◌≡◌, ◌≢◌, ℕ, zero, suc, List, [], ◌∷◌, refl}
use Rattle.cap_streams.specs.Slices.{piece_lengths}

-- behind the last length
pub piece_lengths-none : (left : ℕ) (lengths : List ℕ) → left ≡ 0 → lengths ≡ [] → piece_lengths left lengths ≡ (left, lengths)
unfolding piece_lengths
piece_lengths-none zero [] none last = refl
piece_lengths-none zero (n ∷ lengths) none last = absurd cc
piece_lengths-none (suc left) lengths none last = absurd cc

-- in a piece
pub piece_lengths-some : (left : ℕ) (lengths : List ℕ) → left ≢ 0 → piece_lengths left lengths ≡ (left, lengths)
unfolding piece_lengths
piece_lengths-some zero lengths some = absurd (some refl)
piece_lengths-some (suc left) lengths some = refl

-- behind a piece
pub piece_lengths-next : (left n : ℕ) (lengths others : List ℕ) → left ≡ 0 → lengths ≡ n ∷ others
    → piece_lengths left lengths ≡ piece_lengths n others
unfolding piece_lengths
piece_lengths-next zero n [] others none next = absurd cc
piece_lengths-next zero n (m ∷ lengths) others none next = cc (next)
piece_lengths-next (suc left) n lengths others none next = absurd cc
