-- Texts written into a buffer, one after another.
use Rattle.std.proofs.Common.{◌≡◌, ℕ, ◌+◌, ◌-◌, ◌≤◌, List, [], ◌∷◌, ◌++◌, length, take, drop, sym, ap, ◌∙◌, arith, length-append, take-take}
use Rattle.std.proofs.Common.{take_at}
pub use Rattle.cap_streams.specs.Written.{length-Writes, ◌⨾◌}
use Rattle.cap_streams.specs.Written.{Writes}

-- room for so many bytes behind a text that was written
pub room_behind : (at next more : ℕ) (text old new : List ℕ) → Writes at text old new next → at + length text + more ≤ length old
    → next + more ≤ length new
room_behind at next more text old new written room =
    let ends = written.ends in
    let same = length-Writes at next text old new written (omega arith) in
    omega arith

-- a text at the front of a buffer, and one byte behind it
pub front_and_byte : (i j c : ℕ) (a old mid new : List ℕ) → Writes 0 a old mid i → Writes i (c ∷ []) mid new j
    → (take j new ≡ a ++ c ∷ []) × (drop j new ≡ drop j old) × (take (j - 1) new ≡ a)
front_and_byte i j c a old mid new first second =
    let both = first ⨾ second in
    let ends = both.ends in
    let long = length-append a (c ∷ []) in (
      both.written,
      both.rest j (omega arith),
      sym (take-take (j - 1) j new (omega arith)) ∙ ap (take (j - 1)) both.written ∙ take_at a (c ∷ []) (j - 1) (omega arith),
    )
