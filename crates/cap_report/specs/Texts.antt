-- A text that is written where there is room for it (this profile's own, as are all below).
use Rattle.std.specs.Prelude.{◌≡◌, ℕ, ◌+◌, ◌-◌, ◌^◌, ◌≤◌, ◌<◌, List, [], ◌++◌, length, refl}
use Rattle.std.proofs.{Common.arith, lemmas.List.length-append}
use Rattle.cap_streams.specs.Written.{WritesInside, WritesInside-nothing, WritesInside-joined}

-- a text is counted behind what was counted before, up to 2 ^ 64 - 1, and stands behind that where it fits
pub record IsTold (at end : ℕ) (text old new : List ℕ) : Type 0 where
  pub counted : at + length text < 2 ^ 64 → end ≡ at + length text
  pub beyond : 2 ^ 64 ≤ at + length text → end ≡ 2 ^ 64 - 1
  pub fits : at + length text ≤ length old → WritesInside at end text old new
  pub room : length new ≡ length old

-- no text
pub IsTold-nothing : (at : ℕ) (old : List ℕ) → at < 2 ^ 64 → IsTold at at [] old old
IsTold-nothing at old below = record {
  counted = λ few. omega arith;
  beyond = λ many. omega arith;
  fits = λ within. WritesInside-nothing at old (omega arith);
  room = refl;
}

-- one text after another
pub IsTold-joined :
    (at i j : ℕ) (a b old mid new : List ℕ) → IsTold at i a old mid → IsTold i j b mid new → IsTold at j (a ++ b) old new
IsTold-joined at i j a b old mid new first second =
    let long = length-append a b in
    record {
      counted = λ few. omega (arith, long, first.counted, second.counted);
      beyond = λ many. grind (arith, long, first.counted, first.beyond, second.counted, second.beyond);
      fits = λ within.
          let one = first.fits (omega (arith, long)) in
          let ends = one.written.ends in
          WritesInside-joined at i j a b old mid new one (second.fits (omega (arith, long)));
      room = omega arith;
    }
