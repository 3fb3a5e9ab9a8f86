-- The mantissa T that B, the low twelve bits of T and IE determine, and its span.
use Rattle.std.proofs.Common.{◌≡◌, ℕ, ◌+◌, ◌%◌, ◌^◌, ◌<◌, Bool, true, false, arith}
use Rattle.cap_bounds.specs.Bounds.{IsMantissa, mantissa_of, span_at, span_of}

pub span_at-lt : (b low : ℕ) (ie : Bool) → span_at b low ie < 2 ^ 13
span_at-lt b low true = omega arith
span_at-lt b low false = omega arith

pub mantissa_is : (b low : ℕ) (ie : Bool) → mantissa_of b low ie ≡ (b + span_at b low ie) % 2 ^ 14
unfolding mantissa_of
mantissa_is b low true = omega arith
mantissa_is b low false = omega arith

pub span_of-mantissa_of : (b low : ℕ) (ie : Bool) → b < 2 ^ 14 → span_of b (mantissa_of b low ie) ≡ span_at b low ie
unfolding mantissa_of
span_of-mantissa_of b low true h = omega arith
span_of-mantissa_of b low false h = omega arith

pub IsMantissa-mantissa_of : (b low : ℕ) (ie : Bool) → b < 2 ^ 14 → low < 2 ^ 12 → IsMantissa b low ie (mantissa_of b low ie)
unfolding mantissa_of
IsMantissa-mantissa_of b low true h k =
    record { fits = omega arith; low_bits = omega arith; span_from = omega arith; span_below = omega arith }
IsMantissa-mantissa_of b low false h k =
    record { fits = omega arith; low_bits = omega arith; span_from = omega arith; span_below = omega arith }

pub IsMantissa-unique : (b low : ℕ) (ie : Bool) (t : ℕ) → b < 2 ^ 14 → IsMantissa b low ie t → t ≡ mantissa_of b low ie
unfolding mantissa_of
IsMantissa-unique b low true t h m = omega (arith, m.fits, m.low_bits, m.span_from, m.span_below)
IsMantissa-unique b low false t h m = omega (arith, m.fits, m.low_bits, m.span_from, m.span_below)
