-- What the calls of `hex` answered, joined with the digits of a number.
use Rattle.std.specs.Int.{bytes_high_first}
use Rattle.std.proofs.Common.{◌≡◌, ℕ, ◌*◌, length, sym, ap, ◌∙◌, arith, Result, Ok, Err, OnOk, IsOk}
use Rattle.std.proofs.lemmas.Bool.{false≢true}
use Rattle.hex.proofs.HexLemmas.{length-encode_with}
use Rattle.cap_word.proofs.DigitLemmas.{hex_of_bytes, length-hex_digits}

-- at an `Ok` what holds of an `Ok` holds
pub at_ok : {T E P : Type 0} (r : Result T E) → IsOk r → OnOk r P → P
at_ok (Ok x) ok p = p
at_ok (Err e) ok p = absurd (false≢true ok)

-- the bytes of a number are as many as are asked for
pub length-bytes : (k n : ℕ) → length (bytes_high_first k n) ≡ k
length-bytes k n =
    let len = length-encode_with Rattle.hex.specs.Hex.lower_digits (bytes_high_first k n) in
    omega (arith, sym len ∙ ap length (hex_of_bytes k n) ∙ length-hex_digits (2 * k) n)
