-- The bytes of a word in memory as text.
use Rattle.std.specs.Int.{bytes_high_first}
use Rattle.std.proofs.Common.{◌≡◌, ℕ, zero, suc, ◌+◌, ◌*◌, ◌/◌, ◌%◌, ◌^◌, ◌<◌, ◌≤◌, List, [], ◌∷◌, length, refl, sym}
use Rattle.std.proofs.Common.{ap, subst, ◌∙◌, arith, lit<, div-one, pow-suc, mul-le-mul_right, bit_xor}
use Rattle.std.proofs.{Math.Nat.{mul-add-div_right, div-div-eq-div-mul}, lemmas.Nat.div-mul-add}
use Rattle.hex.specs.Hex.{encode_with, encode_lower, IsBytes}
use Rattle.cap_word.specs.{Digits.{hex_digit, hex_digits}, Memory.{low_bytes, memory_of}, Word.null_word}
use Rattle.cap_word.proofs.{Bytes.length-memory_of, DigitLemmas.{hex_of_bytes, IsBytes-bytes_high_first}}
use Rattle.cap_word.proofs.ReadingLemmas.{pow_pos_16}
use Rattle.cap_texts.specs.TextLines.{bytes_text}

two_digits : (byte : ℕ) → byte < 256 → hex_digits 2 byte ≡ hex_digit (byte / 16) ∷ hex_digit (byte % 16) ∷ []
unfolding hex_digits
two_digits byte small =
    let high : byte / 16 % 16 ≡ byte / 16 = omega arith in
    ap (λ (d : ℕ). hex_digit d ∷ hex_digit (byte / 1 % 16) ∷ []) high ∙ ap
    (λ (n : ℕ). hex_digit (byte / 16) ∷ hex_digit (n % 16) ∷ []) (div-one byte)

-- the text that `hex` writes is two digits for each byte
pub bytes_text-is : (bytes : List ℕ) → IsBytes bytes → encode_lower bytes ≡ bytes_text bytes
unfolding encode_with bytes_text
bytes_text-is [] small = refl
bytes_text-is (byte ∷ bytes) small = rw (two_digits byte (small 0), ← bytes_text-is bytes (λ i. small (suc i))) refl

IsBytes-low_bytes : (k n : ℕ) → IsBytes (low_bytes k n)
unfolding low_bytes
IsBytes-low_bytes zero n i = lit< tt
IsBytes-low_bytes (suc k) n zero = omega arith
IsBytes-low_bytes (suc k) n (suc i) = IsBytes-low_bytes k (n / 256) i

pub IsBytes-memory_of : (w : ℕ) → IsBytes (memory_of w)
IsBytes-memory_of w = IsBytes-low_bytes 16 (bit_xor w null_word)

-- the last digits don't depend on what stands above them
hex_digits-higher : (k c n : ℕ) → hex_digits k (c * 16 ^ k + n) ≡ hex_digits k n
unfolding hex_digits
hex_digits-higher zero c n = refl
hex_digits-higher (suc k) c n =
    let power = pow-suc 16 k in
    let regrouped : c * 16 ^ suc k + n ≡ (c * 16) * 16 ^ k + n = rw (power) (omega arith) in
    let quotient = mul-add-div_right {m = 16 ^ k} (pow_pos_16 k) (c * 16) n in
    let digit : (c * 16 + n / 16 ^ k) % 16 ≡ n / 16 ^ k % 16 = omega arith in
    ap (hex_digits (suc k)) regrouped
    ∙ ap (λ (d : ℕ). hex_digit (d % 16) ∷ hex_digits k ((c * 16) * 16 ^ k + n)) quotient
    ∙ ap (λ (d : ℕ). hex_digit d ∷ hex_digits k ((c * 16) * 16 ^ k + n)) digit
    ∙ ap (λ (digits : List ℕ). hex_digit (n / 16 ^ k % 16) ∷ digits) (hex_digits-higher k (c * 16) n)

-- a byte above a number: two digits more
hex_digits-byte : (k byte n : ℕ) → byte < 256 → n < 16 ^ k
    → hex_digits (suc (suc k)) (byte * 16 ^ k + n) ≡ hex_digit (byte / 16) ∷ hex_digit (byte % 16) ∷ hex_digits k n
unfolding hex_digits
hex_digits-byte k byte n small fits =
    let quotient = div-mul-add byte (16 ^ k) n fits in
    let halved : (byte * 16 ^ k + n) / 16 ^ suc k ≡ byte / 16 =
    ap (λ (d : ℕ). (byte * 16 ^ k + n) / d) (pow-suc 16 k) ∙ sym (div-div-eq-div-mul (byte * 16 ^ k + n) (16 ^ k) 16)
    ∙ ap (λ (q : ℕ). q / 16) quotient in
    let high : byte / 16 % 16 ≡ byte / 16 = omega arith in
    rw (halved, quotient, high, hex_digits-higher k byte n) refl

-- bytes as text are the digits of a number
spelled_bytes : (bytes : List ℕ) → IsBytes bytes
    → (n : ℕ) × (n < 16 ^ (2 * length bytes)) × (encode_lower bytes ≡ hex_digits (2 * length bytes) n)
unfolding encode_with hex_digits
spelled_bytes [] small = (0, lit< tt, refl)
spelled_bytes (byte ∷ bytes) small =
    let rest = spelled_bytes bytes (λ i. small (suc i)) in
    let k = 2 * length bytes in
    let twice : 2 * suc (length bytes) ≡ suc (suc k) = omega arith in
    let byte_fits : byte < 256 = small 0 in
    let below : byte * 16 ^ k ≤ 255 * 16 ^ k = mul-le-mul_right (16 ^ k) (let le : byte ≤ 255 = omega arith in le) in
    let fits : byte * 16 ^ k + rest.0 < 16 ^ suc (suc k) = omega (arith, pow-suc 16 (suc k), pow-suc 16 k, rest.1, below) in
    let text : hex_digit (byte / 16) ∷ hex_digit (byte % 16) ∷ encode_lower bytes ≡ hex_digits (suc (suc k)) (byte * 16 ^ k + rest.0) =
    ap (λ (digits : List ℕ). hex_digit (byte / 16) ∷ hex_digit (byte % 16) ∷ digits) rest.2
    ∙ sym (hex_digits-byte k byte rest.0 byte_fits rest.1) in
    (byte * 16 ^ k + rest.0, rw twice fits, rw twice text)

-- the bytes of a word in memory as text are the digits of a number of 128 bits
pub spelled_memory : (w : ℕ) → (n : ℕ) × (n < 2 ^ 128) × (bytes_text (memory_of w) ≡ hex_digits 32 n)
spelled_memory w =
    let bytes = memory_of w in
    let spelled = spelled_bytes bytes (IsBytes-memory_of w) in
    let count : 2 * length bytes ≡ 32 = omega (arith, length-memory_of w) in (
      spelled.0,
      subst (λ (k : ℕ). spelled.0 < 16 ^ k) count spelled.1,
      sym (bytes_text-is bytes (IsBytes-memory_of w)) ∙ subst (λ (k : ℕ). encode_lower bytes ≡ hex_digits k spelled.0) count spelled.2,
    )

-- the sixteen bytes of a number, most significant first, as text are its digits
pub bytes_text-number : (n : ℕ) → bytes_text (bytes_high_first 16 n) ≡ hex_digits 32 n
bytes_text-number n = sym (bytes_text-is (bytes_high_first 16 n) (IsBytes-bytes_high_first 16 n)) ∙ hex_of_bytes 16 n
