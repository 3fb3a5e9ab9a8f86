-- Laws of spellings: which bytes they lack.
use Rattle.std.specs.Prelude.{◌≡◌, ◌≢◌, ℕ, zero, suc, ◌*◌, ◌/◌, ◌%◌, ◌^◌, ◌<◌, ◌≤◌, ℤ, pos, negsuc, true, not, eqb}
use Rattle.std.specs.{Prelude.{nat_lt, List, [], ◌∷◌, length, refl, codes, decimal}, Fmt.signed_decimal, List.list_all}
use Rattle.std.proofs.{Common.{lit≤, arith}, lemmas.Bool.{and_parts, not-true, eqb-false, ltb-true}}
use Rattle.std.proofs.lemmas.{Fmt.decimal_is_IsNumeral, Int.ints}
use Rattle.std.proofs.lemmas.{List.Elements.{All-nil, All-cons, All-get_or, All-from_get_or}, Str.Parse.digit_at}
use lib.Signed.{mag}
use Rattle.cap_word.specs.Digits.{hex_digit, hex_digits}
use Rattle.cap_log.specs.declared.{kinds.Head.Head, lines.Place.{Place, TheVariants.{Register, Granule}}}
use Rattle.cap_log.specs.{Heads.head_spelling, Lines.{IsOffset, IsPlace, IsRegister, place_spelling, register_spelling}}
use Rattle.cap_log.specs.{Parts.{HasNoSpace, Lacks}, Ranges.IsRegisterFrom}
use Rattle.cap_log.specs.declared.kinds.Head.TheVariants as head

-- a test of a literal
pub Lacks-by_test : (c : ℕ) (bytes : List ℕ) → list_all (λ b. not (eqb b c)) bytes ≡ true → Lacks c bytes
Lacks-by_test c [] h = All-nil (λ b. b ≢ c)
Lacks-by_test c (b ∷ bytes) h =
    let both = and_parts (not (eqb b c)) (list_all (λ b. not (eqb b c)) bytes) h in
    All-cons (λ b. b ≢ c) b bytes (eqb-false b c (not-true (eqb b c) both.0)) (Lacks-by_test c bytes both.1)

-- no byte up to a space where a test finds all above it
Lacks-by_above : (c : ℕ) (bytes : List ℕ) → c ≤ 32 → list_all (λ b. nat_lt 32 b) bytes ≡ true → Lacks c bytes
Lacks-by_above c [] low h = All-nil (λ b. b ≢ c)
Lacks-by_above c (b ∷ bytes) low h =
    let both = and_parts (nat_lt 32 b) (list_all (λ b. nat_lt 32 b) bytes) h in
    All-cons (λ b. b ≢ c) b bytes (λ e. omega (arith, ltb-true 32 b both.0)) (Lacks-by_above c bytes low both.1)

-- a byte that is no digit
pub Lacks-hex_digits : (c k n : ℕ) → Lacks c (codes "0123456789abcdef") → Lacks c (hex_digits k n)
unfolding hex_digits
Lacks-hex_digits c zero n lacks = All-nil (λ b. b ≢ c)
Lacks-hex_digits c (suc k) n lacks =
    let digit : n / 16 ^ k % 16 < 16 = omega arith in
    All-cons (λ b. b ≢ c) (hex_digit (n / 16 ^ k % 16)) (hex_digits k n)
    (All-get_or (λ b. b ≢ c) (codes "0123456789abcdef") (n / 16 ^ k % 16) 0 digit lacks)
    (Lacks-hex_digits c k n lacks)

-- a byte that is no digit
pub Lacks-decimal : (c n : ℕ) → c < 48 → n < 2 ^ 64 → Lacks c (decimal n)
Lacks-decimal c n low small =
    All-from_get_or (λ b. b ≢ c) (decimal n) 0 (λ k below e.
    let digit = digit_at (decimal n) k (decimal_is_IsNumeral n small).0.1 below in
    omega (arith, digit.0))

pub Lacks-hex : (c k n : ℕ) → list_all (λ b. not (eqb b c)) (codes "0123456789abcdef") ≡ true → Lacks c (hex_digits k n)
Lacks-hex c k n other = Lacks-hex_digits c k n (Lacks-by_test c (codes "0123456789abcdef") other)

-- registers
pub register-within : (least n : ℕ) → IsRegisterFrom least n → (least ≤ n) × IsRegister n
register-within zero n fits = (omega arith, fits)
register-within (suc least) n fits = fits

pub register-from : (least n : ℕ) → least ≤ n → IsRegister n → IsRegisterFrom least n
register-from zero n low small = small
register-from (suc least) n low small = (low, small)

pub Lacks-register : (c n : ℕ) → c ≤ 32 → IsRegister n → Lacks c (register_spelling n)
Lacks-register c n low small = All-cons (λ b. b ≢ c) 99 (decimal n) (omega arith) (Lacks-decimal c n (omega arith) (omega arith))

pub register-spaceless : (n : ℕ) → IsRegister n → HasNoSpace (register_spelling n)
register-spaceless n small = Lacks-register 32 n (omega arith) small

-- numbers of 64 bits, and places
pub number-spaceless : (n : ℕ) → HasNoSpace (hex_digits 16 n)
number-spaceless n = Lacks-hex 32 16 n refl

pub place-spaceless : (a : Place) → IsPlace a → HasNoSpace (place_spelling a)
place-spaceless (Register n) fits = register-spaceless n fits.1
place-spaceless (Granule n) fits = All-cons (λ b. b ≢ 32) 64 (hex_digits 16 (16 * n)) (omega arith) (number-spaceless (16 * n))

-- offsets
pub offset-mag : (z : ℤ) → IsOffset z → mag z ≤ 2047
offset-mag (pos n) fits = omega (arith, ints)
offset-mag (negsuc n) fits = omega (arith, ints)

pub Lacks-signed : (c : ℕ) (z : ℤ) → c < 45 → IsOffset z → Lacks c (signed_decimal z)
Lacks-signed c (pos n) low fits = let small = offset-mag (pos n) fits in Lacks-decimal c n (omega arith) (omega arith)
Lacks-signed c (negsuc n) low fits =
    let small = offset-mag (negsuc n) fits in
    All-cons (λ b. b ≢ c) 45 (decimal (suc n)) (omega arith) (Lacks-decimal c (suc n) (omega arith) (omega arith))

pub offset-spaceless : (z : ℤ) → IsOffset z → HasNoSpace (signed_decimal z)
offset-spaceless z fits = Lacks-signed 32 z (omega arith) fits

-- a head has few bytes, all above a space
pub head-plain : (h : Head) → (list_all (λ b. nat_lt 32 b) (head_spelling h) ≡ true) × (length (head_spelling h) ≤ 14)
head-plain head.Version = (refl, lit≤ tt)
head-plain h = (refl, lit≤ tt)

pub Lacks-head : (c : ℕ) (h : Head) → c ≤ 32 → Lacks c (head_spelling h)
Lacks-head c h low = Lacks-by_above c (head_spelling h) low (head-plain h).0

pub head-spaceless : (h : Head) → HasNoSpace (head_spelling h)
head-spaceless h = Lacks-head 32 h (omega arith)

-- words, and numbers of any so many digits
pub digits-spaceless : (k n : ℕ) → HasNoSpace (hex_digits k n)
digits-spaceless k n = Lacks-hex 32 k n refl

pub decimal-spaceless : (n : ℕ) → n < 2 ^ 32 → HasNoSpace (decimal n)
decimal-spaceless n small = Lacks-decimal 32 n (omega arith) (omega arith)
