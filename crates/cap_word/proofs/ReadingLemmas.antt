-- Hexadecimal digits name one number, are just the bytes `0` to `9` and `a` to `f`, and can be put side by side.
use Rattle.std.specs.Char.{digit_value}
use Rattle.std.proofs.Common.{◌≡◌, ◌+◌, ◌-◌, ◌*◌, ◌/◌, ◌%◌, ◌^◌, ◌<◌, ◌≤◌, ◌∷◌, ◌++◌, ◌∙◌, ℕ, zero, suc, true, false}
use Rattle.std.proofs.Common.{eqb, List, [], length, take, drop, sym, ap, refl, inl, inr, arith, subst, length-append}
use Rattle.std.proofs.Common.{append-nil, All, pow-add, eqb-true, eq-eqb, take-append-drop, take-take, take_all}
use Rattle.std.proofs.{Math.Seq.{take-append_seam, drop-append_seam}, lemmas.Bool.{agree_below_at, cases_lt}}
use Rattle.std.proofs.lemmas.{Bool.{false≢true}, List.Elements.{All-nil, All-cons, All-head, All-tail}, Nat.div-mul-add}
use Rattle.std.proofs.Math.Nat as nat
use Rattle.cap_word.specs.Digits.{hex_digit, hex_digits, IsHexDigit, AreHexDigits}
use Rattle.cap_word.proofs.DigitLemmas.{hex_digits-suc, length-hex_digits}

-- the value of a digit
pub digit_value-hex_digit : (d : ℕ) → d < 16 → digit_value (hex_digit d) ≡ d
digit_value-hex_digit d lt = eqb-true (digit_value (hex_digit d)) d
    (agree_below_at (λ d. eqb (digit_value (hex_digit d)) d) (λ _. true) 16 d refl lt)

-- the digits below a place, and the digit at it
place_and_rest : (p q r d m n t : ℕ) → n ≡ p * q + m → q ≡ 16 * r + d → t ≡ n - r * (p * 16) → t ≡ m + p * d
place_and_rest p q r d m n t whole parts below =
    let product : p * q ≡ p * (16 * r + d) = ap (λ (x : ℕ). p * x) parts in
    omega arith

mod-next : (k n : ℕ) → n % 16 ^ suc k ≡ n % 16 ^ k + 16 ^ k * (n / 16 ^ k % 16)
mod-next k n =
    let below : n % (16 ^ k * 16) ≡ n - n / 16 ^ k / 16 * (16 ^ k * 16) =
    nat.mod-eq-sub-div-mul n (16 ^ k * 16) ∙ ap (λ (q : ℕ). n - q * (16 ^ k * 16)) (sym (nat.div-div-eq-div-mul n (16 ^ k) 16)) in
    let whole : n ≡ 16 ^ k * (n / 16 ^ k) + n % 16 ^ k = sym (nat.div-add-mod n (16 ^ k)) in
    ap (λ (p : ℕ). n % p) (nat.pow-suc 16 k)
    ∙ place_and_rest (16 ^ k) (n / 16 ^ k) (n / 16 ^ k / 16) (n / 16 ^ k % 16) (n % 16 ^ k) n (n % (16 ^ k * 16)) whole (omega arith) below

same_rest : (k m n : ℕ) → hex_digits k m ≡ hex_digits k n → m % 16 ^ k ≡ n % 16 ^ k
unfolding hex_digits
same_rest zero m n e = omega arith
same_rest (suc k) m n e =
    let rest : hex_digits k m ≡ hex_digits k n = cc in
    let first : hex_digit (m / 16 ^ k % 16) ≡ hex_digit (n / 16 ^ k % 16) = cc in
    let below = same_rest k m n rest in
    let digit = sym (digit_value-hex_digit (m / 16 ^ k % 16) (omega arith)) ∙ ap digit_value first
    ∙ digit_value-hex_digit (n / 16 ^ k % 16) (omega arith) in
    mod-next k m ∙ (ap (λ (x : ℕ). x + 16 ^ k * (m / 16 ^ k % 16)) below ∙ ap (λ (d : ℕ). n % 16 ^ k + 16 ^ k * d) digit)
    ∙ sym (mod-next k n)

-- two numbers of k digits with the same digits are one
pub hex_digits-same : (k m n : ℕ) → m < 16 ^ k → n < 16 ^ k → hex_digits k m ≡ hex_digits k n → m ≡ n
hex_digits-same k m n small small' e = sym (nat.mod-eq_of_lt small) ∙ same_rest k m n e ∙ nat.mod-eq_of_lt small'

-- a multiple of a power of 16 leaves the digits below it alone
turned : (p c h l : ℕ) → h * (p * (16 * c)) + l ≡ l + p * (16 * (h * c))
turned p c h l = grind arith

low_digit : (p c h l : ℕ) → 0 < p → (h * (p * (16 * c)) + l) / p % 16 ≡ l / p % 16
low_digit p c h l pos = rw (turned p c h l, nat.add-mul-div_left l (16 * (h * c)) pos) (omega arith)

pub pow_pos_16 : (m : ℕ) → 0 < 16 ^ m
pow_pos_16 zero = omega arith
pow_pos_16 (suc m) = omega (arith, nat.pow-suc 16 m, pow_pos_16 m)

nat-power : (m c : ℕ) → 16 ^ suc m * c ≡ 16 ^ m * (16 * c)
nat-power m c = rw (nat.pow-suc 16 m) (grind arith)

nat-turned : {x : ℕ} (a b : ℕ) → x ≡ a * b → x ≡ b * a
nat-turned a b e = e ∙ nat.mul_comm a b

hex_digits-low : (m c h l : ℕ) → hex_digits m (h * (16 ^ m * c) + l) ≡ hex_digits m l
unfolding hex_digits
hex_digits-low zero c h l = refl
hex_digits-low (suc m) c h l =
    let power : 16 ^ suc m * c ≡ 16 ^ m * (16 * c) = nat-power m c in
    rw (power, low_digit (16 ^ m) c h l (pow_pos_16 m), hex_digits-low m (16 * c) h l) refl

pub hex_digits-joined : (k m h l : ℕ) → l < 16 ^ m → hex_digits (k + m) (h * 16 ^ m + l) ≡ hex_digits k h ++ hex_digits m l
unfolding hex_digits
hex_digits-joined zero m h l small =
    let one : h * 16 ^ m ≡ h * (16 ^ m * 1) = grind arith in
    let start : 0 + m ≡ m = omega arith in
    rw (start, one) (hex_digits-low m 1 h l)
hex_digits-joined (suc k) m h l small =
    let count : suc k + m ≡ suc (k + m) = omega arith in
    let power : 16 ^ (k + m) ≡ 16 ^ m * 16 ^ k = nat-turned (16 ^ k) (16 ^ m) (pow-add 16 k m) in
    let quotient : (h * 16 ^ m + l) / 16 ^ m / 16 ^ k
    ≡ (h * 16 ^ m + l) / (16 ^ m * 16 ^ k) = nat.div-div-eq-div-mul (h * 16 ^ m + l) (16 ^ m) (16 ^ k) in
    let first : (h * 16 ^ m + l) / 16 ^ (k + m) ≡ h / 16 ^ k =
    ap (λ (p : ℕ). (h * 16 ^ m + l) / p) power ∙ sym quotient ∙ ap (λ (q : ℕ). q / 16 ^ k) (div-mul-add h (16 ^ m) l small) in
    rw (count, hex_digits-suc (k + m) (h * 16 ^ m + l), first, hex_digits-joined k m h l small) refl

-- the first ten digits are `0` to `9`, the others `a` to `f`
hex_digit-decimal : (d : ℕ) → d < 10 → hex_digit d ≡ 48 + d
hex_digit-decimal d lt = eqb-true (hex_digit d) (48 + d) (agree_below_at (λ d. eqb (hex_digit d) (48 + d)) (λ _. true) 10 d refl lt)

hex_digit-letter : (d : ℕ) → d < 6 → hex_digit (10 + d) ≡ 97 + d
hex_digit-letter d lt = eqb-true (hex_digit (10 + d)) (97 + d)
    (agree_below_at (λ d. eqb (hex_digit (10 + d)) (97 + d)) (λ _. true) 6 d refl lt)

IsHexDigit-hex_digit : (d : ℕ) → d < 16 → IsHexDigit (hex_digit d)
IsHexDigit-hex_digit d lt = elim (cases_lt d 10) [
  | inl small ↦ let e = hex_digit-decimal d small in inl (omega arith, omega arith)
  | inr high ↦
      let e = hex_digit-letter (d - 10) (omega arith) in
      let f : 10 + (d - 10) ≡ d = omega arith in
      let g : hex_digit d ≡ 97 + (d - 10) = ap hex_digit (sym f) ∙ e in
      inr (omega arith, omega arith)
]

-- a byte that is a digit is that of some value
digit_of : (byte : ℕ) → IsHexDigit byte → (d : ℕ) × (d < 16) × (byte ≡ hex_digit d)
digit_of byte is = elim is [
  | inl h ↦ (
    byte - 48,
    omega arith,
    (let e : 48 + (byte - 48) ≡ byte = omega arith in sym e)
        ∙ sym (hex_digit-decimal (byte - 48) (omega arith)),
  )
  | inr h ↦ (
    10 + (byte - 97),
    omega arith,
    (let e : 97 + (byte - 97) ≡ byte = omega arith in sym e)
        ∙ sym (hex_digit-letter (byte - 97) (omega arith)),
  )
]

-- the digits of a number are digits
All-hex_digits : (k n : ℕ) → All IsHexDigit (hex_digits k n)
unfolding hex_digits
All-hex_digits zero n = All-nil IsHexDigit
All-hex_digits (suc k) n = All-cons IsHexDigit _ _ (IsHexDigit-hex_digit (n / 16 ^ k % 16) (omega arith)) (All-hex_digits k n)

pub AreHexDigits-hex_digits : (k n : ℕ) → AreHexDigits k (hex_digits k n)
AreHexDigits-hex_digits k n = (length-hex_digits k n, All-hex_digits k n)

-- digits are those of some number
number_from : (text : List ℕ) → All IsHexDigit text → (n : ℕ) × (n < 16 ^ length text) × (text ≡ hex_digits (length text) n)
unfolding hex_digits
number_from [] all = (0, omega arith, refl)
number_from (x ∷ xs) all =
    let rest = number_from xs (All-tail IsHexDigit x xs all) in
    let first = digit_of x (All-head IsHexDigit x xs all) in
    let p = 16 ^ length xs in
    let power : 16 ^ suc (length xs) ≡ 16 ^ length xs * 16 = nat.pow-suc 16 (length xs) in
    let most : first.0 * p ≤ 15 * p = nat.mul-le-mul_right p (omega (arith, first.1)) in
    let fits : first.0 * p + rest.0 < 16 ^ suc (length xs) = omega (arith, rest.1) in
    let high : (first.0 * p + rest.0) / p % 16 ≡ first.0 = omega (arith, div-mul-add first.0 p rest.0 rest.1, first.1) in
    let one : first.0 * p + rest.0 ≡ first.0 * (p * 1) + rest.0 = grind arith in
    let low : hex_digits (length xs) (first.0 * p + rest.0) ≡ hex_digits (length xs) rest.0 = ap (hex_digits (length xs)) one
    ∙ hex_digits-low (length xs) 1 first.0 rest.0 in (
      first.0 * p + rest.0,
      fits,
      ap (λ y. y ∷ xs) (first.2 ∙ ap hex_digit (sym high))
          ∙ ap (λ ys. hex_digit ((first.0 * p + rest.0) / p % 16) ∷ ys) (rest.2 ∙ sym low),
    )

-- where a text is the digits of no number, it is no digits
pub not_digits : (k : ℕ) (text : List ℕ) → ((n : ℕ) → n < 16 ^ k → text ≡ hex_digits k n → ⊥) → AreHexDigits k text → ⊥
not_digits k text none are =
    let n = number_from text are.1 in
    none n.0 (subst (λ (l : ℕ). n.0 < 16 ^ l) are.0 n.1) (n.2 ∙ ap (λ (l : ℕ). hex_digits l n.0) are.0)

-- the parts of a text that begins with the digits of a number
pub take-hex_digits : (k n : ℕ) (rest : List ℕ) → take k (hex_digits k n ++ rest) ≡ hex_digits k n
take-hex_digits k n rest = ap (λ (l : ℕ). take l (hex_digits k n ++ rest)) (sym (length-hex_digits k n))
    ∙ take-append_seam (hex_digits k n) rest

pub drop-hex_digits : (k n : ℕ) (rest : List ℕ) → drop k (hex_digits k n ++ rest) ≡ rest
drop-hex_digits k n rest = ap (λ (l : ℕ). drop l (hex_digits k n ++ rest)) (sym (length-hex_digits k n))
    ∙ drop-append_seam (hex_digits k n) rest

-- the halves of thirty-two digits
pub hex_digits-halves : (n : ℕ) → hex_digits 32 n ≡ hex_digits 16 (n / 2 ^ 64) ++ hex_digits 16 (n % 2 ^ 64)
hex_digits-halves n =
    let whole : n / 2 ^ 64 * 16 ^ 16 + n % 2 ^ 64 ≡ n = omega arith in
    ap (hex_digits 32) (sym whole) ∙ hex_digits-joined 16 16 (n / 2 ^ 64) (n % 2 ^ 64) (omega arith)

-- and those of a text, cut in its middle
pub front_half : (n : ℕ) (text high : List ℕ) → high ≡ take 16 text → text ≡ hex_digits 32 n → take 16 high ≡ hex_digits 16 (n / 2 ^ 64)
front_half n text high front e =
    ap (take 16) front ∙ take-take 16 16 text (omega arith) ∙ ap (take 16) (e ∙ hex_digits-halves n)
    ∙ take-hex_digits 16 (n / 2 ^ 64) (hex_digits 16 (n % 2 ^ 64))

pub back_half : (n : ℕ) (text back low : List ℕ) → back ≡ drop 16 text → low ≡ take 16 back → text ≡ hex_digits 32 n
    → take 16 low ≡ hex_digits 16 (n % 2 ^ 64)
back_half n text back low behind front e =
    let is = behind ∙ ap (drop 16) (e ∙ hex_digits-halves n) ∙ drop-hex_digits 16 (n / 2 ^ 64) (hex_digits 16 (n % 2 ^ 64)) in
    ap (take 16) front ∙ take-take 16 16 back (omega arith) ∙ ap (take 16) is
    ∙ take_all 16 (hex_digits 16 (n % 2 ^ 64)) (omega (arith, length-hex_digits 16 (n % 2 ^ 64)))

pub joined_halves : (h l : ℕ) (text high back low : List ℕ) → l < 2 ^ 64 → length text ≡ 32 → high ≡ take 16 text → back ≡ drop 16 text
    → low ≡ take 16 back → take 16 high ≡ hex_digits 16 h → take 16 low ≡ hex_digits 16 l → text ≡ hex_digits 32 (h * 2 ^ 64 + l)
joined_halves h l text high back low small long front behind next reads reads' =
    let first = sym (take-take 16 16 text (omega arith)) ∙ ap (take 16) (sym front) ∙ reads in
    let split = take-append-drop 16 text in
    let short : length back ≤ 16 = omega (
      arith,
      long,
      ap length split,
      ap length behind,
      length-append (take 16 text) (drop 16 text),
      ap length first,
      length-hex_digits 16 h,
    ) in
    let second = sym behind ∙ sym (take_all 16 back short) ∙ sym (take-take 16 16 back (omega arith)) ∙ ap (take 16) (sym next) ∙ reads' in
    sym split ∙ ap (λ a. a ++ drop 16 text) first ∙ ap (λ b. hex_digits 16 h ++ b) second
    ∙ sym (hex_digits-joined 16 16 h l small)

-- a text that is the digits of a number is digits
pub some_digits : (k n : ℕ) (text : List ℕ) → text ≡ hex_digits k n → AreHexDigits k text
some_digits k n text e = subst (λ (t : List ℕ). AreHexDigits k t) (sym e) (AreHexDigits-hex_digits k n)

-- a whole text, with nothing behind it
pub ended : (k n : ℕ) (text : List ℕ) → text ≡ hex_digits k n → text ≡ hex_digits k n ++ []
ended k n text e = e ∙ sym (append-nil (hex_digits k n))

-- where a text begins with the digits of a number and no more stands behind them, it is these digits
pub whole : (k n : ℕ) (text rest : List ℕ) → text ≡ hex_digits k n ++ rest → true ≡ eqb (length rest) 0 → text ≡ hex_digits k n
whole k n text [] e none = e ∙ append-nil (hex_digits k n)
whole k n text (x ∷ rest) e none = let zero : length (x ∷ rest) ≡ 0 = eqb-true (length (x ∷ rest)) 0 (sym none) in absurd (omega arith)

-- and where more stands behind them, it is the digits of no number
pub longer : (k m n : ℕ) (text rest : List ℕ) → text ≡ hex_digits k m ++ rest → false ≡ eqb (length rest) 0 → text ≡ hex_digits k n → ⊥
longer k m n text rest begins more e =
    let long : length (hex_digits k m ++ rest) ≡ length (hex_digits k n) = ap length (sym begins ∙ e) in
    let none : length rest ≡ 0 = omega (arith, long, length-append (hex_digits k m) rest, length-hex_digits k m, length-hex_digits k n) in
    false≢true (more ∙ eq-eqb (length rest) 0 none)
