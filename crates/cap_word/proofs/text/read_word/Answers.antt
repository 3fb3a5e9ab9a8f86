use Rattle.std.proofs.Common.{◌≡◌, ℕ, false, eqb, ◌+◌, ◌*◌, ◌/◌, ◌%◌, ◌<◌, ◌^◌, List, length, refl, sym, ap, ◌∙◌, arith}
use Rattle.std.proofs.{Common.{eq-eqb, eqb-true}, lemmas.Bool.{false≢true}}
use Rattle.cap_word.specs.Digits.{hex_digits}
use Rattle.cap_word.proofs.{DigitLemmas.length-hex_digits, ReadingLemmas.{back_half, front_half, hex_digits-same}}
use Rattle.cap_word.proofs.ReadingLemmas.{joined_halves, not_digits, some_digits}
use Rattle.cap_word.proofs.text.read_word.Goals as goal

-- a word's text has 32 bytes
long : (n : ℕ) (text : List ℕ) → text ≡ hex_digits 32 n → length text ≡ 32
long n text e = ap length e ∙ length-hex_digits 32 n

-- and none behind them
more : (n : ℕ) (text back rest : List ℕ) → length back + 16 ≡ length text → length rest + 16 ≡ length back
    → false ≡ eqb (length rest) 0 → text ≡ hex_digits 32 n → ⊥
more n text back rest first second some e =
    false≢true (some ∙ eq-eqb (length rest) 0 (omega (arith, first, second, long n text e)))

pub returns-in_err-high-clause-none : goal.returns-in_err-high-clause-none
returns-in_err-high-clause-none c = rw c.from_residual.ensures
    (λ n small e. let most = c.in_err-high.ensures.cases in omega (arith, most, long n c.args.text.now e))

pub returns-in_err-high-clause-reads_back : goal.returns-in_err-high-clause-reads_back
returns-in_err-high-clause-reads_back c n small e =
    let most = c.in_err-high.ensures.cases in absurd (omega (arith, most, long n c.args.text.now e))

pub returns-in_err-low-clause-none : goal.returns-in_err-low-clause-none
returns-in_err-low-clause-none c = rw c.from_residual-in_err-low.ensures
    (λ n small e. let most = c.in_err-low.ensures.cases in omega (arith, most, c.in_ok-high.ensures.cases.2, long n c.args.text.now e))

pub returns-in_err-low-clause-reads_back : goal.returns-in_err-low-clause-reads_back
returns-in_err-low-clause-reads_back c n small e =
    let most = c.in_err-low.ensures.cases in absurd (omega (arith, most, c.in_ok-high.ensures.cases.2, long n c.args.text.now e))

pub returns-then-not-is_empty-clause-none : goal.returns-then-not-is_empty-clause-none
returns-then-not-is_empty-clause-none c n small e = more n c.args.text.now _ _ c.in_ok-high.ensures.cases.2 c.in_ok-low.ensures.cases.2
    (sym c.if-not-is_empty.true ∙ c.is_empty.ensures) e

pub returns-then-not-is_empty-clause-reads_back : goal.returns-then-not-is_empty-clause-reads_back
returns-then-not-is_empty-clause-reads_back c n small e = absurd (more n c.args.text.now _ _ c.in_ok-high.ensures.cases.2
    c.in_ok-low.ensures.cases.2 (sym c.if-not-is_empty.true ∙ c.is_empty.ensures) e)

pub returns-in_err-high-2-clause-none : goal.returns-in_err-high-2-clause-none
returns-in_err-high-2-clause-none c = rw c.from_residual-in_err-high-2.ensures
    (λ n small e. c.in_err-high-2.ensures.none (n / 2 ^ 64) (omega (arith, small)) (front_half n c.args.text.now _ c.in_ok-high.ensures.cases.0 e))

pub returns-in_err-high-2-clause-digits : goal.returns-in_err-high-2-clause-digits
returns-in_err-high-2-clause-digits c = rw c.from_residual-in_err-high-2.ensures (
  λ some. absurd (false≢true some),
  λ are. absurd (not_digits 32 c.args.text.now (λ n small e.
      c.in_err-high-2.ensures.none (n / 2 ^ 64) (omega (arith, small)) (front_half n c.args.text.now _ c.in_ok-high.ensures.cases.0 e)) are),
)

pub returns-in_err-high-2-clause-reads_back : goal.returns-in_err-high-2-clause-reads_back
returns-in_err-high-2-clause-reads_back c n small e = absurd
    (c.in_err-high-2.ensures.none (n / 2 ^ 64) (omega (arith, small)) (front_half n c.args.text.now _ c.in_ok-high.ensures.cases.0 e))

pub returns-in_err-low-2-clause-none : goal.returns-in_err-low-2-clause-none
returns-in_err-low-2-clause-none c = rw c.from_residual-in_err-low-2.ensures (λ n small e.
    c.in_err-low-2.ensures.none (n % 2 ^ 64) (omega arith)
    (back_half n c.args.text.now _ _ c.in_ok-high.ensures.cases.1 c.in_ok-low.ensures.cases.0 e))

pub returns-in_err-low-2-clause-digits : goal.returns-in_err-low-2-clause-digits
returns-in_err-low-2-clause-digits c = rw c.from_residual-in_err-low-2.ensures (
  λ some. absurd (false≢true some),
  λ are. absurd (not_digits 32 c.args.text.now (λ n small e.
      c.in_err-low-2.ensures.none (n % 2 ^ 64) (omega arith)
      (back_half n c.args.text.now _ _ c.in_ok-high.ensures.cases.1 c.in_ok-low.ensures.cases.0 e)) are),
)

pub returns-in_err-low-2-clause-reads_back : goal.returns-in_err-low-2-clause-reads_back
returns-in_err-low-2-clause-reads_back c n small e = absurd
    (c.in_err-low-2.ensures.none (n % 2 ^ 64) (omega arith)
    (back_half n c.args.text.now _ _ c.in_ok-high.ensures.cases.1 c.in_ok-low.ensures.cases.0 e))

-- two halves that were read and have nothing behind them are a word's text
whole : (c : goal.After-from-2) → c.args.text.now ≡ hex_digits 32 (c.from.result * 2 ^ 64 % 2 ^ 128 + c.from-2.result)
whole c =
    let none = eqb-true (length c.in_ok-low.rest.now) 0 (sym c.is_empty.ensures ∙ c.if-not-is_empty.false) in
    let long : length c.args.text.now ≡ 32 = omega (arith, none, c.in_ok-high.ensures.cases.2, c.in_ok-low.ensures.cases.2) in
    let number : c.in_ok-high-2.high * 2 ^ 64 + c.in_ok-low-2.low ≡ c.from.result * 2 ^ 64 % 2 ^ 128 + c.from-2.result =
    omega (arith, c.from.ensures, c.from-2.ensures, c.in_ok-high-2.ensures.fits) in
    joined_halves c.in_ok-high-2.high c.in_ok-low-2.low c.args.text.now _ _ _ c.in_ok-low-2.ensures.fits long
    c.in_ok-high.ensures.cases.0 c.in_ok-high.ensures.cases.1 c.in_ok-low.ensures.cases.0 c.in_ok-high-2.ensures.some c.in_ok-low-2.ensures.some
    ∙ ap (hex_digits 32) number

pub returns-clause-some : goal.returns-clause-some
returns-clause-some c = whole c

pub returns-clause-digits : goal.returns-clause-digits
returns-clause-digits c = (λ _. some_digits 32 _ c.args.text.now (whole c), λ _. refl)

pub returns-clause-reads_back : goal.returns-clause-reads_back
returns-clause-reads_back c n small e =
    let number : c.from.result * 2 ^ 64 % 2 ^ 128 + c.from-2.result < 2 ^ 128 =
    omega (arith, c.from.ensures, c.from-2.ensures, c.in_ok-high-2.ensures.fits, c.in_ok-low-2.ensures.fits) in
    hex_digits-same 32 _ n number small (sym (whole c) ∙ e)
