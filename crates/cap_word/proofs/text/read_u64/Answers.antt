use Rattle.std.proofs.{Common.{[], Some, refl, sym, ap, ◌∙◌, rules}, lemmas.Bool.{false≢true}}
use Rattle.cap_word.proofs.ReadingLemmas.{hex_digits-same, not_digits, some_digits, ended, whole, longer}
use Rattle.cap_word.proofs.text.read_u64.Goals as goal

pub returns-in_err-number-clause-none : goal.returns-in_err-number-clause-none
returns-in_err-number-clause-none c = rw c.from_residual.ensures
    (λ n small e. c.in_err-number.ensures.none n [] small (ended 16 n c.args.text.now e))

pub returns-in_err-number-clause-digits : goal.returns-in_err-number-clause-digits
returns-in_err-number-clause-digits c = rw c.from_residual.ensures (
  λ some. absurd (false≢true some),
  λ are. absurd (not_digits 16 c.args.text.now (λ n small e. c.in_err-number.ensures.none n [] small (ended 16 n c.args.text.now e)) are),
)

pub returns-in_err-number-clause-reads_back : goal.returns-in_err-number-clause-reads_back
returns-in_err-number-clause-reads_back c n small e = absurd (c.in_err-number.ensures.none n [] small (ended 16 n c.args.text.now e))

pub returns-then-is_empty-clause-digits : goal.returns-then-is_empty-clause-digits
returns-then-is_empty-clause-digits c = (
  λ _. some_digits 16 c.in_ok-number.number c.args.text.now
      (whole 16 c.in_ok-number.number c.args.text.now c.in_ok-number.rest.now c.in_ok-number.ensures.some c.if-is_empty.ensures),
  λ _. refl,
)

pub returns-then-is_empty-clause-reads_back : goal.returns-then-is_empty-clause-reads_back
returns-then-is_empty-clause-reads_back c n small e =
    let all = whole 16 c.in_ok-number.number c.args.text.now c.in_ok-number.rest.now c.in_ok-number.ensures.some c.if-is_empty.ensures in
    ap Some (hex_digits-same 16 c.in_ok-number.number n (search rules) small (sym all ∙ e))

pub returns-else-is_empty-clause-none : goal.returns-else-is_empty-clause-none
returns-else-is_empty-clause-none c n small e =
    longer 16 c.in_ok-number.number n c.args.text.now c.in_ok-number.rest.now c.in_ok-number.ensures.some c.if-is_empty.ensures e

pub returns-else-is_empty-clause-digits : goal.returns-else-is_empty-clause-digits
returns-else-is_empty-clause-digits c = (
  λ some. absurd (false≢true some),
  λ are. absurd (not_digits 16 c.args.text.now
      (λ n small e. longer 16 c.in_ok-number.number n c.args.text.now c.in_ok-number.rest.now c.in_ok-number.ensures.some
      c.if-is_empty.ensures e) are),
)

pub returns-else-is_empty-clause-reads_back : goal.returns-else-is_empty-clause-reads_back
returns-else-is_empty-clause-reads_back c n small e = absurd
    (longer 16 c.in_ok-number.number n c.args.text.now c.in_ok-number.rest.now c.in_ok-number.ensures.some c.if-is_empty.ensures e)
