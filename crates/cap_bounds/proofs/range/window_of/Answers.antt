use Rattle.std.proofs.{Common.{ℕ, ◌≡◌, ◌+◌, ◌*◌, ◌%◌, ◌^◌, ◌<◌, ◌∙◌, ap, arith, pow-add, subst}, lemmas.Nat.one_shl}
use Rattle.cap_word.specs.Fields.{e_of}
use Rattle.cap_bounds.specs.Bounds.{cut_exponent_of, window_size}
use Rattle.cap_bounds.proofs.{Decoded.window_start_coded, Keeping.{KeepsBounds-always, KeepsBounds-exact}}
use Rattle.cap_bounds.proofs.range.window_of.Goals as goal

pub returns-then-exponent-ge-WHOLE_EXPONENT-clause-every : goal.returns-then-exponent-ge-WHOLE_EXPONENT-clause-every
returns-then-exponent-ge-WHOLE_EXPONENT-clause-every c = λ _ a fits. KeepsBounds-always c.args.word.0 a
    (omega (arith, c.from-exponent.ensures, c.split-fields.ensures.e, c.if-exponent-ge-WHOLE_EXPONENT.true)) fits

uncut : (w e : ℕ) → e ≡ e_of w → e < 50 → e ≡ cut_exponent_of w
uncut w e is below = omega (arith, is, below)

start : goal.returns-clause-start
start c =
    let same = uncut c.args.word.0 c.from-exponent.result (c.from-exponent.ensures ∙ c.split-fields.ensures.e) c.if-exponent-ge-WHOLE_EXPONENT.false in
    c.window_from-start.ensures
    ∙ ap (λ (x : ℕ). x % 2 ^ 64)
    (window_start_coded c.args.word.0 c.from-exponent.result c.from.result c.address.result same
    (c.from.ensures ∙ c.split-fields.ensures.b) c.address.ensures.value)

pub returns-clause-start : goal.returns-clause-start
returns-clause-start c = start c

sized : (w e : ℕ) → e ≡ cut_exponent_of w → e < 50 → 0x4000 * 2 ^ e % 2 ^ 64 ≡ window_size w
sized w e same below =
    let whole : 0x4000 * 2 ^ e ≡ 1 * 2 ^ (e + 14) = omega (arith, pow-add 2 e 14) in
    ap (λ (x : ℕ). x % 2 ^ 64) whole ∙ one_shl (e + 14) 64 (omega arith) ∙ ap (λ (x : ℕ). 2 ^ (x + 14)) same

pub returns-clause-size : goal.returns-clause-size
returns-clause-size c =
    let below = c.if-exponent-ge-WHOLE_EXPONENT.false in
    sized c.args.word.0 c.from-exponent.result (uncut c.args.word.0 c.from-exponent.result (c.from-exponent.ensures ∙ c.split-fields.ensures.e) below) below

pub returns-clause-exact : goal.returns-clause-exact
returns-clause-exact c = λ address fits.
    let e = c.from-exponent.result in
    let below : e < 50 = c.if-exponent-ge-WHOLE_EXPONENT.false in
    let same = uncut c.args.word.0 e (c.from-exponent.ensures ∙ c.split-fields.ensures.e) below in
    KeepsBounds-exact c.args.word.0 c.window_from-start.result (0x4000 * 2 ^ e % 2 ^ 64) address (subst (λ (x : ℕ). x < 50) same below)
    fits (start c) (sized c.args.word.0 e same below)
