use Rattle.std.proofs.{Common.{ℕ, ◌+◌, ◌-◌, ◌*◌, ◌/◌, ◌%◌, ◌^◌, bit_and, ap, ◌∙◌}, lemmas.Nat.and_mask}
use Rattle.cap_bounds.proofs.WrappedBounds.{window_wrapped}
use Rattle.cap_bounds.proofs.decoding.window_from.Goals as goal

pub returns : goal.returns
returns c =
    let e = c.args.cut_exponent in
    let b = c.args.b in
    let units = c.args.address / 2 ^ e in
    let code = λ (start : ℕ).
    (units + (2 ^ 64 - bit_and ((units + (2 ^ 64 - start * 2048 % 2 ^ 64)) % 2 ^ 64) 16383)) % 2 ^ 64 * 2 ^ e % 2 ^ 64 in
    ap code (and_mask (b / 2048 + 7) 3)
    ∙ ap (λ (x : ℕ). (units + (2 ^ 64 - x)) % 2 ^ 64 * 2 ^ e % 2 ^ 64)
    (and_mask ((units + (2 ^ 64 - (b / 2048 + 7) % 8 * 2048 % 2 ^ 64)) % 2 ^ 64) 14)
    ∙ window_wrapped e b c.args.address c.requires.exponent_fits c.requires.b_fits
