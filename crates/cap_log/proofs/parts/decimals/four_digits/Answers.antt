use Rattle.std.proofs.Common.{List, ℕ, get_or, ap, refl, ◌∙◌, arith}
use Rattle.cap_log.proofs.FourDigits.{four}
use Rattle.cap_log.proofs.parts.decimals.four_digits.Goals as goal

pub bounds-count : goal.bounds-count
bounds-count c =
    let is = four c.args.front.now c.told-front _ _ _ _ c.fits-front c.from_le_bytes-values.ensures c.from-wide.ensures refl refl in
    omega (arith, is.few)

pub returns : goal.returns
returns c =
    let is = four c.args.front.now c.told-front _ _ _ _ c.fits-front c.from_le_bytes-values.ensures c.from-wide.ensures refl c.from.ensures in
    let first = c.from-2.ensures ∙ ap (λ (bytes : List ℕ). get_or bytes 0 0) c.to_le_bytes-pairs.ensures in
    let second = c.from-3.ensures ∙ ap (λ (bytes : List ℕ). get_or bytes 2 0) c.to_le_bytes-pairs.ensures in
    record { front = rw (first, second) is }
