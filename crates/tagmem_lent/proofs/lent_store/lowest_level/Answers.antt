use Rattle.std.specs.Int.{bit_at}
use Rattle.std.proofs.{Common.{◌≡◌, ℕ, ◌%◌, ◌<◌, ◌≤◌, ◌^◌, ap, arith, w64}, Math.Nat.{div-eq_of_lt, pow-le-pow_right}}
use Rattle.std.proofs.lemmas.Nat.Bits.{bit_at-trailing_zeros}
use Rattle.tagmem_lent.proofs.Runs.{run_end-lowest}
use Rattle.tagmem_lent.proofs.lent_store.lowest_level.Goals as goal

-- no bit from 60 on is set in a number that is less
few : (number bit : ℕ) → number < 2 ^ 60 → bit_at number bit ≡ 1 → bit < 60
few number bit fits is =
    let past : 60 ≤ bit → bit < 60 = λ far.
    let less : 2 ^ 60 ≤ 2 ^ bit = pow-le-pow_right (omega arith) far in
    let none = div-eq_of_lt {n = number} {m = 2 ^ bit} (omega (arith, fits, less)) in
    absurd (omega (arith, is, ap (λ (q : ℕ). q % 2) none)) in
    grind (arith, past)

pub returns : goal.returns
returns c =
    let number = c.args.number in
    let zeros = bit_at-trailing_zeros w64 number c.requires.some (omega (arith, c.requires.fits)) in
    let is = run_end-lowest number _ zeros.2 zeros.1 in
    let below = few number _ c.requires.fits zeros.1 in
    record { ends = is.0; begins = is.1; few = omega (arith, below) }
