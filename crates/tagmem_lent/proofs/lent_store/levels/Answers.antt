use Rattle.std.proofs.{Common.{◌≡◌, ℕ, ◌*◌, ◌/◌, ◌+◌, ◌-◌, ◌<◌, ◌≤◌, ◌^◌, arith}, Math.Nat.pow-le-pow_right}
use Rattle.std.proofs.lemmas.Nat.{leading_length}
use Rattle.tagmem_lent.proofs.lent_store.levels.Goals as goal

-- a number of so many bits isn't below half of what so many bits hold
few : (number bits : ℕ) → number < 2 ^ 32 → 2 ^ bits ≤ 2 * number + 1 → bits ≤ 32
few number bits fits most =
    let past : 33 ≤ bits → bits ≤ 32 = λ far.
    let less : 2 ^ 33 ≤ 2 ^ bits = pow-le-pow_right (omega arith) far in
    absurd (omega (arith, fits, most, less)) in
    grind (arith, past)

so_many : (number zeros bits : ℕ) → number < 2 ^ 32 → zeros + bits ≡ 64 → number < 2 ^ bits → 2 ^ bits ≤ 2 * number + 1
    → (number < 2 ^ (4 * ((67 - zeros) / 4))) × ((67 - zeros) / 4 ≤ 8)
so_many number zeros bits fits split above most =
    let most_bits = few number bits fits most in
    let wide : 2 ^ bits ≤ 2 ^ (4 * ((67 - zeros) / 4)) = pow-le-pow_right (omega arith) (omega arith) in
    (omega (arith, above, wide), omega arith)

pub returns : goal.returns
returns c =
    let has = leading_length 64 c.args.number (omega (arith, c.requires)) in
    let many = so_many c.args.number _ has.0 c.requires.fits has.1 has.2 has.3 in
    record { above = many.0; few = many.1 }
