use Rattle.std.proofs.Common.{ℕ, ◌≡◌, ◌<◌, ◌+◌, ◌-◌, ◌%◌, ◌^◌, refl, sym, ap, subst, arith, ltb-true, lt-ltb}
use Rattle.cap_bounds.proofs.range.keeps_bounds.Goals as goal

pub returns-in-None : goal.returns-in-None
returns-in-None c = record { keeps = (λ _. c.in-None.ensures.every refl c.args.address c.ranges.address.fits, λ _. refl) }

-- A start below 2^64 is taken from an address before or after 2^64 is added.
wrapped : (a s m : ℕ) → s ≡ m % 2 ^ 64 → (a + (2 ^ 64 - s)) % 2 ^ 64 ≡ (a + 2 ^ 64 - s) % 2 ^ 64
wrapped a s m h = ap (λ (x : ℕ). x % 2 ^ 64) (let same : a + (2 ^ 64 - s) ≡ a + 2 ^ 64 - s = omega (arith, h) in same)

pub returns-in-Some : goal.returns-in-Some
returns-in-Some c =
    let same = wrapped c.args.address c.in-Some.start _ c.in-Some.ensures.start in
    let exact = c.in-Some.ensures.exact c.args.address c.ranges.address.fits in record {
      keeps = (
        λ t. exact.1 (subst (λ (x : ℕ). x < c.in-Some.size) same (ltb-true _ _ t)),
        λ k. lt-ltb _ _ (subst (λ (x : ℕ). x < c.in-Some.size) (sym same) (exact.0 k)),
      );
    }
