use Rattle.std.proofs.Common.{◌≡◌, ℕ, ◌<◌, ◌≤◌, Bool, true, false, inl, inr, sym, ◌∙◌, arith}
use Rattle.std.proofs.lemmas.Bool.{cases_lt, false≢true}
use Rattle.cap_bounds.proofs.LeastExponents.{IsLeastExponent-start, IsLeastExponent-raised}
use Rattle.cap_bounds.proofs.rounding.fast_path.round_inside.Goals as goal

-- what a test that failed denies
at_least : (units : ℕ) (few : Bool) → (units < 1024 → few ≡ true) → few ≡ false → 1024 ≤ units
at_least units few told fails = elim (cases_lt units 1024) [ inl small ↦ absurd (false≢true (sym fails ∙ told small)) | inr many ↦ many ]

pub round_with-requires-clause-least : goal.round_with-requires-clause-least
round_with-requires-clause-least c =
    let e = c.first_exponent-e in
    IsLeastExponent-start c.args.base c.args.length e.result (omega (arith, e.ensures.within)) e.ensures.low
    (c.covers_few.ensures.0 c.if-covers_few.true)

pub round_with-requires-else-covers_few-clause-least : goal.round_with-requires-else-covers_few-clause-least
round_with-requires-else-covers_few-clause-least c =
    let e = c.first_exponent-e in
    IsLeastExponent-raised c.args.base c.args.length e.result (omega (arith, e.ensures.within)) e.ensures.low e.ensures.high
    (at_least _ _ c.covers_few.ensures.1 c.if-covers_few.false)
