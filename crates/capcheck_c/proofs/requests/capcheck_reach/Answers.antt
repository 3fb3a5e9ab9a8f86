use Rattle.std.proofs.Common.{ℕ, ◌≡◌, ◌<◌, ◌≤◌, ◌+◌, ◌-◌, ◌*◌, ◌%◌, ◌^◌, ◌↔◌, refl, subst}
use Rattle.cap_bounds.specs.{Bounds.{IsWindow, base_of, top_of, unit_of, window_size}, Range.{KeepsBounds, window_start}}
use Rattle.capcheck_c.proofs.requests.capcheck_reach.Goals as goal

-- What `capcheck_reach` says of a word as it says it of every address.
abbrev Margins : ℕ → Type 0
Margins w = (address : ℕ) → base_of w + 2 ^ 64 ≤ address + 2 ^ 11 * unit_of w
    → address ≤ top_of w + 2 ^ 64 + 2 ^ 12 * unit_of w → KeepsBounds w (address % 2 ^ 64)

abbrev Unique : ℕ → Type 0
Unique w = (start : ℕ) → IsWindow w start → start ≡ window_start w

abbrev Exact : ℕ → ℕ → ℕ → Type 0
Exact start size w = (address : ℕ) → address < 2 ^ 64 → (KeepsBounds w address ↔ ((address + 2 ^ 64 - start) % 2 ^ 64 < size))

pub returns-in-None-clause-every : goal.returns-in-None-clause-every
returns-in-None-clause-every c = (
  λ _. subst (λ (w : ℕ). (address : ℕ) → address < 2 ^ 64 → KeepsBounds w address) c.word_of.ensures.value (c.in-None.ensures.every.0 refl),
  λ _. refl,
)

pub returns-in-None-clause-unique : goal.returns-in-None-clause-unique
returns-in-None-clause-unique c = subst Unique c.word_of.ensures.value c.in-None.ensures.unique

pub returns-in-None-clause-margins : goal.returns-in-None-clause-margins
returns-in-None-clause-margins c = subst Margins c.word_of.ensures.value c.in-None.ensures.margins

pub returns-in-Some-clause-unique : goal.returns-in-Some-clause-unique
returns-in-Some-clause-unique c = subst Unique c.word_of.ensures.value c.in-Some.ensures.unique

pub returns-in-Some-clause-margins : goal.returns-in-Some-clause-margins
returns-in-Some-clause-margins c = subst Margins c.word_of.ensures.value c.in-Some.ensures.margins

pub returns-in-Some-clause-exact : goal.returns-in-Some-clause-exact
returns-in-Some-clause-exact c = λ _. subst (Exact c.in-Some.start c.in-Some.size) c.word_of.ensures.value c.in-Some.ensures.exact

pub returns-in-Some-clause-start : goal.returns-in-Some-clause-start
returns-in-Some-clause-start c = λ _.
    subst (λ (w : ℕ). c.in-Some.start ≡ window_start w % 2 ^ 64) c.word_of.ensures.value c.in-Some.ensures.start

pub returns-in-Some-clause-size : goal.returns-in-Some-clause-size
returns-in-Some-clause-size c = λ _. subst (λ (w : ℕ). c.in-Some.size ≡ window_size w) c.word_of.ensures.value c.in-Some.ensures.size
