-- How many keys below a number a fact holds of.
use Rattle.std.proofs.Common.{◌≡◌, ℕ, zero, suc, ◌+◌, ◌<◌, ◌≤◌, ◌^◌, Bool, true, false, if◌then◌else◌, Option, Some, inl, inr}
use Rattle.std.proofs.Common.{refl, sym, ap, subst, arith}
use Rattle.std.proofs.lemmas.Bool.{cases_Bool, Decides.eqb_tells}
use Rattle.cap_objects.specs.Counts.{CountsAre, Moves, Owners, at_key, count_below, is_owner, most_places, owned_by}
use Rattle.cap_objects.proofs.KeyLemmas.{at-other, at-same, choice_under, is_owner-self}

-- one where a fact holds
abbrev pub one : Bool → ℕ
one b = if b then 1 else 0

pub below-same : (a b : ℕ → Bool) (n : ℕ) → ((key : ℕ) → key < n → a key ≡ b key) → count_below a n ≡ count_below b n
unfolding count_below
below-same a b zero same = refl
below-same a b (suc n) same =
    let rest = below-same a b n (λ key low. same key (omega (arith, low))) in
    let last : one (a n) ≡ one (b n) = ap one (same n (omega arith)) in
    omega (arith, rest, last)

-- one key changes
pub below-put : (holds : ℕ → Bool) (key : ℕ) (value : Bool) (n : ℕ) → key < n
    → count_below (at_key holds key value) n + one (holds key) ≡ count_below holds n + one value
unfolding count_below
below-put holds key value zero low = absurd (omega arith)
below-put holds key value (suc n) low = elim (eqb_tells key n) [
  | inl same ↦
      let rest = below-same (at_key holds key value) holds n (λ other under. at-other holds key value other (λ e. omega arith)) in
      let last : one (at_key holds key value n) ≡ one value = ap one (subst (λ (k : ℕ). at_key holds key value k ≡ value) same.1 (at-same holds key value)) in
      let here : one (holds key) ≡ one (holds n) = ap (λ (k : ℕ). one (holds k)) same.1 in
      omega (arith, rest, last, here)
  | inr unlike ↦
      let rest = below-put holds key value n (omega (arith, low, unlike.1)) in
      let last : one (at_key holds key value n) ≡ one (holds n) = ap one (at-other holds key value n unlike.1) in
      omega (arith, rest, last)
]

pub below-le : (holds : ℕ → Bool) (n : ℕ) → count_below holds n ≤ n
unfolding count_below
below-le holds zero = omega arith
below-le holds (suc n) = elim (cases_Bool (holds n)) [
  | inl held ↦ let e : one (holds n) ≡ 1 = ap one held in omega (arith, below-le holds n, e)
  | inr free ↦ let e : one (holds n) ≡ 0 = ap one free in omega (arith, below-le holds n, e)
]

pub below-where : (holds : ℕ → Bool) (key n : ℕ) → key < n → holds key ≡ true → 0 < count_below holds n
below-where holds key n low is =
    let put = below-put holds key false n low in
    let e : one (holds key) ≡ 1 = ap one is in
    omega (arith, put, e)

-- counts stay right where one place gets another owner
pub CountsAre-move : (owners : Owners) (old new : ℕ → ℕ) (key : ℕ) (owner : Option ℕ) → key < most_places → CountsAre owners old
    → Moves old (owners key) owner new → CountsAre (at_key owners key owner) new
CountsAre-move owners old new key owner low are moves number =
    let holds : ℕ → Bool = λ k. is_owner number (owners k) in
    let put = below-put holds key (is_owner number owner) most_places low in
    let same : count_below (at_key holds key (is_owner number owner)) most_places ≡ owned_by (at_key owners key owner) number =
    below-same _ _ most_places (λ k under. sym (choice_under (is_owner number) _ owner (owners k))) in
    omega (arith, put, same, are number, moves number)

pub counts_where : (owners : Owners) (counts : ℕ → ℕ) (key number : ℕ) → CountsAre owners counts → key < most_places
    → owners key ≡ Some number → 0 < counts number
counts_where owners counts key number are low is =
    subst (λ (n : ℕ). 0 < n) (sym (are number)) (below-where (λ k. is_owner number (owners k)) key most_places low (is_owner-self number (owners key) is))

pub counts_few : (owners : Owners) (counts : ℕ → ℕ) (number : ℕ) → CountsAre owners counts → counts number ≤ 2 ^ 61
counts_few owners counts number are =
    let few = below-le (λ k. is_owner number (owners k)) most_places in
    subst (λ (n : ℕ). n ≤ 2 ^ 61) (sym (are number)) (omega (arith, few))

-- nothing is owned
pub below-none : (holds : ℕ → Bool) (n : ℕ) → ((key : ℕ) → holds key ≡ false) → count_below holds n ≡ 0
unfolding count_below
below-none holds zero none = refl
below-none holds (suc n) none = let e : one (holds n) ≡ 0 = ap one (none n) in omega (arith, below-none holds n none, e)
