-- What a call answers by its number: a step that a judge took, or no step.
use Rattle.std.proofs.Common.{◌≡◌, ◌≢◌, ◌↔◌, ◌<◌, ◌⊎◌, ◌∙◌, inl, inr, ℕ, arith, refl, sym, None, Option, Some}
use Rattle.std.proofs.lemmas.Option.{none-some}
use Rattle.capcheck_judge.specs.Holding.{IsNoStep}

-- the answer of a judge that is there is no yes, and not that there is none
pub few : (state : ℕ) → (state ≡ 0) ⊎ (state ≡ 2) ⊎ (state ≡ 3) ⊎ (state ≡ 5) → (state < 6) × (state ≢ 1) × (state ≢ 4)
few state (inl is) = (omega (arith, is), λ one. omega (arith, is, one), λ four. omega (arith, is, four))
few state (inr (inl is)) = (omega (arith, is), λ one. omega (arith, is, one), λ four. omega (arith, is, four))
few state (inr (inr (inl is))) = (omega (arith, is), λ one. omega (arith, is, one), λ four. omega (arith, is, four))
few state (inr (inr (inr is))) = (omega (arith, is), λ one. omega (arith, is, one), λ four. omega (arith, is, four))

-- on a step it is one of these, and not that there is no line
pub any_state : (state : ℕ) → (state ≡ 0) ⊎ (state ≡ 2) ⊎ (state ≡ 3) → (state ≡ 0) ⊎ (state ≡ 2) ⊎ (state ≡ 3) ⊎ (state ≡ 5)
any_state state (inl is) = inl is
any_state state (inr (inl is)) = inr (inl is)
any_state state (inr (inr is)) = inr (inr (inl is))

pub not_five : (state : ℕ) → (state ≡ 0) ⊎ (state ≡ 2) ⊎ (state ≡ 3) → state ≢ 5
not_five state (inl is) five = omega (arith, is, five)
not_five state (inr (inl is)) five = omega (arith, is, five)
not_five state (inr (inr is)) five = omega (arith, is, five)

module _ {A : Type 0} where
  -- what holds a judge isn't without one
  pub there : (held : Option A) (judge : A) → held ≡ Some judge → held ≡ None → ⊥
  there held judge is none = none-some judge (sym none ∙ is)

  -- no step is answered by 4 or 5
  pub none_taken : (held : Option A) (state : ℕ) → IsNoStep held state → (3 < state) × (state < 6)
  none_taken None state is = (omega (arith, is), omega (arith, is))
  none_taken (Some judge) state is = (omega (arith, is), omega (arith, is))

  -- it is 4 if there is no judge
  pub unheld : (held : Option A) (state : ℕ) → IsNoStep held state → (state ≡ 4) ↔ (held ≡ None)
  unheld None state is = (λ four. refl, λ none. is)
  unheld (Some judge) state is = (λ four. absurd (omega (arith, is, four)), λ none. absurd (there (Some judge) judge refl none))

  -- and 5 if there is one
  pub no_line : (held : Option A) (state : ℕ) → IsNoStep held state → (state ≡ 5) ↔ (held ≢ None)
  no_line None state is = (λ five. absurd (omega (arith, is, five)), λ some. absurd (some refl))
  no_line (Some judge) state is = (λ five. there (Some judge) judge refl, λ some. is)
