-- What is kept with one object more, and with one less.
use Rattle.std.specs.BTreeMap.{is_at}
use Rattle.std.proofs.Common.{◌≡◌, ℕ, true, false, Bool, eqb, Some, None, Option, inl, inr, sym, ap, refl, ◌∙◌, arith}
use Rattle.std.proofs.Common.{is_some, ◌≢◌, IfNone, IsSome, IsTrue, MatchBool, if◌then◌else◌, ◌⊎◌, OnOk, OnErr, Result}
use Rattle.std.proofs.{Common.{Ok, Err, eqb-true, nat_cmp}, lemmas.Bool.{false≢true, cases_Bool, Decides.nat_tests}}
use Rattle.std.proofs.lemmas.Option.{none-some, same_Some}
use Rattle.cap_heap.specs.{declared.events.Event.TheVariants.{Malloc, Free}, Events.after_event, Kept.length_from}

pub either : {X E A B : Type 0} (r : Result X E) → OnOk r A → OnErr r B → A ⊎ B
either (Ok x) ok err = inl ok
either (Err e) ok err = inr err

pub not_kept : (o : Option ℕ) (b : Bool) → length_from o b ≡ None → (o ≡ None) × (b ≡ false)
not_kept (Some length) b h = absurd (none-some length (sym h))
not_kept None true h = absurd (none-some 0 (sym h))
not_kept None false h = (refl, refl)

differ : (at other : ℕ) → eqb at other ≡ false → at ≢ other
differ at other h = grind (arith, nat_tests)

pub with_long : (old new : ℕ → Option ℕ) (empty : ℕ → Bool) (at size : ℕ) → new at ≡ Some size → ((q : ℕ) → at ≢ q → new q ≡ old q)
    → (other : ℕ) → length_from (new other) (empty other) ≡ after_event (λ a. length_from (old a) (empty a)) (Malloc at size) other
with_long old new empty at size own others other = elim (cases_Bool (eqb at other)) [
  | inl same ↦
      ap (λ o. length_from o (empty other)) (ap new (sym (eqb-true at other same)) ∙ own)
      ∙ ap (λ b. if b then Some size else length_from (old other) (empty other)) (sym same)
  | inr differs ↦
      ap (λ o. length_from o (empty other)) (others other (differ at other differs))
      ∙ ap (λ b. if b then Some size else length_from (old other) (empty other)) (sym differs)
]

pub with_empty : (lengths : ℕ → Option ℕ) (old new : ℕ → Bool) (at : ℕ) → length_from (lengths at) (old at) ≡ None → new at ≡ true
    → ((q : ℕ) → at ≢ q → new q ≡ old q)
    → (other : ℕ) → length_from (lengths other) (new other) ≡ after_event (λ a. length_from (lengths a) (old a)) (Malloc at 0) other
with_empty lengths old new at fresh own others other = elim (cases_Bool (eqb at other)) [
  | inl same ↦
      let is = sym (eqb-true at other same) in
      ap (λ o. length_from o (new other)) (ap lengths is ∙ (not_kept _ _ fresh).0) ∙ ap (length_from None) (ap new is ∙ own)
      ∙ ap (λ b. if b then Some 0 else length_from (lengths other) (old other)) (sym same)
  | inr differs ↦
      ap (length_from (lengths other)) (others other (differ at other differs))
      ∙ ap (λ b. if b then Some 0 else length_from (lengths other) (old other)) (sym differs)
]

pub without : (old new : ℕ → Option ℕ) (before empty : ℕ → Bool) (at : ℕ) → new at ≡ None → empty at ≡ false
    → ((q : ℕ) → at ≢ q → new q ≡ old q) → ((q : ℕ) → at ≢ q → empty q ≡ before q)
    → (other : ℕ) → length_from (new other) (empty other) ≡ after_event (λ a. length_from (old a) (before a)) (Free at) other
without old new before empty at own none others others2 other = elim (cases_Bool (eqb at other)) [
  | inl same ↦
      let is = sym (eqb-true at other same) in
      ap (λ o. length_from o (empty other)) (ap new is ∙ own) ∙ ap (length_from None) (ap empty is ∙ none)
      ∙ ap (λ b. if b then None else length_from (old other) (before other)) (sym same)
  | inr differs ↦
      ap (λ o. length_from o (empty other)) (others other (differ at other differs))
      ∙ ap (length_from (old other)) (others2 other (differ at other differs))
      ∙ ap (λ b. if b then None else length_from (old other) (before other)) (sym differs)
]

pub none_from : (o : Option ℕ) → (IsSome o → IsTrue false) → o ≡ None
none_from None h = refl
none_from (Some n) h = absurd (false≢true (h refl))

pub not_equal : (at q : ℕ) → at ≢ q → is_at (nat_cmp at) q ≡ false
not_equal at q h = grind (arith, nat_tests)

pub some_is : (o : Option ℕ) → is_some o ≡ true → (n : ℕ) × (o ≡ Some n)
some_is (Some n) h = (n, refl)
some_is None h = absurd (false≢true h)

-- what is still there was there before, elsewhere
pub there_before : (old new : ℕ → Option ℕ) (at : ℕ) → new at ≡ None → ((q : ℕ) → at ≢ q → new q ≡ old q)
    → (other size : ℕ) → new other ≡ Some size → (at ≢ other) × (old other ≡ Some size)
there_before old new at own others other size is =
    let elsewhere : at ≢ other = λ same. none-some size (sym own ∙ ap new same ∙ is) in
    (elsewhere, sym (others other elsewhere) ∙ is)

-- what is there is the new one, or was there before, elsewhere
pub new_or_before : (old new : ℕ → Option ℕ) (at size : ℕ) → new at ≡ Some size → ((q : ℕ) → at ≢ q → new q ≡ old q)
    → (other length : ℕ) → new other ≡ Some length → ((at ≡ other) × (size ≡ length)) ⊎ (old other ≡ Some length)
new_or_before old new at size own others other length is = elim (cases_Bool (eqb at other)) [
  | inl same ↦
      let here = eqb-true at other same in
      inl (here, same_Some size length (sym own ∙ ap new here ∙ is))
  | inr differs ↦ inr (sym (others other (differ at other differs)) ∙ is)
]

-- where there is none
pub of_none : {F : Type 0} (o : Option (ℕ × ℕ)) → is_some o ≡ false → IfNone o F → F
of_none None h fact = fact
of_none (Some x) h fact = absurd (false≢true (sym h))

-- an object without a byte lives where the set has its address, and elsewhere none does where the map has none
pub told_by_set : (o : Option ℕ) (b : Bool) → o ≡ None → MatchBool b (IsSome (length_from o b)) (length_from o b ≡ None)
told_by_set None true h = refl
told_by_set None false h = refl
told_by_set (Some size) b h = absurd (none-some size (sym h))
