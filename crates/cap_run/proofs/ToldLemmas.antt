-- What is told of owners, and of objects by their numbers.
use Rattle.std.proofs.Common.{◌≡◌, ◌≢◌, ◌<◌, ◌≤◌, ℕ, Some, None, Option, refl, sym, ap, ◌∙◌, arith}
use Rattle.std.proofs.lemmas.Option.{same_Some}
use Rattle.cap_objects.specs.{declared.{handouts.Handouts.Handouts, objects.Object.Object}, Handed.IsNextNumber, HandoutsIn.objects_of}
use Rattle.cap_run.specs.Numbers.{by_number}
use Rattle.cap_run.proofs.{NumberLemmas.{at-number, slot-of}, RunNumberLemmas.{IsNumbered, index_in}}

module _ (h : Handouts) (index : IsNumbered h) where
  -- no object has a number that none in a slot has
  absent : (number : ℕ) → ((slot : ℕ) (o : Object) → objects_of h slot ≡ Some o → o.number ≡ number → ⊥)
      → by_number (index_in h) (objects_of h) number ≡ None
  absent number never = by (by_number (index_in h) (objects_of h) number) refl
    where
      by : (o : Option Object) → by_number (index_in h) (objects_of h) number ≡ o → by_number (index_in h) (objects_of h) number ≡ None
      by None is = is
      by (Some o) is = let s = slot-of (objects_of h) (index_in h) index number o is in absurd (never s.0 o s.1 s.2)

  -- where no object has a number from one on
  pub next-none : (from : ℕ) → IsNextNumber (objects_of h) from None → (number : ℕ) → from ≤ number
      → by_number (index_in h) (objects_of h) number ≡ None
  next-none from next number more = absent number (λ slot o is same. let low = next slot o is in omega (arith, low, same, more))

  -- the next one, and none before it
  pub next-before : (from found slot : ℕ) → IsNextNumber (objects_of h) from (Some (found, slot)) → (number : ℕ) → from ≤ number → number < found
      → by_number (index_in h) (objects_of h) number ≡ None
  next-before from found slot next number more less =
      absent number (λ s o is same. let low = next.2 s o is (omega (arith, same, more)) in omega (arith, low, same, less))

  pub next-other : (from found slot : ℕ) → IsNextNumber (objects_of h) from (Some (found, slot)) → found ≢ from
      → by_number (index_in h) (objects_of h) from ≡ None
  next-other from found slot next differ =
      let low = next.0 in next-before from found slot next from (omega arith) (omega (arith, low, differ))

  pub next-is : (from found slot : ℕ) (o : Object) → IsNextNumber (objects_of h) from (Some (found, slot)) → objects_of h slot ≡ Some o
      → (o.number ≡ found) × (by_number (index_in h) (objects_of h) found ≡ Some o)
  next-is from found slot o next is =
      let same : o.number ≡ found = ap (λ (x : Object). x.number) (same_Some o next.1.0 (sym is ∙ next.1.1)) ∙ next.1.2 in
      (same, ap (by_number (index_in h) (objects_of h)) (sym same) ∙ at-number (objects_of h) (index_in h) index slot o is)
