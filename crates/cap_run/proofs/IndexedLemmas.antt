-- How many places an object owns, by its number and by its slot.
use Rattle.std.proofs.Common.{◌≡◌, ◌≢◌, ℕ, false, Some, None, Option, inl, inr, option_and_then, option_map}
use Rattle.std.proofs.Common.{refl, sym, ap, ◌∙◌, ne_eqb}
use Rattle.std.proofs.lemmas.{Bool.Decides.eqb_tells, Option.none-some}
use Rattle.cap_objects.specs.{Counts.{Owners, is_owner, most_places, owned_by}, declared.objects.Object.Object, Extents.Objects, Indexes.{IsIndex, number_key}}
use Rattle.cap_objects.proofs.{BelowLemmas.{below-none, below-same}, KeyLemmas.is_owner-self}
use Rattle.cap_run.specs.Numbers.{by_number, number_at, numbered}
use Rattle.cap_run.proofs.NumberLemmas.{alone-at, at-number}

-- an object whose number is another isn't the owner with this number
other_number : (found : Option Object) (n : ℕ) → ((x : Object) → found ≡ Some x → x.number ≢ n)
    → is_owner n (option_map (λ object. object.number) found) ≡ false
other_number None n differ = refl
other_number (Some x) n differ = ne_eqb n x.number (λ e. differ x refl (sym e))

module _ (objects : Objects) (index : ℕ → Option ℕ) (known : IsIndex number_key objects index) where
  same_owner : (slot : ℕ) (o : Object) → objects slot ≡ Some o → (owner : Option ℕ)
      → is_owner o.number (option_and_then (number_at objects) owner) ≡ is_owner slot owner
  same_owner slot o is None = refl
  same_owner slot o is (Some s) = elim (eqb_tells slot s) [
    | inl same ↦
        is_owner-self o.number (number_at objects s) (ap (number_at objects) (sym same.1) ∙ ap (option_map (λ object. object.number)) is)
        ∙ sym same.0
    | inr unlike ↦
        other_number (objects s) o.number (λ x there e. unlike.1 (sym (alone-at objects index known s slot x o there is e))) ∙ sym unlike.0
  ]

  -- an object owns as many places by its number as by its slot
  pub owned-number : (owners : Owners) (slot : ℕ) (o : Object) → objects slot ≡ Some o
      → owned_by (numbered objects owners) o.number ≡ owned_by owners slot
  owned-number owners slot o is = below-same _ _ most_places (λ key low. same_owner slot o is (owners key))

  no_owner : (n : ℕ) → by_number index objects n ≡ None → (owner : Option ℕ) → is_owner n (option_and_then (number_at objects) owner) ≡ false
  no_owner n none None = refl
  no_owner n none (Some s) = other_number (objects s) n
      (λ x there e. none-some x (sym none ∙ ap (by_number index objects) (sym e) ∙ at-number objects index known s x there))

  -- a number that no object has owns nothing
  pub owned-none : (owners : Owners) (n : ℕ) → by_number index objects n ≡ None → owned_by (numbered objects owners) n ≡ 0
  owned-none owners n none = below-none _ most_places (λ key. no_owner n none (owners key))
