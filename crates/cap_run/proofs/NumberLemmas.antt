-- Objects by their slots and by their numbers.
use Rattle.std.proofs.Common.{◌≡◌, ◌==◌, ℕ, Some, None, Option, inl, inr, option_map, option_and_then}
use Rattle.std.proofs.Common.{refl, sym, ap, ◌∙◌, eq-eqb, ne_eqb}
use Rattle.std.proofs.Math.Path.{fun_ext}
use Rattle.std.proofs.lemmas.{Bool.Decides.eqb_tells, Option.{none-some, same_Some}}
use Rattle.cap_objects.specs.Counts.{CountsAre, Owners, is_owner, most_places, owned_by}
use Rattle.cap_objects.specs.{declared.objects.Object.Object, Extents.Objects, Handed.{IsRecounted, held_of, with_held}, Indexes.{IsIndex, kept, number_key}}
use Rattle.cap_objects.proofs.{BelowLemmas.below-same}
use Rattle.cap_run.specs.{Numbers.{by_number, number_at, numbered}, RunChanges.counted}
use Rattle.cap_run.proofs.OwnerLemmas.{recounted-some}

found : (objects : Objects) (slot : Option ℕ) (o : Object) → option_and_then objects slot ≡ Some o → (s : ℕ) × (slot ≡ Some s) × (objects s ≡ Some o)
found objects None o is = absurd (none-some o is)
found objects (Some s) o is = (s, refl, is)

keyed : (o : Option Object) (n : ℕ) → option_and_then number_key o ≡ Some n → (x : Object) × (o ≡ Some x) × (x.number ≡ n)
keyed None n is = absurd (none-some n is)
keyed (Some x) n is = (x, refl, same_Some x.number n is)

module _ (objects : Objects) (index : ℕ → Option ℕ) (indexed : IsIndex number_key objects index) where
  -- the object in a slot is the one with its number
  pub at-number : (slot : ℕ) (o : Object) → objects slot ≡ Some o → by_number index objects o.number ≡ Some o
  at-number slot o is = ap (option_and_then objects) (indexed.listed slot o.number (ap (option_and_then number_key) is)) ∙ is

  -- the object with a number is in a slot
  pub slot-of : (n : ℕ) (o : Object) → by_number index objects n ≡ Some o → (slot : ℕ) × (objects slot ≡ Some o) × (o.number ≡ n)
  slot-of n o is =
      let f = found objects (index n) o is in
      let k = keyed (objects f.0) n (indexed.only n f.0 f.1) in
      (f.0, f.2, ap (λ (x : Object). x.number) (same_Some o k.0 (sym f.2 ∙ k.1)) ∙ k.2)

  -- no two objects have one number
  pub alone-at : (one two : ℕ) (a b : Object) → objects one ≡ Some a → objects two ≡ Some b → a.number ≡ b.number → one ≡ two
  alone-at one two a b is is2 same =
      same_Some one two (sym (indexed.listed one a.number (ap (option_and_then number_key) is)) ∙ ap index same
      ∙ indexed.listed two b.number (ap (option_and_then number_key) is2))

-- an owner with a number is in a slot that holds it
pub owner-of : (objects : Objects) (owner : Option ℕ) (n : ℕ) → option_and_then (number_at objects) owner ≡ Some n
    → (slot : ℕ) × (owner ≡ Some slot) × (o : Object) × (objects slot ≡ Some o) × (o.number ≡ n)
owner-of objects None n is = absurd (none-some n is)
owner-of objects (Some slot) n is = let o = held-by (objects slot) n is in (slot, refl, o.0, o.1, o.2)
  where
    held-by : (o : Option Object) (n : ℕ) → option_map (λ object. object.number) o ≡ Some n → (x : Object) × (o ≡ Some x) × (x.number ≡ n)
    held-by None n is = absurd (none-some n is)
    held-by (Some x) n is = (x, refl, same_Some x.number n is)

-- an owner is in a slot just where it has the number of that slot
same_owner : (objects : Objects) (n slot : ℕ)
    → ((s : ℕ) (x : Object) → objects s ≡ Some x → (s ≡ slot → x.number ≡ n) × (x.number ≡ n → s ≡ slot))
    → (owner : Option ℕ) → ((s : ℕ) → owner ≡ Some s → (x : Object) × (objects s ≡ Some x))
    → is_owner n (option_and_then (number_at objects) owner) ≡ is_owner slot owner
same_owner objects n slot own None there = refl
same_owner objects n slot own (Some s) there =
    let x = there s refl in
    let both = own s x.0 x.1 in
    let same : (n == x.0.number) ≡ (slot == s) = elim (eqb_tells slot s) [
      | inl same ↦ eq-eqb n x.0.number (sym (both.0 (sym same.1))) ∙ sym same.0
      | inr unlike ↦ ne_eqb n x.0.number (λ e. unlike.1 (sym (both.1 (sym e)))) ∙ sym unlike.0
    ] in
    ap (λ (o : Option Object). is_owner n (option_map (λ object. object.number) o)) x.1 ∙ same

-- as many places are owned by the object in a slot as by the one with its number
pub owned-number : (objects : Objects) (owners : Owners) (n slot : ℕ)
    → ((s : ℕ) (x : Object) → objects s ≡ Some x → (s ≡ slot → x.number ≡ n) × (x.number ≡ n → s ≡ slot))
    → ((key s : ℕ) → owners key ≡ Some s → (x : Object) × (objects s ≡ Some x))
    → owned_by (numbered objects owners) n ≡ owned_by owners slot
owned-number objects owners n slot own there =
    below-same (λ k. is_owner n (numbered objects owners k)) (λ k. is_owner slot (owners k)) most_places
    (λ k low. same_owner objects n slot own (owners k) (there k))

-- the numbers of owners depend on the numbers in their slots alone
pub numbered-by : (objects after : Objects) (owners : Owners)
    → ((key slot : ℕ) → owners key ≡ Some slot → number_at after slot ≡ number_at objects slot)
    → numbered after owners ≡ numbered objects owners
numbered-by objects after owners same = fun_ext (λ key. at_owner (owners key) (same key))
  where
    at_owner : (owner : Option ℕ) → ((slot : ℕ) → owner ≡ Some slot → number_at after slot ≡ number_at objects slot)
        → option_and_then (number_at after) owner ≡ option_and_then (number_at objects) owner
    at_owner None known = refl
    at_owner (Some slot) known = known slot refl

module _ (old new : Objects) (index after : ℕ → Option ℕ) (indexed : IsIndex number_key old index) (reindexed : IsIndex number_key new after)
    (are : IsRecounted old new) (owners : Owners) (there : (key s : ℕ) → owners key ≡ Some s → (x : Object) × (new s ≡ Some x)) where
  -- a present object was there, with its number
  was : (slot : ℕ) (x : Object) → new slot ≡ Some x → (y : Object) × (old slot ≡ Some y) × (x.number ≡ y.number)
  was slot x is =
      let r = recounted-some old new are slot x is in
      (r.0, r.1, ap (λ (o : Object). o.number) r.2)

  pub renumbered : numbered new owners ≡ numbered old owners
  renumbered = numbered-by old new owners (λ key slot is.
      let x = there key slot is in
      let y = was slot x.0 x.1 in
      ap (option_map (λ object. object.number)) x.1 ∙ ap Some y.2 ∙ sym (ap (option_map (λ object. object.number)) y.1))

  -- the object that had a number is in its slot
  at-slot : (slot : ℕ) (y : Object) → old slot ≡ Some y → (o : Option Object) → new slot ≡ o → (p : Option Object) → by_number after new y.number ≡ p → p ≡ o
  at-slot slot y was_it (Some x) is p by =
      let w = was slot x is in
      let same : x.number ≡ y.number = w.2 ∙ ap (λ (o : Object). o.number) (same_Some w.0 y (sym w.1 ∙ was_it)) in
      sym by ∙ ap (by_number after new) (sym same) ∙ at-number new after reindexed slot x is
  at-slot slot y was_it None is None by = refl
  at-slot slot y was_it None is (Some x) by =
      let s = slot-of new after reindexed y.number x by in
      let w = was s.0 x s.1 in
      let same = alone-at old index indexed s.0 slot w.0 y w.1 was_it (sym w.2 ∙ s.2) in
      absurd (none-some x (sym is ∙ ap new (sym same) ∙ s.1))

  module _ (counts : CountsAre owners (λ s. held_of (new s))) where
    by-index : (n : ℕ) (i : Option ℕ) → index n ≡ i → by_number after new n ≡ counted (by_number index old) (numbered new owners) n
    by-index n (Some slot) i_is =
        let k = keyed (old slot) n (indexed.only n slot i_is) in
        let y = k.0 in
        let own : (s : ℕ) (x : Object) → new s ≡ Some x → (s ≡ slot → x.number ≡ n) × (x.number ≡ n → s ≡ slot) = λ s x is.
        let w = was s x is in (
          λ same. w.2 ∙ ap (λ (o : Object). o.number) (same_Some w.0 y (sym w.1 ∙ ap old same ∙ k.1)) ∙ k.2,
          λ same. alone-at old index indexed s slot w.0 y w.1 k.1 (sym w.2 ∙ same ∙ sym k.2),
        ) in
        let count : owned_by (numbered new owners) n ≡ held_of (new slot) = owned-number new owners n slot own there ∙ sym (counts slot) in
        let recount : Option Object → ℕ → Option Object = λ o c. option_and_then (λ object. kept (with_held object c)) o in
        let by : by_number index old n ≡ Some y = ap (option_and_then old) i_is ∙ k.1 in
        ap (by_number after new) (sym k.2) ∙ at-slot slot y k.1 (new slot) refl (by_number after new y.number) refl
        ∙ are slot
        ∙ ap (λ (o : Option Object). recount o (held_of (new slot))) (k.1 ∙ sym by)
        ∙ ap (recount (by_number index old n)) (sym count)
    by-index n None i_is = none-by (by_number after new n) refl ∙ sym (ap (λ (i : Option ℕ). option_and_then (λ object. kept (with_held object (owned_by (numbered new owners) n))) (option_and_then old i)) i_is)
      where
        none-by : (p : Option Object) → by_number after new n ≡ p → p ≡ None
        none-by None by = refl
        none-by (Some x) by =
            let s = slot-of new after reindexed n x by in
            let w = was s.0 x s.1 in
            let listed = indexed.listed s.0 w.0.number (ap (option_and_then number_key) w.1) in
            absurd (none-some s.0 (sym i_is ∙ ap index (sym s.2 ∙ w.2) ∙ listed))

    -- the objects after a step, by their numbers
    pub recounted-numbers : by_number after new ≡ counted (by_number index old) (numbered new owners)
    recounted-numbers = fun_ext (λ n. by-index n (index n) refl)
