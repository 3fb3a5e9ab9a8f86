-- An index stays that of the present objects where the one in a slot changes.
use Rattle.std.proofs.Common.{◌≡◌, ◌≢◌, ℕ, false, Some, None, Option, inl, inr, ◌⊎◌, option_and_then}
use Rattle.std.proofs.Common.{sym, ap, ◌∙◌}
use Rattle.std.proofs.lemmas.{Bool.{cases_Bool, cond-true, cond-false, false≢true, Decides.eqb_tells}, Option.{none-some, same_Some}}
use Rattle.cap_objects.specs.{declared.objects.Object.Object, Counts.is_owner, Extents.{Objects, Sets}, Indexes.{IsIndex, Rekeys}}
use Rattle.cap_objects.proofs.KeyLemmas.{is_owner-self, is_owner-true}

module _ (key : Object → Option ℕ) (objects : Objects) (index : ℕ → Option ℕ) (known : IsIndex key objects index) (slot : ℕ) where
  pub rekey-same : (now : Option ℕ) → option_and_then key (objects slot) ≡ now → Rekeys index slot (option_and_then key (objects slot)) now index
  rekey-same now same k = elim (cases_Bool (is_owner k now)) [
    | inl yes_now ↦
        known.listed slot k (same ∙ is_owner-true k now yes_now)
        ∙ sym (cond-true (is_owner k now) (Some slot) _ yes_now)
    | inr not_now ↦
        sym (cond-false (is_owner k (option_and_then key (objects slot))) None (index k) (ap (is_owner k) same ∙ not_now))
        ∙ sym (cond-false (is_owner k now) (Some slot) _ not_now)
  ]

  module _ (after : Objects) (new : ℕ → Option ℕ) (now : Option Object) (set : Sets objects slot now after)
      (rekeys : Rekeys index slot (option_and_then key (objects slot)) (option_and_then key now) new)
      (fresh : (k : ℕ) → option_and_then key now ≡ Some k → (option_and_then key (objects slot) ≡ Some k) ⊎ (index k ≡ None)) where
    -- the key of another slot is neither the old one nor the new one of this
    not_was : (s k : ℕ) → s ≢ slot → index k ≡ Some s → is_owner k (option_and_then key (objects slot)) ≡ false
    not_was s k differ at = elim (cases_Bool (is_owner k (option_and_then key (objects slot)))) [
      | inl was ↦ absurd (differ (sym (same_Some slot s (sym (known.listed slot k (is_owner-true k _ was)) ∙ at))))
      | inr other ↦ other
    ]

    not_now : (s k : ℕ) → s ≢ slot → index k ≡ Some s → is_owner k (option_and_then key now) ≡ false
    not_now s k differ at = elim (cases_Bool (is_owner k (option_and_then key now))) [
      | inl is ↦ elim (fresh k (is_owner-true k _ is)) [
        | inl was ↦ absurd (differ (sym (same_Some slot s (sym (known.listed slot k was) ∙ at))))
        | inr free ↦ absurd (none-some s (sym free ∙ at))
      ]
      | inr other ↦ other
    ]

    pub index-put : IsIndex key after new
    index-put = record {
      listed = λ s k is. elim (eqb_tells s slot) [
        | inl same ↦
            let now_is : option_and_then key now ≡ Some k = ap (option_and_then key) (sym set.0 ∙ ap after (sym same.1)) ∙ is in
            rekeys k ∙ cond-true (is_owner k (option_and_then key now)) (Some slot) _ (is_owner-self k _ now_is) ∙ ap Some (sym same.1)
        | inr unlike ↦
            let at = known.listed s k (ap (option_and_then key) (sym (set.1 s unlike.1)) ∙ is) in
            rekeys k ∙ cond-false (is_owner k (option_and_then key now)) (Some slot) _ (not_now s k unlike.1 at)
            ∙ cond-false (is_owner k (option_and_then key (objects slot))) None (index k) (not_was s k unlike.1 at) ∙ at
      ];
      only = λ k s is. elim (cases_Bool (is_owner k (option_and_then key now))) [
        | inl yes_now ↦
            let here = same_Some slot s (sym (rekeys k ∙ cond-true (is_owner k (option_and_then key now)) (Some slot) _ yes_now) ∙ is) in
            ap (option_and_then key) (ap after (sym here) ∙ set.0) ∙ is_owner-true k _ yes_now
        | inr other ↦ elim (cases_Bool (is_owner k (option_and_then key (objects slot)))) [
          | inl was ↦
              absurd (none-some s (sym (rekeys k ∙ cond-false (is_owner k (option_and_then key now)) (Some slot) _ other
              ∙ cond-true (is_owner k (option_and_then key (objects slot))) None (index k) was) ∙ is))
          | inr other2 ↦
              let at : index k ≡ Some s = sym (rekeys k ∙ cond-false (is_owner k (option_and_then key now)) (Some slot) _ other
              ∙ cond-false (is_owner k (option_and_then key (objects slot))) None (index k) other2) ∙ is in
              let keyed = known.only k s at in
              elim (eqb_tells s slot) [
                | inl same ↦
                    absurd (false≢true (sym other2 ∙ is_owner-self k _ (ap (λ (n : ℕ). option_and_then key (objects n)) (sym same.1) ∙ keyed)))
                | inr unlike ↦ ap (option_and_then key) (set.1 s unlike.1) ∙ keyed
              ]
        ]
      ];
    }
