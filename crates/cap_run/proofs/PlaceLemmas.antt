-- What places hold at the start, and after one of them was written.
use Rattle.std.proofs.Common.{◌≡◌, ◌==◌, ◌+◌, ◌-◌, ◌<◌, ℕ, zero, suc, Bool, true, false}
use Rattle.std.proofs.Common.{get_or, replicate, nat_lt, le-ltb, lt-ltb, if◌then◌else◌, refl, sym, ap, subst, ◌∙◌, arith, inl, inr}
use Rattle.std.proofs.lemmas.{Bool.{cases_lt, cond-true, cond-false, false≢true, Decides.eqb_tells}}
use Rattle.std.proofs.Common.{eq-eqb, ne_eqb, lit<}
use Rattle.cap_word.specs.declared.word.Cap.{Cap}
use Rattle.cap_machine.specs.{Parents.IsSoundCap, Places.IsCoded, States.{put, untagged_null}}
use Rattle.cap_run.specs.Run.{first_special, with_specials}

-- an item of a list of one value
pub copies : {A : Type 0} (n key : ℕ) (a d : A) → a ≡ d → get_or (replicate n a) key d ≡ d
copies zero key a d same = refl
copies (suc n) zero a d same = same
copies (suc n) (suc key) a d same = copies n key a d same

-- where all places hold one value
pub specials-all : {A : Type 0} (main special : ℕ → A) (value : A) → ((key : ℕ) → main key ≡ value) → ((number : ℕ) → special number ≡ value)
    → (key : ℕ) → with_specials main special key ≡ value
specials-all main special value m s key = elim (cases_lt key first_special) [
  | inl low ↦ cond-true (nat_lt key first_special) (main key) _ (lt-ltb key first_special low) ∙ m key
  | inr high ↦ cond-false (nat_lt key first_special) (main key) _ (le-ltb key first_special high) ∙ s (key - first_special)
]

pub sound_null : (cap : Cap) → cap ≡ untagged_null → IsSoundCap cap
sound_null cap is tagged = absurd (false≢true (sym (ap (λ (c : Cap). c.tag) is) ∙ tagged))

pub coded_null : (cap : Cap) (label : ℕ) → cap ≡ untagged_null → label ≡ 0 → IsCoded cap.tag label
coded_null cap label is none =
    subst (λ (c : Cap). IsCoded c.tag label) (sym is) (subst (IsCoded false) (sym none) ((λ _. refl, λ _. refl), lit< tt))

-- what has no tag has the label 0
pub label_null : (cap : Cap) (label : ℕ) → cap ≡ untagged_null → IsCoded cap.tag label → label ≡ 0
label_null cap label is coded = coded.0.1 (ap (λ (c : Cap). c.tag) is)

-- a place below the special registers, and a special register, was written
pub with-main : {A : Type 0} (main special : ℕ → A) (key : ℕ) (value : A) → key < first_special → (other : ℕ)
    → with_specials (put main key value) special other ≡ put (with_specials main special) key value other
with-main main special key value low other = elim (cases_lt other first_special) [
  | inl below ↦
      let is = lt-ltb other first_special below in
      cond-true (nat_lt other first_special) (put main key value other) _ is
      ∙ ap (λ v. if key == other then value else v) (sym (cond-true (nat_lt other first_special) (main other) _ is))
  | inr above ↦
      let is = le-ltb other first_special above in
      let differ : (key == other) ≡ false = ne_eqb key other (λ e. let f : key ≡ other = e in omega arith) in
      cond-false (nat_lt other first_special) (put main key value other) _ is
      ∙ sym (cond-false (nat_lt other first_special) (main other) _ is)
      ∙ sym (cond-false (key == other) value (with_specials main special other) differ)
]

pub with-special : {A : Type 0} (main special : ℕ → A) (number : ℕ) (value : A) (other : ℕ)
    → with_specials main (put special number value) other ≡ put (with_specials main special) (first_special + number) value other
with-special main special number value other = elim (cases_lt other first_special) [
  | inl below ↦
      let is = lt-ltb other first_special below in
      let differ : (first_special + number == other) ≡ false = ne_eqb (first_special + number) other (λ e. let f : first_special + number ≡ other = e in omega arith) in
      cond-true (nat_lt other first_special) (main other) _ is
      ∙ sym (cond-true (nat_lt other first_special) (main other) _ is)
      ∙ sym (cond-false (first_special + number == other) value (with_specials main special other) differ)
  | inr above ↦
      let is = le-ltb other first_special above in
      let here : put special number value (other - first_special) ≡ put (with_specials main special) (first_special + number) value other =
      elim (eqb_tells number (other - first_special)) [
        | inl same ↦
            let whole : first_special + number ≡ other = omega (arith, same.1) in
            cond-true (number == other - first_special) value _ same.0
            ∙ sym (cond-true (first_special + number == other) value _ (eq-eqb (first_special + number) other whole))
        | inr unlike ↦
            let part : (first_special + number == other) ≡ false = ne_eqb (first_special + number) other (λ e. let f : first_special + number ≡ other = e in unlike.1 (omega arith)) in
            cond-false (number == other - first_special) value _ unlike.0
            ∙ sym (cond-false (nat_lt other first_special) (main other) _ is)
            ∙ sym (cond-false (first_special + number == other) value _ part)
      ] in
      cond-false (nat_lt other first_special) (main other) _ is ∙ here
]

pub choice_under : {A B : Type 0} (f : A → B) (b : Bool) (x y : A) → f (if b then x else y) ≡ (if b then f x else f y)
choice_under f true x y = refl
choice_under f false x y = refl
