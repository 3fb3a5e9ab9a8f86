-- Present objects by their numbers after one was handed out, widened or freed.
use Rattle.std.proofs.{Common.{◌≡◌, ◌≢◌, ◌==◌, ◌⊎◌, ◌||◌, not, nat_lt, ℕ, Bool, true, false, Some, None, Option, inl, inr}, Math.Path.fun_ext}
use Rattle.std.proofs.Common.{option_and_then, option_map, slice_get, refl, sym, ap, subst, ◌∙◌, ne_eqb}
use Rattle.std.proofs.lemmas.{Bool.{cases_Bool, cond-true, cond-false, Decides.eqb_tells}, Option.{none-some, same_Some}}
use Rattle.cap_objects.specs.{Counts.{CountsAre, Owners, owned_by}, declared.{handouts.Handouts.Handouts, objects.Object.Object}, HandoutsIn.{objects_of, slot_based, slot_numbered}}
use Rattle.cap_objects.specs.Extents.{Objects, Sets, is_present}
use Rattle.cap_objects.specs.{Handed.{AreKept, held_of, with_held}, Indexes.{IsIndex, kept, number_key}}
use Rattle.cap_run.specs.{Numbers.{by_number, number_at, numbered}, RunChanges.counted}
use Rattle.cap_machine.specs.States.{put}
use Rattle.cap_run.proofs.ObjectLemmas.{kept_some}
use Rattle.cap_run.proofs.{IndexedLemmas.{owned-none, owned-number}, NumberLemmas.{at-number, slot-of}}

pub kept-by : (h : Handouts) → AreKept h.keeps h.count (objects_of h) (slot_numbered h) (slot_based h)
kept-by h = h.kept

-- what is in a slot is present
and_present : (found : Option Object) (o : Object) → option_and_then kept found ≡ Some o → is_present o ≡ true
and_present None o is = absurd (none-some o is)
and_present (Some x) o is = elim (cases_Bool (is_present x)) [
  | inl there ↦ subst (λ (y : Object). is_present y ≡ true) (kept_some x o is) there
  | inr gone_now ↦ absurd (none-some o (sym (cond-false (is_present x) (Some x) None gone_now) ∙ is))
]

pub present-by : (h : Handouts) (slot : ℕ) (o : Object) → objects_of h slot ≡ Some o → is_present o ≡ true
present-by h slot o is = and_present (slice_get h.slots.objects.items slot) o is

found_or : (found : Option Object) → (found ≡ None) ⊎ ((o : Object) × (found ≡ Some o))
found_or None = inl refl
found_or (Some o) = inr (o, refl)

-- an object that was counted
kept_with : (found : Option Object) (o : Object) (count : ℕ) → option_map (λ x. with_held x o.held) found ≡ Some o → count ≡ o.held
    → is_present o ≡ true → option_and_then (λ x. kept (with_held x count)) found ≡ Some o
kept_with None o count is same present = absurd (none-some o is)
kept_with (Some x) o count is same present =
    ap (λ (n : ℕ). kept (with_held x n)) same ∙ ap kept (same_Some (with_held x o.held) o is) ∙ cond-true (is_present o) (Some o) None present

gone_with : (found : Option Object) (count : ℕ) → (found ≡ None) ⊎ ((x : Object) × (found ≡ Some x) × (x.freed ≡ true)) → count ≡ 0
    → option_and_then (λ x. kept (with_held x count)) found ≡ None
gone_with found count (inl none) zero = ap (option_and_then (λ x. kept (with_held x count))) none
gone_with found count (inr it) zero =
    let gone : is_present (with_held it.0 count) ≡ false =
    ap (λ (n : ℕ). not it.0.freed || nat_lt 0 n) zero ∙ ap (λ (b : Bool). not b || nat_lt 0 0) it.2 in
    ap (option_and_then (λ x. kept (with_held x count))) it.1
    ∙ cond-false (is_present (with_held it.0 count)) (Some (with_held it.0 count)) None gone

module _ (objects : Objects) (index : ℕ → Option ℕ) (known : IsIndex number_key objects index) (owners : Owners)
    (counts : CountsAre owners (λ slot. held_of (objects slot)))
    (present : (slot : ℕ) (o : Object) → objects slot ≡ Some o → is_present o ≡ true) where
  -- present objects are those of which this holds, counted
  pub counted-are : (before : Objects)
      → ((n : ℕ) (o : Object) → by_number index objects n ≡ Some o → option_map (λ x. with_held x o.held) (before n) ≡ Some o)
      → ((n : ℕ) → by_number index objects n ≡ None → (before n ≡ None) ⊎ ((x : Object) × (before n ≡ Some x) × (x.freed ≡ true)))
      → by_number index objects ≡ counted before (numbered objects owners)
  counted-are before some none = fun_ext (λ n. elim (found_or (by_number index objects n)) [
    | inl gone ↦ gone ∙ sym (gone_with (before n) (owned_by (numbered objects owners) n) (none n gone) (owned-none objects index known owners n gone))
    | inr it ↦
        let at = slot-of objects index known n it.0 it.1 in
        let count : owned_by (numbered objects owners) n ≡ it.0.held =
        ap (owned_by (numbered objects owners)) (sym at.2) ∙ owned-number objects index known owners at.0 it.0 at.1 ∙ sym (counts at.0)
        ∙ ap held_of at.1 in
        it.1 ∙ sym (kept_with (before n) it.0 (owned_by (numbered objects owners) n) (some n it.0 it.1) count (present at.0 it.0 at.1))
  ])

module _ (old new : Objects) (old_index new_index : ℕ → Option ℕ) (old_known : IsIndex number_key old old_index)
    (new_known : IsIndex number_key new new_index) (owners : Owners) (counts : CountsAre owners (λ slot. held_of (new slot)))
    (present : (slot : ℕ) (o : Object) → new slot ≡ Some o → is_present o ≡ true)
    (slot number : ℕ) (entry before : Option Object) (set : Sets old slot entry new)
    (was : (o : Object) → old slot ≡ Some o → o.number ≡ number)
    (fresh : (s : ℕ) (o : Object) → old s ≡ Some o → o.number ≡ number → s ≡ slot)
    (here : (o : Object) → entry ≡ Some o → (o.number ≡ number) × (option_map (λ x. with_held x o.held) before ≡ Some o))
    (gone : entry ≡ None → (x : Object) × (before ≡ Some x) × (x.freed ≡ true)) where
  put_here : (n : ℕ) → number ≡ n → put (by_number old_index old) number before n ≡ before
  put_here n same = ap (put (by_number old_index old) number before) (sym same)
      ∙ cond-true (number == number) before _ (elim (eqb_tells number number) [
        | inl it ↦ it.0
        | inr other ↦ absurd (other.1 refl)
      ])

  put_away : (n : ℕ) → number ≢ n → put (by_number old_index old) number before n ≡ by_number old_index old n
  put_away n differ = cond-false (number == n) before (by_number old_index old n) (ne_eqb number n differ)

  some_put : (n : ℕ) (o : Object) → by_number new_index new n ≡ Some o
      → option_map (λ x. with_held x o.held) (put (by_number old_index old) number before n) ≡ Some o
  some_put n o is =
      let at = slot-of new new_index new_known n o is in
      elim (eqb_tells at.0 slot) [
        | inl same ↦
            let it = here o (sym set.0 ∙ ap new (sym same.1) ∙ at.1) in
            ap (option_map (λ x. with_held x o.held)) (put_here n (sym it.0 ∙ at.2)) ∙ it.1
        | inr unlike ↦
            let there : old at.0 ≡ Some o = sym (set.1 at.0 unlike.1) ∙ at.1 in
            ap (option_map (λ x. with_held x o.held)) (put_away n (λ e. unlike.1 (fresh at.0 o there (at.2 ∙ sym e)))
            ∙ ap (by_number old_index old) (sym at.2) ∙ at-number old old_index old_known at.0 o there)
      ]

  none_put : (n : ℕ) → by_number new_index new n ≡ None
      → (put (by_number old_index old) number before n ≡ None)
      ⊎ ((x : Object) × (put (by_number old_index old) number before n ≡ Some x) × (x.freed ≡ true))
  none_put n none = elim (eqb_tells number n) [
    | inl same ↦ elim (found_or entry) [
      | inl none_there ↦ let it = gone none_there in inr (it.0, put_here n same.1 ∙ it.1, it.2)
      | inr it ↦
          let o_number = (here it.0 it.1).0 in
          absurd (none-some it.0 (sym none ∙ ap (by_number new_index new) (sym same.1 ∙ sym o_number)
          ∙ at-number new new_index new_known slot it.0 (set.0 ∙ it.1)))
    ]
    | inr unlike ↦ elim (found_or (by_number old_index old n)) [
      | inl gone_too ↦ inl (put_away n unlike.1 ∙ gone_too)
      | inr it ↦
          let at = slot-of old old_index old_known n it.0 it.1 in
          let away : at.0 ≢ slot = λ e. unlike.1 (sym (was it.0 (ap old (sym e) ∙ at.1)) ∙ at.2) in
          absurd (none-some it.0 (sym none ∙ ap (by_number new_index new) (sym at.2)
          ∙ at-number new new_index new_known at.0 it.0 (set.1 at.0 away ∙ at.1)))
    ]
  ]

  -- the objects by number after the one in a slot changed
  pub counted-put : by_number new_index new ≡ counted (put (by_number old_index old) number before) (numbered new owners)
  counted-put = counted-are new new_index new_known owners counts present (put (by_number old_index old) number before) some_put none_put

-- an owner's number after objects changed
pub renumbered : (old new : Objects) (owner : Option ℕ)
    → ((s : ℕ) → owner ≡ Some s → (a : Object) × (b : Object) × (old s ≡ Some a) × (new s ≡ Some b) × (a.number ≡ b.number))
    → option_and_then (number_at new) owner ≡ option_and_then (number_at old) owner
renumbered old new None known = refl
renumbered old new (Some s) known =
    let it = known s refl in
    ap (option_map (λ object. object.number)) it.3 ∙ ap Some (sym it.4) ∙ sym (ap (option_map (λ object. object.number)) it.2)

pub number-of : (objects : Objects) (slot : ℕ) (o : Object) → objects slot ≡ Some o → number_at objects slot ≡ Some o.number
number-of objects slot o is = ap (option_map (λ object. object.number)) is
