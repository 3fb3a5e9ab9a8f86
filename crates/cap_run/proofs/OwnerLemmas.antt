-- Owners, their counts and what they own, after places were written.
use Rattle.std.proofs.Common.{◌≡◌, ◌≢◌, ◌==◌, ◌+◌, ◌<◌, ◌≤◌, ◌&&◌, not, nat_le, ℕ, Bool, true, false, IsTrue, Some, None, Option, inl, inr}
use Rattle.std.proofs.Common.{if◌then◌else◌, option_and_then, refl, sym, ap, subst, ◌∙◌, arith, ◌⊎◌, eq-eqb, ne_eqb}
use Rattle.std.proofs.lemmas.{Bool.{and_parts, cases_Bool, cond-true, cond-false, false≢true, Decides.eqb_tells}, Option.{none-some, same_Some}}
use Rattle.std.proofs.lemmas.Bool.Decides.{nat_tests}
use Rattle.cap_word.specs.declared.word.Cap.{Cap}
use Rattle.cap_bounds.specs.Bounds.{base_of, top_of}
use Rattle.cap_ops.specs.Authority.{StaysWithin}
use Rattle.cap_machine.specs.{Parents.IsSoundCap, States.{State, put}}
use Rattle.cap_objects.specs.Counts.{CountsAre, Moves, Owners, at_key, count_below, is_owner, most_places, one_for, owned_by}
use Rattle.cap_objects.specs.{declared.objects.Object.Object, Extents.{Objects, is_present}, Handed.{IsRecounted, held_of, with_held}, Indexes.kept}
use Rattle.cap_objects.proofs.{BelowLemmas.{CountsAre-move, below-put, below-same}, KeyLemmas.choice_under}
use Rattle.cap_run_log.specs.declared.lines.RunRegister.{RunRegister, TheVariants.{General, Special}}
use Rattle.cap_run_log.specs.RunLines.{IsRunRegister}
use Rattle.std.specs.FinMap as map
use Rattle.std.proofs.Common.{is_some}
use Rattle.tagmem.specs.Granules.{Granules}
use Rattle.cap_machine.specs.Helds.{Held}
use Rattle.cap_objects.specs.declared.handouts.Handouts.{Handouts}
use Rattle.cap_run.specs.{declared.specials.Specials.Specials, Specials.harts_in, RunOf.run_of, RunSteps.{IsStepped, IsUnstepped}}
use Rattle.cap_run.specs.{Owned.{AreWithin, IsWithin, is_empty, owner_for}, Run.register_key}

-- what is written can be read
pub readable : (register : RunRegister) → IsRunRegister 1 register → IsRunRegister 0 register
readable (General number) fits = fits.1
readable (Special number) fits = fits

pub source-low : (register : RunRegister) → IsRunRegister 0 register → register_key register < most_places
source-low (General number) range = omega (arith, range)
source-low (Special number) range = omega (arith, range)

pub target-low : (register : RunRegister) → IsRunRegister 1 register → register_key register < most_places
target-low (General number) range = omega (arith, range.1)
target-low (Special number) range = omega (arith, range)

not_true : (b : Bool) → not b ≡ true → b ≡ false
not_true true is = absurd (false≢true is)
not_true false is = refl

-- what has an owner after it was written
pub owner_for-some : (cap : Cap) (owner : Option ℕ) (slot : ℕ) → owner_for cap owner ≡ Some slot
    → IsTrue cap.tag × (base_of cap.word.0 < top_of cap.word.0) × (owner ≡ Some slot)
owner_for-some cap owner slot is = elim (cases_Bool (cap.tag && not (is_empty cap.word.0))) [
  | inl owns ↦
      let parts = and_parts cap.tag (not (is_empty cap.word.0)) owns in
      let long : nat_le (top_of cap.word.0) (base_of cap.word.0) ≡ false = not_true (nat_le (top_of cap.word.0) (base_of cap.word.0)) parts.1 in (
        parts.0,
        grind (arith, nat_tests, long),
        sym (cond-true (cap.tag && not (is_empty cap.word.0)) owner None owns) ∙ is,
      )
  | inr none ↦ absurd (none-some slot (sym (cond-false (cap.tag && not (is_empty cap.word.0)) owner None none) ∙ is))
]

-- an object that was recounted
was_one : (was : Option Object) (count : ℕ) (o : Object) → option_and_then (λ object. kept (with_held object count)) was ≡ Some o
    → (x : Object) × (was ≡ Some x) × (o ≡ with_held x count)
was_one None count o is = absurd (none-some o is)
was_one (Some x) count o is = elim (cases_Bool (is_present (with_held x count))) [
  | inl there ↦
      (x, refl, sym (same_Some (with_held x count) o (sym (cond-true (is_present (with_held x count)) (Some (with_held x count)) None there) ∙ is)))
  | inr gone ↦ absurd (none-some o (sym (cond-false (is_present (with_held x count)) (Some (with_held x count)) None gone) ∙ is))
]

pub recounted-some : (old new : Objects) → IsRecounted old new → (slot : ℕ) (o : Object) → new slot ≡ Some o
    → (x : Object) × (old slot ≡ Some x) × (o ≡ with_held x (held_of (new slot)))
recounted-some old new counted slot o is = was_one (old slot) (held_of (new slot)) o (sym (counted slot) ∙ is)

-- what stays within a source stays within the object that owns it
pub shrinks : (cap source : Cap) (object : Object) → IsTrue cap.tag → base_of cap.word.0 < top_of cap.word.0 → IsSoundCap source
    → StaysWithin cap source → IsWithin source object → IsWithin cap object
shrinks cap source object tagged some sound stays is =
    let reach = (stays.no_more tagged (sound (stays.from_tagged tagged))).inside in
    record { tagged = tagged; from = omega (arith, reach, is.from); until = omega (arith, reach, is.until) }

-- where all that is owned comes from what its owner owned before
pub within-came : (old new : State) (owners after : Owners) (objects changed : Objects) → AreWithin old owners objects → IsRecounted objects changed
    → ((key slot : ℕ) → after key ≡ Some slot
    → (from : ℕ) × (owners from ≡ Some slot) × ((x : Object) → IsWithin (old from) x → IsWithin (new key) x))
    → AreWithin new after changed
within-came old new owners after objects changed known counted came key slot o owned there =
    let was = recounted-some objects changed counted slot o there in
    let c = came key slot owned in
    let is = c.2 was.0 (known c.0 slot was.0 c.1 was.1) in
    subst (IsWithin (new key)) (sym was.2) (record { tagged = is.tagged; from = is.from; until = is.until })

-- counts after a place got another owner
pub counts-to : (owners after : Owners) (counts new : ℕ → ℕ) (key : ℕ) (from to owner : Option ℕ) → key < most_places → CountsAre owners counts
    → from ≡ owners key → to ≡ owner → Moves counts from to new → ((other : ℕ) → after other ≡ at_key owners key owner other) → CountsAre after new
counts-to owners after counts new key from to owner low are from_is to_is moves after_is slot =
    let moved = subst (λ (f : Option ℕ). Moves counts f owner new) from_is (subst (λ (t : Option ℕ). Moves counts from t new) to_is moves) in
    CountsAre-move owners counts new key owner low are moved slot
    ∙ below-same _ _ most_places (λ k under. ap (is_owner slot) (sym (after_is k)))

-- a place that was written, or another
pub either-key : {A : Type 0} (told : ℕ → A) (key : ℕ) (value : A) (other : ℕ)
    → ((key ≡ other) × (at_key told key value other ≡ value)) ⊎ ((key ≢ other) × (at_key told key value other ≡ told other))
either-key told key value other = elim (eqb_tells key other) [
  | inl same ↦ inl (same.1, cond-true (key == other) value (told other) same.0)
  | inr unlike ↦ inr (unlike.1, cond-false (key == other) value (told other) unlike.0)
]

-- what a place that was written owns comes from its source
pub came-written : (old : State) (owners after : Owners) (key from : ℕ) (cap : Cap) → IsSoundCap (old from)
    → (IsTrue cap.tag → StaysWithin cap (old from)) → ((other : ℕ) → after other ≡ at_key owners key (owner_for cap (owners from)) other)
    → (other slot : ℕ) → after other ≡ Some slot
    → (place : ℕ) × (owners place ≡ Some slot) × ((x : Object) → IsWithin (old place) x → IsWithin (put old key cap other) x)
came-written old owners after key from cap sound stays after_is other slot is = elim (either-key owners key (owner_for cap (owners from)) other) [
  | inl here ↦
      let o = owner_for-some cap (owners from) slot (sym here.1 ∙ sym (after_is other) ∙ is) in
      let cap_is : put old key cap other ≡ cap = cond-true (key == other) cap (old other) (let e : (key == other) ≡ true = eq-eqb key other here.0 in e) in (
        from,
        o.2,
        λ x known. subst (λ (c : Cap). IsWithin c x) (sym cap_is) (shrinks cap (old from) x o.0 o.1 sound (stays o.0) known),
      )
  | inr away ↦ (
    other,
    sym away.1 ∙ sym (after_is other) ∙ is,
    λ x known. subst (λ (c : Cap). IsWithin c x) (sym (cond-false (key == other) cap (old other) (ne_eqb key other away.0))) known,
  )
]

-- a step that changed registers alone was counted
pub stepped : (old mid new : Held) (specials special_after : Specials) (handouts after : Handouts) → IsUnstepped old mid
    → new ≡ record mid { steps = mid.steps + 1 } → after.count ≡ handouts.count → harts_in special_after ≡ harts_in specials
    → IsStepped (run_of old specials handouts) (run_of new special_after after)
stepped old mid new specials special_after handouts after same is count harts = record {
  count = count;
  harts = harts;
  rules = ap (λ (h : Held). h.rules) is ∙ same.0;
  limits = ap (λ (h : Held). h.limits) is ∙ same.4;
  roots = ap (λ (h : Held). h.roots) is ∙ same.2;
  steps = ap (λ (h : Held). h.steps) is ∙ ap (λ (n : ℕ). n + 1) same.3;
  is_named = ap {B = ℕ → Bool} (λ (h : Held) (granule : ℕ). is_some (map.get h.memory granule)) is ∙ ap {B = ℕ → Bool} (λ (m : Granules) (granule : ℕ). is_some (map.get m granule)) same.1;
  granules = ap (λ (h : Held). map.len h.memory) is ∙ ap (λ (m : Granules). map.len m) same.1;
}

-- the count of an object's places where one of them got another owner
owned-put : (owners : Owners) (key : ℕ) (owner : Option ℕ) (slot : ℕ) → key < most_places
    → owned_by (at_key owners key owner) slot + one_for slot (owners key) ≡ owned_by owners slot + one_for slot owner
owned-put owners key owner slot low =
    let holds : ℕ → Bool = λ k. is_owner slot (owners k) in
    let put_is = below-put holds key (is_owner slot owner) most_places low in
    let same : count_below (at_key holds key (is_owner slot owner)) most_places ≡ owned_by (at_key owners key owner) slot =
    below-same _ _ most_places (λ k under. sym (choice_under (is_owner slot) _ owner (owners k))) in
    omega (arith, put_is, same)

module _ (owners : Owners) (counts : ℕ → ℕ) (first second : ℕ) (differ : first ≢ second) (low : first < most_places) (second_low : second < most_places)
    (are : CountsAre owners counts) where
  owned-both : (one two : Option ℕ) (slot : ℕ)
      → owned_by (at_key (at_key owners first one) second two) slot + one_for slot (owners first) + one_for slot (owners second)
      ≡ counts slot + one_for slot one + one_for slot two
  owned-both one two slot =
      let a = owned-put owners first one slot low in
      let b = owned-put (at_key owners first one) second two slot second_low in
      let there : one_for slot (at_key owners first one second) ≡ one_for slot (owners second) =
      ap (one_for slot) (cond-false (first == second) one (owners second) (ne_eqb first second differ)) in
      let count = are slot in
      omega (arith, a, b, there, count)

  pub both-few : (from second_from : Option ℕ) → from ≡ owners first → second_from ≡ owners second → (slot : ℕ)
      → one_for slot from + one_for slot second_from ≤ counts slot
  both-few from second_from is second_is slot =
      let both = owned-both None None slot in
      let a = ap (one_for slot) is in
      let b = ap (one_for slot) second_is in
      omega (arith, both, a, b)

  pub counts-both : (after : Owners) (new : ℕ → ℕ) (from to second_from second_to one two : Option ℕ) → from ≡ owners first → to ≡ one
      → second_from ≡ owners second → second_to ≡ two
      → ((slot : ℕ) → new slot + one_for slot from + one_for slot second_from ≡ counts slot + one_for slot to + one_for slot second_to)
      → ((other : ℕ) → after other ≡ at_key (at_key owners first one) second two other) → CountsAre after new
  counts-both after new from to second_from second_to one two from_is to_is second_from_is second_to_is moves after_is slot =
      let both = owned-both one two slot in
      let a = ap (one_for slot) from_is in
      let b = ap (one_for slot) to_is in
      let d = ap (one_for slot) second_from_is in
      let e = ap (one_for slot) second_to_is in
      let moved = moves slot in
      let same : owned_by (at_key (at_key owners first one) second two) slot ≡ owned_by after slot =
      below-same _ _ most_places (λ k under. ap (is_owner slot) (sym (after_is k))) in
      omega (arith, both, a, b, d, e, moved, same)

-- what two places that were written own comes from their sources
pub came-both : (old : State) (owners after : Owners) (first first_from second second_from : ℕ) (one two : Cap)
    → IsSoundCap (old first_from) → IsSoundCap (old second_from)
    → (IsTrue one.tag → StaysWithin one (old first_from)) → (IsTrue two.tag → StaysWithin two (old second_from))
    → ((other : ℕ) → after other ≡ at_key (at_key owners first (owner_for one (owners first_from))) second (owner_for two (owners second_from)) other)
    → (other slot : ℕ) → after other ≡ Some slot
    → (place : ℕ) × (owners place ≡ Some slot) × ((x : Object) → IsWithin (old place) x → IsWithin (put (put old first one) second two other) x)
came-both old owners after first first_from second second_from one two sound second_sound stays second_stays after_is other slot is =
    let mid = at_key owners first (owner_for one (owners first_from)) in
    elim (either-key mid second (owner_for two (owners second_from)) other) [
      | inl here ↦
          let o = owner_for-some two (owners second_from) slot (sym here.1 ∙ sym (after_is other) ∙ is) in
          let cap_is : put (put old first one) second two other ≡ two = cond-true (second == other) two _ (eq-eqb second other here.0) in (
            second_from,
            o.2,
            λ x known. subst (λ (c : Cap). IsWithin c x) (sym cap_is) (shrinks two (old second_from) x o.0 o.1 second_sound (second_stays o.0) known),
          )
      | inr away ↦
          let rest = came-written old owners mid first first_from one sound stays (λ k. refl) other slot (sym away.1 ∙ sym (after_is other) ∙ is) in (
            rest.0,
            rest.1,
            λ x known. subst (λ (c : Cap). IsWithin c x)
                (sym (cond-false (second == other) two (put old first one other) (ne_eqb second other away.0))) (rest.2 x known),
          )
    ]

-- owners after two places were written
pub owners-both : (owners mid after : Owners) (first second : ℕ) (label second_label one two : Option ℕ) → label ≡ one → second_label ≡ two
    → ((other : ℕ) → mid other ≡ at_key owners first label other) → ((other : ℕ) → after other ≡ at_key mid second second_label other)
    → (other : ℕ) → after other ≡ at_key (at_key owners first one) second two other
owners-both owners mid after first second label second_label one two is second_is mid_is after_is other =
    after_is other
    ∙ ap (λ (o : Option ℕ). at_key mid second o other) second_is
    ∙ ap (λ (o : Option ℕ). if second == other then two else o) (mid_is other ∙ ap (λ (o : Option ℕ). at_key owners first o other) is)

pub unstepped-twice : (old mid new : Held) → IsUnstepped old mid → IsUnstepped mid new → IsUnstepped old new
unstepped-twice old mid new a b = (b.0 ∙ a.0, b.1 ∙ a.1, b.2 ∙ a.2, b.3 ∙ a.3, b.4 ∙ a.4)
