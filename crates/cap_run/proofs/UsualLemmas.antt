-- Owners, their counts and what they own after a step of version 2.
use Rattle.std.specs.FinMap as map
use Rattle.std.proofs.Common.{◌≡◌, ◌≢◌, ◌==◌, ◌-◌, ◌<◌, ◌≤◌, ◌^◌, ℕ, Bool, true, false, IsTrue, Some, None, Option, inl, inr}
use Rattle.std.proofs.Common.{if◌then◌else◌, is_some, nat_lt, le-ltb, lt-ltb, ne_eqb, refl, sym, ap, subst, ◌∙◌, arith, option_map, option_and_then, unwrap_or, IfSome}
use Rattle.std.specs.Option.{option_map_or}
use Rattle.std.proofs.Math.Path.{fun_ext}
use Rattle.std.proofs.lemmas.{Bool.{cases_lt, cond-true, cond-false}, Option.{none-some, same_Some}}
use Rattle.cap_word.specs.declared.word.Cap.{Cap}
use Rattle.cap_bounds.specs.Bounds.{IsInside, base_of, top_of}
use Rattle.cap_log.specs.{declared.{kinds.Step.Step, lines.Place.{Place, TheVariants.{Register, Granule}}}, Lines.{IsPlace, IsStepInRange}}
use Rattle.tagmem.specs.Granules.{AreStored, Entry, Granules, blank}
use Rattle.cap_machine.specs.declared.limits.Limits.{Limits}
use Rattle.cap_machine.specs.{Accounts.Account, declared.{ends.StepEnd.{StepEnd, TheVariants.{Refused, NoMemory}}, rules.Rules.Rules}}
use Rattle.cap_machine.specs.Helds.{EndsStep, Held, IsKept, Makes, account_of, code_in, state_of}
use Rattle.cap_machine.specs.{Places.{IsCoded, place_at}, Runs.parent_of, States.{State, key_of}, Steps.{row_of, written_by}}
use Rattle.cap_machine.proofs.AuthorityLemmas.{one_back}
use Rattle.cap_objects.specs.Counts.{CountsAre, Moves, Owners, is_owner, most_places}
use Rattle.cap_objects.specs.{Extents.Objects, Handed.{IsRecounted, held_of}}
use Rattle.cap_objects.proofs.BelowLemmas.{below-same, counts_where}
use Rattle.cap_run.specs.declared.specials.Specials.{Specials}
use Rattle.cap_run.specs.{Owned.{AreWithin, IsWithin, object_by, owner_for}, Run.{first_special}, RunOf.{run_owners, run_state}}
use Rattle.cap_run.specs.{Specials.{cap_in, label_in}, RunSteps.IsUnstepped, UsualSteps.{disowned, main_owners, owner_at}}
use Rattle.cap_run.proofs.OwnerLemmas.{counts-to, either-key, owner_for-some, within-came}

pub usual-ended : (old : Held) (step : Step) (end : StepEnd) (new : Held) → EndsStep old step end new → new ≡ old
usual-ended old step (Refused refusal) new h = h.1
usual-ended old step NoMemory new h = h.2

pub place-low : (place : Place) → IsPlace place → key_of place < first_special
place-low (Register n) range = omega (arith, range.1)
place-low (Granule g) range = let f : g < 2 ^ 60 = range in omega arith

-- an owned place is tagged
coded_tag : (tag : Bool) (code slot : ℕ) → IsCoded tag code → object_by (place_at code) ≡ Some slot → IsTrue tag
coded_tag true code slot coded is = refl
coded_tag false code slot coded is = absurd (none-some slot (sym (ap (λ (c : ℕ). object_by (place_at c)) (coded.0.1 refl)) ∙ is))

-- the parent of a place that isn't written is itself
pub own_parent : (writes : Option (Place × Cap)) (key : ℕ) (other : Option ℕ)
    → ((place : Place) → option_map (λ (w : Place × Cap). w.0) writes ≡ Some place → key_of place ≢ key)
    → (if option_map_or (λ (to : Place × Cap). key_of to.0 == key) writes false then other else Some key) ≡ Some key
own_parent None key other differ = refl
own_parent (Some w) key other differ = cond-false (key_of w.0 == key) other (Some key) (ne_eqb (key_of w.0) key (differ w.0 refl))

pub under_then : (f : ℕ → Option Place) (o : Option ℕ) → object_by (option_and_then f o) ≡ option_and_then (λ k. object_by (f k)) o
under_then f None = refl
under_then f (Some k) = refl

-- past the granules nothing is owned
code_far : (memory : Granules) (granule : ℕ) (o : Option Entry) → AreStored memory → map.get memory granule ≡ o → 2 ^ 60 ≤ granule
    → (let entry = unwrap_or o blank in entry.2) ≡ 0
code_far memory granule None stored is far = refl
code_far memory granule (Some entry) stored is far = absurd (let e = (stored granule entry is).in_memory in omega arith)

pub main-far : (held : Held) (key : ℕ) → AreStored held.memory → first_special ≤ key → main_owners held key ≡ None
main-far held key stored far =
    let past : nat_lt key 32 ≡ false = le-ltb key 32 (omega arith) in
    let code : code_in held key ≡ 0 =
    cond-false (nat_lt key 32) _ _ past ∙ code_far held.memory (key - 32) (map.get held.memory (key - 32)) stored refl (omega arith) in
    ap (λ (c : ℕ). object_by (place_at c)) code

-- registers and granules, and special registers, of a run
pub owners-main : (held : Held) (specials : Specials) (key : ℕ) → key < first_special → run_owners held specials key ≡ main_owners held key
owners-main held specials key low = cond-true (nat_lt key first_special) (main_owners held key) _ (lt-ltb key first_special low)

pub owners-special : (held : Held) (specials : Specials) (key : ℕ) → first_special ≤ key
    → run_owners held specials key ≡ object_by (place_at (label_in specials (key - first_special)))
owners-special held specials key high = cond-false (nat_lt key first_special) (main_owners held key) _ (le-ltb key first_special high)

pub state-main : (held : Held) (specials : Specials) (key : ℕ) → key < first_special → run_state held specials key ≡ state_of held key
state-main held specials key low = cond-true (nat_lt key first_special) (state_of held key) _ (lt-ltb key first_special low)

pub state-special : (held : Held) (specials : Specials) (key : ℕ) → first_special ≤ key → run_state held specials key ≡ cap_in specials (key - first_special)
state-special held specials key high = cond-false (nat_lt key first_special) (state_of held key) _ (le-ltb key first_special high)

-- disowning takes owners away alone
pub disowned-some : (written : Option Place) (state : State) (owners : Owners) (key slot : ℕ) → disowned written state owners key ≡ Some slot → owners key ≡ Some slot
disowned-some None state owners key slot is = is
disowned-some (Some (Granule g)) state owners key slot is = is
disowned-some (Some (Register n)) state owners key slot is = elim (either-key owners n (owner_for (state n) (owners n)) key) [
  | inl here ↦ let o = owner_for-some (state n) (owners n) slot (sym here.1 ∙ is) in ap owners (sym here.0) ∙ o.2
  | inr away ↦ sym away.1 ∙ is
]

pub disowned-other : (written : Option Place) (state : State) (owners : Owners) (key : ℕ) → ((place : Place) → written ≡ Some place → key_of place ≢ key)
    → disowned written state owners key ≡ owners key
disowned-other None state owners key differ = refl
disowned-other (Some (Granule g)) state owners key differ = refl
disowned-other (Some (Register n)) state owners key differ =
    cond-false (n == key) (owner_for (state n) (owners n)) (owners key) (ne_eqb n key (differ (Register n) refl))

at_there : (owners : Owners) (written : Option Place) (slot : ℕ) {P : Type 0} → ((key : ℕ) → owners key ≡ Some slot → P) → owner_at owners written ≡ Some slot → P
at_there owners None slot each is = absurd (none-some slot is)
at_there owners (Some place) slot each is = each (key_of place) is

-- the account of a machine whose labels alone changed
pub unstepped-account : (old new : Held) → IsUnstepped old new → state_of new ≡ state_of old
    → account_of new ≡ record (account_of old) { origin = (account_of new).origin }
unstepped-account old new same state =
    ap (λ (s : State). record (account_of new) { state = s }) state
    ∙ ap (λ (r : Rules). record (account_of new) { state = state_of old; rules = r }) same.0
    ∙ ap (λ (m : Granules). record (account_of new) {
      state = state_of old;
      rules = old.rules;
      is_named = λ granule. is_some (map.get m granule);
      granules = map.len m;
    }) same.1
    ∙ ap (λ (n : ℕ). record (account_of old) { origin = (account_of new).origin; limits = new.limits; roots = n; steps = new.steps }) same.2
    ∙ ap (λ (n : ℕ). record (account_of old) { origin = (account_of new).origin; limits = new.limits; steps = n }) same.3
    ∙ ap (λ (l : Limits). record (account_of old) { origin = (account_of new).origin; limits = l }) same.4

module _ (old mid new : Held) (specials : Specials) (step : Step) (written : Option Place) (range : IsStepInRange step)
    (kept : IsKept old.registers old.codes old.memory) (stored : AreStored old.memory) (kept_after : IsKept mid.registers mid.codes mid.memory)
    (makes : Makes old step mid) (written_is : written ≡ written_by (state_of old) step) (low : IfSome written IsPlace)
    (state_is : state_of new ≡ state_of mid)
    (owners_are : (key : ℕ) → main_owners new key ≡ disowned written (state_of mid) (main_owners mid) key) where
  -- where the origin of a place comes from
  origin_is : (key : ℕ) → (account_of mid).origin key
      ≡ option_and_then (account_of old).origin (parent_of (state_of old) step (state_of mid) key)
  origin_is key =
      ap (λ (a : Account). a.origin key) makes.account
      ∙ ap (λ (s : State). option_and_then (account_of old).origin (parent_of (state_of old) step s key)) (sym (ap (λ (a : Account). a.state) makes.account))

  pub mid-owner : (key : ℕ) → main_owners mid key ≡ option_and_then (main_owners old) (parent_of (state_of old) step (state_of mid) key)
  mid-owner key = ap object_by (origin_is key) ∙ under_then (account_of old).origin (parent_of (state_of old) step (state_of mid) key)

  mid-kept : (key : ℕ) → ((place : Place) → written ≡ Some place → key_of place ≢ key) → main_owners mid key ≡ main_owners old key
  mid-kept key differ =
      mid-owner key ∙ ap (option_and_then (main_owners old)) (own_parent (row_of (state_of old) step).writes key _ (λ place is. differ place (written_is ∙ is)))

  -- the owners after the step
  pub usual-owners : (key : ℕ) → main_owners new key
      ≡ disowned (written_by (state_of old) step) (state_of new) (λ k. option_and_then (main_owners old) (parent_of (state_of old) step (state_of new) k)) key
  usual-owners key =
      owners_are key
      ∙ ap (λ (o : Owners). disowned written (state_of mid) o key) (fun_ext mid-owner)
      ∙ ap (λ (s : State). disowned written s (λ k. option_and_then (main_owners old) (parent_of (state_of old) step s k)) key) (sym state_is)
      ∙ ap (λ (w : Option Place). disowned w (state_of new) (λ k. option_and_then (main_owners old) (parent_of (state_of old) step (state_of new) k)) key) written_is

  -- what is owned was owned, and reached as far
  pub came : (key slot : ℕ) → main_owners new key ≡ Some slot
      → (from : ℕ) × (main_owners old from ≡ Some slot) × IsTrue (state_of new key).tag
      × IsInside (base_of (state_of new key).word.0) (top_of (state_of new key).word.0) (base_of (state_of old from).word.0) (top_of (state_of old from).word.0)
  came key slot is =
      let owned = disowned-some written (state_of mid) (main_owners mid) key slot (sym (owners_are key) ∙ is) in
      let tagged = coded_tag (state_of mid key).tag (code_in mid key) slot (kept_after.coded key) owned in
      let back = one_back old.rules (state_of old) step (state_of mid) key range kept.sound makes.leads tagged in
      subst (λ (s : State). (from : ℕ) × (main_owners old from ≡ Some slot) × IsTrue (s key).tag
      × IsInside (base_of (s key).word.0) (top_of (s key).word.0) (base_of (state_of old from).word.0) (top_of (state_of old from).word.0)) (sym state_is) (
        back.0,
        sym (ap (option_and_then (main_owners old)) back.1.parent) ∙ sym (mid-owner key) ∙ owned,
        tagged,
        back.1.no_more.inside,
      )

  from-low : (from slot : ℕ) → main_owners old from ≡ Some slot → from < first_special
  from-low from slot is = elim (cases_lt from first_special) [
    | inl near ↦ near
    | inr far ↦ absurd (none-some slot (sym (main-far old from stored far) ∙ is))
  ]

  pub within-usual : (objects after : Objects) → AreWithin (run_state old specials) (run_owners old specials) objects → IsRecounted objects after
      → AreWithin (run_state new specials) (run_owners new specials) after
  within-usual objects after known counted =
      within-came (run_state old specials) (run_state new specials) (run_owners old specials) (run_owners new specials) objects after known counted
      (λ key slot is. elim (cases_lt key first_special) [
        | inl near ↦
            let c = came key slot (sym (owners-main new specials key near) ∙ is) in
            let there = from-low c.0 slot c.1 in (
              c.0,
              owners-main old specials c.0 there ∙ c.1,
              λ x w.
                  let v = subst (λ (cap : Cap). IsWithin cap x) (state-main old specials c.0 there) w in
                  subst (λ (cap : Cap). IsWithin cap x) (sym (state-main new specials key near))
                  (record { tagged = c.2; from = omega (arith, c.3, v.from); until = omega (arith, c.3, v.until) }),
            )
        | inr high ↦ (
          key,
          owners-special old specials key high ∙ sym (owners-special new specials key high) ∙ is,
          λ x w. subst (λ (cap : Cap). IsWithin cap x) (state-special old specials key high ∙ sym (state-special new specials key high)) w,
        )
      ])

  -- places that weren't written keep their owners
  owners-kept : (key : ℕ) → ((place : Place) → written ≡ Some place → key_of place ≢ key) → run_owners new specials key ≡ run_owners old specials key
  owners-kept key differ = elim (cases_lt key first_special) [
    | inl near ↦
        owners-main new specials key near ∙ owners_are key ∙ disowned-other written (state_of mid) (main_owners mid) key differ ∙ mid-kept key differ
        ∙ sym (owners-main old specials key near)
    | inr high ↦ owners-special new specials key high ∙ sym (owners-special old specials key high)
  ]

  module _ (objects : Objects) (counted : CountsAre (run_owners old specials) (λ n. held_of (objects n))) where
    pub owned-there : (key slot : ℕ) → main_owners old key ≡ Some slot → 0 < held_of (objects slot)
    owned-there key slot is =
        let near = from-low key slot is in
        counts_where (run_owners old specials) (λ n. held_of (objects n)) key slot counted (omega (arith, near)) (owners-main old specials key near ∙ is)

    pub from-there : (slot : ℕ) → owner_at (main_owners old) written ≡ Some slot → 0 < held_of (objects slot)
    from-there slot is = at_there (main_owners old) written slot (λ key owned. owned-there key slot owned) is

    pub to-there : (slot : ℕ) → owner_at (main_owners new) written ≡ Some slot → 0 < held_of (objects slot)
    to-there slot is = at_there (main_owners new) written slot (λ key owned. let c = came key slot owned in owned-there c.0 slot c.1) is

    counts_by : (w : Option Place) → IfSome w IsPlace → (from to : Option ℕ) (after : ℕ → ℕ)
        → ((key : ℕ) → ((place : Place) → w ≡ Some place → key_of place ≢ key) → run_owners new specials key ≡ run_owners old specials key)
        → from ≡ owner_at (main_owners old) w → to ≡ owner_at (main_owners new) w
        → Moves (λ n. held_of (objects n)) from to after → CountsAre (run_owners new specials) after
    counts_by None range_is from to after kept_owners from_is to_is moves = λ slot.
        let moved = subst (λ (f : Option ℕ). Moves (λ n. held_of (objects n)) f None after) from_is
        (subst (λ (t : Option ℕ). Moves (λ n. held_of (objects n)) from t after) to_is moves) in
        let same = below-same (λ k. is_owner slot (run_owners new specials k)) (λ k. is_owner slot (run_owners old specials k)) most_places
        (λ k under. ap (is_owner slot) (kept_owners k (λ place is. absurd (none-some place is)))) in
        omega (arith, moved slot, counted slot, same)
    counts_by (Some place) range_is from to after kept_owners from_is to_is moves =
        let near = place-low place range_is in
        counts-to (run_owners old specials) (run_owners new specials) (λ n. held_of (objects n)) after (key_of place) from to
        (run_owners new specials (key_of place)) (omega (arith, near)) counted (from_is ∙ sym (owners-main old specials (key_of place) near))
        (to_is ∙ sym (owners-main new specials (key_of place) near)) moves
        (λ other. elim (either-key (run_owners old specials) (key_of place) (run_owners new specials (key_of place)) other) [
          | inl here ↦ ap (run_owners new specials) (sym here.0) ∙ sym here.1
          | inr away ↦ kept_owners other (λ p is e. away.0 (ap key_of (same_Some place p is) ∙ e)) ∙ sym away.1
        ])

    pub counts-usual : (from to : Option ℕ) (after : ℕ → ℕ) → from ≡ owner_at (main_owners old) written → to ≡ owner_at (main_owners new) written
        → Moves (λ n. held_of (objects n)) from to after → CountsAre (run_owners new specials) after
    counts-usual from to after from_is to_is moves = counts_by written low from to after (λ key differ. owners-kept key differ) from_is to_is moves
