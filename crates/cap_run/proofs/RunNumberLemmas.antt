-- Runs by the numbers of objects, after a step.
use Rattle.std.proofs.Common.{◌≡◌, ◌≢◌, ◌==◌, ◌&&◌, not, ℕ, Bool, true, false, Some, None, Option, option_and_then, if◌then◌else◌, length}
use Rattle.std.proofs.Common.{refl, sym, ap, subst, ◌∙◌}
use Rattle.std.proofs.Math.Path.{fun_ext}
use Rattle.std.proofs.lemmas.{Option.{none-some, same_Some}}
use Rattle.cap_word.specs.declared.word.Cap.{Cap}
use Rattle.cap_machine.specs.{declared.{limits.Limits.Limits, rules.Rules.Rules}, Helds.Held, States.{State, granule_key, put}}
use Rattle.cap_objects.specs.Counts.{CountsAre, Owners, at_key}
use Rattle.cap_objects.specs.{declared.{handouts.Handouts.Handouts, objects.Object.Object}, Extents.Objects, Handed.{IsRecounted, held_of}, HandoutsIn.{objects_of, slot_numbered}}
use Rattle.cap_objects.specs.Indexes.{IsIndex, number_key}
use Rattle.cap_objects.proofs.KeyLemmas.{at-same, choice_under}
use Rattle.cap_run.specs.{declared.specials.Specials.Specials, Harts.Harts}
use Rattle.cap_run.specs.{Numbers.{by_number, number_at, numbered, numbered_run}, Owned.{is_empty, owner_for}, Run.Run, GranuleSteps.Fills, RunChanges.{counted, stepped, with_named, with_place}}
use Rattle.cap_run.specs.{RunOf.{run_of, run_owners, run_state}, RunSteps.{Writes, WritesBoth}, Safety.IsSafe}
use Rattle.cap_run.proofs.{NumberLemmas.{alone-at, at-number, owned-number, owner-of, recounted-numbers, renumbered, slot-of}, ObjectLemmas.owner-there}

-- runs of the same parts
pub run-is : (a b : Run) → a.state ≡ b.state → a.owners ≡ b.owners → a.objects ≡ b.objects → a.count ≡ b.count → a.rules ≡ b.rules → a.limits ≡ b.limits
    → a.roots ≡ b.roots → a.steps ≡ b.steps → a.is_named ≡ b.is_named → a.granules ≡ b.granules → a.harts ≡ b.harts → a ≡ b
run-is a b state owners objects count rules limits roots steps is_named granules harts =
    ap (λ (x : State). record a { state = x }) state
    ∙ ap (λ (x : Owners). record a { state = b.state; owners = x }) owners
    ∙ ap (λ (x : Objects). record a { state = b.state; owners = b.owners; objects = x }) objects
    ∙ ap (λ (x : ℕ). record a { state = b.state; owners = b.owners; objects = b.objects; count = x }) count
    ∙ ap (λ (x : Rules). record b { harts = a.harts; rules = x; limits = a.limits; roots = a.roots; steps = a.steps; is_named = a.is_named; granules = a.granules }) rules
    ∙ ap (λ (x : Limits). record b { harts = a.harts; limits = x; roots = a.roots; steps = a.steps; is_named = a.is_named; granules = a.granules }) limits
    ∙ ap (λ (x : ℕ). record b { harts = a.harts; roots = x; steps = a.steps; is_named = a.is_named; granules = a.granules }) roots
    ∙ ap (λ (x : ℕ). record b { harts = a.harts; steps = x; is_named = a.is_named; granules = a.granules }) steps
    ∙ ap (λ (x : ℕ → Bool). record b { harts = a.harts; is_named = x; granules = a.granules }) is_named
    ∙ ap (λ (x : ℕ). record b { harts = a.harts; granules = x }) granules
    ∙ ap (λ (x : Harts). record b { harts = x }) harts

owner_for-none : (cap : Cap) → owner_for cap None ≡ None
owner_for-none held = same-choice (held.tag && not (is_empty held.word.0)) None
  where
    same-choice : (b : Bool) (o : Option ℕ) → (if b then o else o) ≡ o
    same-choice true o = refl
    same-choice false o = refl

-- the index of a machine's objects by their numbers
abbrev pub index_in : Handouts → ℕ → Option ℕ
index_in h = slot_numbered h

abbrev pub IsNumbered : Handouts → Type 0
IsNumbered h = IsIndex number_key (objects_of h) (index_in h)

-- no object has a number where none is in a slot
pub nowhere : (objects : Objects) → ((slot : ℕ) → objects slot ≡ None) → (slot : Option ℕ) → option_and_then objects slot ≡ None
nowhere objects none None = refl
nowhere objects none (Some slot) = none slot

-- an owner that is written, by its number
pub numbered-put : (f : ℕ → Option ℕ) (owners : Owners) (key : ℕ) (cap : Cap) (owner : Option ℕ) (other : ℕ)
    → option_and_then f (at_key owners key (owner_for cap owner) other)
    ≡ put (λ k. option_and_then f (owners k)) key (owner_for cap (option_and_then f owner)) other
numbered-put f owners key cap owner other =
    choice_under (option_and_then f) (key == other) (owner_for cap owner) (owners other)
    ∙ ap (λ (o : Option ℕ). if key == other then o else option_and_then f (owners other))
    (choice_under (option_and_then f) (cap.tag && not (is_empty cap.word.0)) owner None)

-- the same objects have the same numbers
pub same-numbers : (objects : Objects) (i j : ℕ → Option ℕ) → IsIndex number_key objects i → IsIndex number_key objects j
    → by_number i objects ≡ by_number j objects
same-numbers objects i j one two = fun_ext (λ n. by n (by_number i objects n) refl)
  where
    none : (n : ℕ) → by_number i objects n ≡ None → (o : Option Object) → by_number j objects n ≡ o → o ≡ None
    none n is None by = refl
    none n is (Some x) by =
        let s = slot-of objects j two n x by in
        absurd (none-some x (sym is ∙ ap (by_number i objects) (sym s.2) ∙ at-number objects i one s.0 x s.1))

    by : (n : ℕ) (o : Option Object) → by_number i objects n ≡ o → by_number i objects n ≡ by_number j objects n
    by n None is = is ∙ sym (none n is (by_number j objects n) refl)
    by n (Some x) is =
        let s = slot-of objects i one n x is in
        is ∙ sym (ap (by_number j objects) (sym s.2) ∙ at-number objects j two s.0 x s.1)

-- runs that are the same by slots are the same by numbers
pub numbered-same : (held new : Held) (specials sp : Specials) (h after : Handouts) → IsNumbered h → IsNumbered after
    → run_of new sp after ≡ run_of held specials h → numbered_run new sp after ≡ numbered_run held specials h
numbered-same held new specials sp h after index reindex is =
    let by : Run → (ℕ → Option ℕ) → Run = λ r i. record r { owners = numbered r.objects r.owners; objects = by_number i r.objects } in
    let objects = ap (λ (r : Run). r.objects) is in
    ap (λ (r : Run). by r (index_in after)) is
    ∙ ap (λ (o : Objects). record (numbered_run held specials h) { objects = o })
    (same-numbers (objects_of h) (index_in after) (index_in h) (subst (λ (o : Objects). IsIndex number_key o (index_in after)) objects reindex) index)

module _ (held new : Held) (specials sp : Specials) (h after : Handouts) (sized : length sp.registers.labels ≡ 32)
    (are : CountsAre (run_owners new sp) (λ s. held_of (objects_of after s))) (index : IsNumbered h) (reindex : IsNumbered after) where
  there : (key slot : ℕ) → run_owners new sp key ≡ Some slot → (x : Object) × (objects_of after slot ≡ Some x)
  there key slot is = let o = owner-there new sp (objects_of after) sized are key slot is in (o.0, o.1)

  -- owners after a step that handed out and freed nothing
  pub owners-after : IsRecounted (objects_of h) (objects_of after) → numbered (objects_of after) (run_owners new sp) ≡ numbered (objects_of h) (run_owners new sp)
  owners-after counts = renumbered (objects_of h) (objects_of after) (index_in h) (index_in after) index reindex counts (run_owners new sp) there

  -- objects after it
  pub objects-after : (owners : Owners) → numbered (objects_of after) (run_owners new sp) ≡ owners → IsRecounted (objects_of h) (objects_of after)
      → by_number (index_in after) (objects_of after) ≡ counted (by_number (index_in h) (objects_of h)) owners
  objects-after owners is counts =
      recounted-numbers (objects_of h) (objects_of after) (index_in h) (index_in after) index reindex counts (run_owners new sp) there are
      ∙ ap (counted (by_number (index_in h) (objects_of h))) is

  -- a place was written
  pub writes-numbered : (key : ℕ) (owner : Option ℕ) (cap : Cap) → Writes (run_of held specials h) key cap (owner_for cap owner) (run_of new sp after)
      → numbered_run new sp after ≡ stepped (with_place (numbered_run held specials h) key cap (option_and_then (number_at (objects_of h)) owner))
  writes-numbered key owner cap w =
      let old = numbered_run held specials h in
      let f = number_at (objects_of h) in
      let goal = stepped (with_place old key cap (option_and_then f owner)) in
      let owners : numbered (objects_of after) (run_owners new sp) ≡ goal.owners =
      owners-after w.objects
      ∙ fun_ext (λ k. ap (option_and_then f) (w.owners k) ∙ numbered-put f (run_owners held specials) key cap owner k)
      ∙ ap (λ (c : Cap). put old.owners key (owner_for c (option_and_then f owner))) (sym (at-same (run_state held specials) key cap)) in
      run-is (numbered_run new sp after) goal w.state owners (objects-after goal.owners owners w.objects)
      w.rest.count w.rest.rules w.rest.limits w.rest.roots w.rest.steps w.rest.is_named w.rest.granules w.rest.harts

  -- a granule was filled
  pub fills-numbered : (granule : ℕ) (cap : Cap) → Fills (run_of held specials h) granule cap (run_of new sp after)
      → numbered_run new sp after ≡ stepped (with_place (with_named (numbered_run held specials h) (Some granule)) (granule_key granule) cap None)
  fills-numbered granule cap w =
      let old = numbered_run held specials h in
      let f = number_at (objects_of h) in
      let key = granule_key granule in
      let goal = stepped (with_place (with_named old (Some granule)) key cap None) in
      let owners : numbered (objects_of after) (run_owners new sp) ≡ goal.owners =
      owners-after w.objects
      ∙ fun_ext (λ k. ap (option_and_then f) (w.owners k) ∙ choice_under (option_and_then f) (key == k) None (run_owners held specials k))
      ∙ ap (λ (o : Option ℕ). put old.owners key o) (sym (owner_for-none (put (run_state held specials) key cap key))) in
      run-is (numbered_run new sp after) goal w.state owners (objects-after goal.owners owners w.objects)
      w.count w.rules w.limits w.roots w.steps w.is_named w.granules w.harts

  -- two places were
  pub both-numbered : (first second : ℕ) (owner second_owner : Option ℕ) (one two : Cap)
      → WritesBoth (run_of held specials h) first one (owner_for one owner) second two (owner_for two second_owner) (run_of new sp after)
      → numbered_run new sp after ≡ (let f = number_at (objects_of h) in
      stepped (with_place (with_place (numbered_run held specials h) first one (option_and_then f owner)) second two (option_and_then f second_owner)))
  both-numbered first second owner second_owner one two w =
      let old = numbered_run held specials h in
      let f = number_at (objects_of h) in
      let a = option_and_then f owner in
      let b = option_and_then f second_owner in
      let goal = stepped (with_place (with_place old first one a) second two b) in
      let mid = put old.owners first (owner_for one a) in
      let owners : numbered (objects_of after) (run_owners new sp) ≡ goal.owners =
      owners-after w.objects
      ∙ fun_ext (λ k. ap (option_and_then f) (w.owners k)
      ∙ numbered-put f (at_key (run_owners held specials) first (owner_for one owner)) second two second_owner k
      ∙ ap (λ (o : Option ℕ). if second == k then owner_for two b else o) (numbered-put f (run_owners held specials) first one owner k))
      ∙ ap (λ (c : Cap). put mid second (owner_for c b)) (sym (at-same (put (run_state held specials) first one) second two))
      ∙ ap (λ (c : Cap). put (put old.owners first (owner_for c a)) second (owner_for (put (put (run_state held specials) first one) second two second) b))
      (sym (at-same (run_state held specials) first one)) in
      run-is (numbered_run new sp after) goal w.state owners (objects-after goal.owners owners w.objects)
      w.rest.count w.rest.rules w.rest.limits w.rest.roots w.rest.steps w.rest.is_named w.rest.granules w.rest.harts

-- what is safe by slots is safe by numbers
module _ (held : Held) (specials : Specials) (h : Handouts) (sized : length specials.registers.labels ≡ 32)
    (are : CountsAre (run_owners held specials) (λ s. held_of (objects_of h s))) (index : IsNumbered h) where
  apart : (one two : ℕ) (a b : Object) → one ≢ two → (s : ℕ) (t : ℕ) → objects_of h s ≡ Some a → objects_of h t ≡ Some b → a.number ≡ one → b.number ≡ two → s ≢ t
  apart one two a b differ s t s_is t_is a_is b_is same =
      differ (sym a_is ∙ ap (λ (o : Object). o.number) (same_Some a b (sym s_is ∙ ap (objects_of h) same ∙ t_is)) ∙ b_is)

  pub safe-numbered : (keeps : Bool) → IsSafe keeps (run_of held specials h) → IsSafe keeps (numbered_run held specials h)
  safe-numbered keeps safe = record {
    within = λ place n is.
        let o = owner-of (objects_of h) (run_owners held specials place) n is in
        let w = safe.within place o.0 o.1 in (
          w.0,
          ap (by_number (index_in h) (objects_of h)) (sym (ap (λ (x : Object). x.number) (same_Some w.0 o.2 (sym w.1 ∙ o.3)) ∙ o.4))
              ∙ at-number (objects_of h) (index_in h) index o.0 w.0 w.1,
          w.2,
          w.3,
        );
    extents = λ one two a b is is2 differ.
        let s = slot-of (objects_of h) (index_in h) index one a is in
        let t = slot-of (objects_of h) (index_in h) index two b is2 in
        safe.extents s.0 t.0 a b s.1 t.1 (apart one two a b differ s.0 t.0 s.1 t.1 s.2 t.2);
    reach = λ place other one two a b is is2 differ a_is b_is.
        let s = slot-of (objects_of h) (index_in h) index one a a_is in
        let t = slot-of (objects_of h) (index_in h) index two b b_is in
        let o = owner-of (objects_of h) (run_owners held specials place) one is in
        let p = owner-of (objects_of h) (run_owners held specials other) two is2 in
        let o_is = alone-at (objects_of h) (index_in h) index o.0 s.0 o.2 a o.3 s.1 (o.4 ∙ sym s.2) in
        let p_is = alone-at (objects_of h) (index_in h) index p.0 t.0 p.2 b p.3 t.1 (p.4 ∙ sym t.2) in
        safe.reach place other s.0 t.0 a b (o.1 ∙ ap Some o_is) (p.1 ∙ ap Some p_is) (apart one two a b differ s.0 t.0 s.1 t.1 s.2 t.2) s.1 t.1;
    alone = λ one two a b is is2 same.
        let s = slot-of (objects_of h) (index_in h) index one a is in
        let t = slot-of (objects_of h) (index_in h) index two b is2 in
        sym s.2 ∙ same ∙ t.2;
    held = λ n o is.
        let s = slot-of (objects_of h) (index_in h) index n o is in
        let own : (t : ℕ) (x : Object) → objects_of h t ≡ Some x → (t ≡ s.0 → x.number ≡ n) × (x.number ≡ n → t ≡ s.0) = λ t x t_is. (
          λ same. ap (λ (y : Object). y.number) (same_Some x o (sym t_is ∙ ap (objects_of h) same ∙ s.1)) ∙ s.2,
          λ same. alone-at (objects_of h) (index_in h) index t s.0 x o t_is s.1 (same ∙ sym s.2),
        ) in
        safe.held s.0 o s.1
        ∙ sym (owned-number (objects_of h) (run_owners held specials) n s.0 own
        (λ key t t_is. let y = owner-there held specials (objects_of h) sized are key t t_is in (y.0, y.1)));
  }
