-- The run by numbers after an object was handed out, widened or freed.
use Rattle.std.proofs.{Common.{◌≡◌, ◌==◌, ◌+◌, ◌-◌, ◌&&◌, not, nat_lt, max, min, ℕ, true, Some, None, Option, inl, inr, length}, Math.Path.fun_ext}
use Rattle.std.proofs.Common.{if◌then◌else◌, option_and_then, option_map, refl, sym, ap, subst, ◌∙◌, arith, ne_eqb, eq-eqb}
use Rattle.std.proofs.lemmas.{Bool.{cases_Bool, cond-true, cond-false, Decides.eqb_tells}, Option.{none-some, same_Some}}
use Rattle.cap_word.specs.declared.word.Cap.{Cap}
use Rattle.cap_bounds.specs.Bounds.{base_of, top_of}
use Rattle.cap_machine.specs.{Helds.Held, States.put}
use Rattle.cap_objects.specs.{Counts.{CountsAre, Owners, at_key}, declared.{handouts.Handouts.Handouts, objects.Object.Object}, HandoutsIn.{objects_of, slot_numbered}}
use Rattle.cap_objects.specs.{Extents.Objects, Handed.{IsLive, freed_in, handed_out, held_of, widened, with_held}, Indexes.kept, Objects.top_of_extent}
use Rattle.cap_objects.proofs.KeyLemmas.{choice_under}
use Rattle.cap_run_log.specs.declared.lines.RunStep.TheVariants as steps
use Rattle.cap_run.specs.{declared.specials.Specials.Specials, Numbers.{by_number, number_at, numbered, numbered_run}, ObjectSteps.{Frees, Widens, first_holders}}
use Rattle.cap_run.specs.{Owned.{is_empty, owner_for}, Run.moment, RunChanges.{counted, run_after, with_freed}, RunOf.{run_of, run_owners, run_state}}
use Rattle.cap_run.proofs.{ChangeLemmas.{counted-put, kept-by, number-of, present-by, renumbered}, NumberLemmas.{alone-at, at-number}, RunNumberLemmas.run-is}
use Rattle.cap_run.proofs.{ObjectLemmas.{kept_some, owner-there}, OwnerLemmas.either-key}
use Rattle.cap_run.proofs.ObjectEnds.{HandsOut}

-- owners by number after an object got one place more
owners-put : (owners after : Owners) (old new : Objects) (register slot number : ℕ) (cap : Cap)
    → ((other : ℕ) → after other ≡ at_key owners register (owner_for cap (Some slot)) other) → number_at new slot ≡ Some number
    → ((key s : ℕ) → owners key ≡ Some s → (a : Object) × (b : Object) × (old s ≡ Some a) × (new s ≡ Some b) × (a.number ≡ b.number))
    → numbered new after ≡ put (numbered old owners) register (owner_for cap (Some number))
owners-put owners after old new register slot number cap after_is number_is stays = fun_ext (λ key.
    let owns = cap.tag && not (is_empty cap.word.0) in
    ap (option_and_then (number_at new)) (after_is key)
    ∙ (elim (either-key owners register (owner_for cap (Some slot)) key) [
      | inl here ↦
          ap (option_and_then (number_at new)) here.1
          ∙ choice_under (option_and_then (number_at new)) owns (Some slot) None
          ∙ ap (λ (o : Option ℕ). if owns then o else None) number_is
          ∙ sym (cond-true (register == key) (owner_for cap (Some number)) (numbered old owners key) (eq-eqb register key here.0))
      | inr away ↦
          ap (option_and_then (number_at new)) away.1
          ∙ renumbered old new (owners key) (stays key)
          ∙ sym (cond-false (register == key) (owner_for cap (Some number)) (numbered old owners key) (ne_eqb register key away.0))
    ]))

widened-number : (o : Object) (base top : ℕ) → (let w = widened o base top in w.number ≡ o.number)
widened-number o base top =
    let low = min o.base base in
    let high = max (top_of_extent o) top in
    let wide : Object = record o { base = low; last = high - 1; long = true } in
    elim (cases_Bool (nat_lt low high)) [
      | inl more ↦ ap (λ (w : Object). w.number) (cond-true (nat_lt low high) wide o more)
      | inr none ↦ ap (λ (w : Object). w.number) (cond-false (nat_lt low high) wide o none)
    ]

module _ (held new : Held) (specials sp : Specials) (h after : Handouts) (sized : length specials.registers.labels ≡ 32) (new_sized : length sp.registers.labels ≡ 32)
    (counts : CountsAre (run_owners held specials) (λ n. held_of (objects_of h n)))
    (new_counts : CountsAre (run_owners new sp) (λ n. held_of (objects_of after n))) where
  there : (key slot : ℕ) → run_owners held specials key ≡ Some slot → (o : Object) × (objects_of h slot ≡ Some o)
  there key slot is = let o = owner-there held specials (objects_of h) sized counts key slot is in (o.0, o.1)

  there_after : (key slot : ℕ) → run_owners new sp key ≡ Some slot → (o : Object) × (objects_of after slot ≡ Some o)
  there_after key slot is = let o = owner-there new sp (objects_of after) new_sized new_counts key slot is in (o.0, o.1)

  -- `object cN`
  pub handed-number : (register slot : ℕ) → HandsOut (run_of held specials h) register slot (run_of new sp after)
      → numbered_run new sp after ≡ run_after (numbered_run held specials h) (steps.Object register)
  handed-number register slot hands =
      let cap = run_state held specials register in
      let number = h.count + 1 in
      let object = handed_out number (moment (run_of held specials h)) (base_of cap.word.0) (top_of cap.word.0) in
      let added = with_held object (first_holders cap) in
      let known = kept-by h in
      let known_after = kept-by after in
      let free = hands.adds.0 in
      let set = hands.adds.1 in
      let owners_are = owners-put (run_owners held specials) (run_owners new sp) (objects_of h) (objects_of after) register slot number cap
      hands.owners (number-of (objects_of after) slot added set.0)
      (λ key s is.
      let o = there key s is in
      (o.0, o.0, o.1, set.1 s (λ e. none-some o.0 (sym free ∙ ap (objects_of h) (sym e) ∙ o.1)) ∙ o.1, refl)) in
      let objects_are = counted-put (objects_of h) (objects_of after) (slot_numbered h) (slot_numbered after) known.numbered
      known_after.numbered (run_owners new sp) new_counts (present-by after) slot number (Some added) (Some object) set
      (λ o is. absurd (none-some o (sym free ∙ is)))
      (λ s o is same. let few = known.few s o is in absurd (omega (arith, few, same)))
      (λ o is. subst (λ (x : Object). (x.number ≡ number) × (option_map (λ y. with_held y x.held) (Some object) ≡ Some x))
      (same_Some added o is) (refl, refl))
      (λ is. absurd (none-some added (sym is))) in
      run-is (numbered_run new sp after) (run_after (numbered_run held specials h) (steps.Object register))
      hands.state owners_are
      (objects_are ∙ ap (counted (put (by_number (slot_numbered h) (objects_of h)) number (Some object))) owners_are)
      hands.count hands.rules hands.limits hands.roots hands.steps hands.is_named hands.granules hands.harts

  -- `object cN K`
  pub widened-by_number : (register number slot : ℕ) → IsLive (objects_of h) number slot → Widens (run_of held specials h) register slot (run_of new sp after)
      → numbered_run new sp after ≡ run_after (numbered_run held specials h) (steps.Widen register number)
  widened-by_number register number slot live widens =
      let cap = run_state held specials register in
      let base = base_of cap.word.0 in
      let top = top_of cap.word.0 in
      let x = live.object in
      let wide = widened x base top in
      let grown = with_held wide (x.held + first_holders cap) in
      let known = kept-by h in
      let known_after = kept-by after in
      let set = widens.objects x live.there in
      let grown_number : grown.number ≡ number = widened-number x base top ∙ live.number in
      let owners_are = owners-put (run_owners held specials) (run_owners new sp) (objects_of h) (objects_of after) register slot number cap
      widens.owners (number-of (objects_of after) slot grown set.0 ∙ ap Some grown_number)
      (λ key s is.
      let o = there key s is in
      elim (eqb_tells s slot) [
        | inl same ↦
            let o_is : o.0 ≡ x = same_Some o.0 x (sym o.1 ∙ ap (objects_of h) same.1 ∙ live.there) in
            (o.0, grown, o.1, ap (objects_of after) same.1 ∙ set.0, ap (λ (y : Object). y.number) o_is ∙ live.number ∙ sym grown_number)
        | inr unlike ↦ (o.0, o.0, o.1, set.1 s unlike.1 ∙ o.1, refl)
      ]) in
      let index = slot_numbered h in
      let before = option_map (λ o. widened o base top) (by_number index (objects_of h) number) in
      let before_is : before ≡ Some wide =
      ap (option_map (λ o. widened o base top))
      (ap (by_number index (objects_of h)) (sym live.number) ∙ at-number (objects_of h) index known.numbered slot x live.there) in
      let objects_are = counted-put (objects_of h) (objects_of after) index (slot_numbered after) known.numbered
      known_after.numbered (run_owners new sp) new_counts (present-by after) slot number (Some grown) before set
      (λ o is. ap (λ (y : Object). y.number) (same_Some o x (sym is ∙ live.there)) ∙ live.number)
      (λ s o is same. alone-at (objects_of h) index known.numbered s slot o x is live.there (same ∙ sym live.number))
      (λ o is. subst (λ (y : Object). (y.number ≡ number) × (option_map (λ z. with_held z y.held) before ≡ Some y))
      (same_Some grown o is) (grown_number, ap (option_map (λ z. with_held z grown.held)) before_is))
      (λ is. absurd (none-some grown (sym is))) in
      run-is (numbered_run new sp after) (run_after (numbered_run held specials h) (steps.Widen register number))
      widens.state owners_are
      (objects_are ∙ ap (counted (put (by_number index (objects_of h)) number before)) owners_are)
      widens.rest.count widens.rest.rules widens.rest.limits widens.rest.roots widens.rest.steps widens.rest.is_named widens.rest.granules widens.rest.harts

  -- `free K`
  pub freed-number : (number slot : ℕ) → IsLive (objects_of h) number slot → Frees (run_of held specials h) slot (run_of new sp after)
      → numbered_run new sp after ≡ with_freed (numbered_run held specials h) (Some number)
  freed-number number slot live frees =
      let x = live.object in
      let gone = freed_in (moment (run_of held specials h)) x in
      let known = kept-by h in
      let known_after = kept-by after in
      let set = frees.objects x live.there in
      let owners_are : numbered (objects_of after) (run_owners new sp) ≡ numbered (objects_of h) (run_owners held specials) = fun_ext (λ key.
      ap (λ (f : Owners). option_and_then (number_at (objects_of after)) (f key)) frees.owners
      ∙ renumbered (objects_of h) (objects_of after) (run_owners held specials key) (λ s is.
      let o = there key s is in
      let p = there_after key s (ap (λ (f : Owners). f key) frees.owners ∙ is) in
      elim (eqb_tells s slot) [
        | inl same ↦
            let o_is : x ≡ o.0 = same_Some x o.0 (sym live.there ∙ ap (objects_of h) (sym same.1) ∙ o.1) in
            let p_is : gone ≡ p.0 = kept_some gone p.0 (sym set.0 ∙ ap (objects_of after) (sym same.1) ∙ p.1) in
            (o.0, p.0, o.1, p.1, sym (ap (λ (y : Object). y.number) o_is) ∙ ap (λ (y : Object). y.number) p_is)
        | inr unlike ↦ (
          o.0,
          p.0,
          o.1,
          p.1,
          ap (λ (y : Object). y.number) (same_Some o.0 p.0 (sym o.1 ∙ sym (set.1 s unlike.1) ∙ p.1)),
        )
      ])) in
      let index = slot_numbered h in
      let before = option_map (freed_in (moment (run_of held specials h))) (by_number index (objects_of h) number) in
      let before_is : before ≡ Some gone =
      ap (option_map (freed_in (moment (run_of held specials h))))
      (ap (by_number index (objects_of h)) (sym live.number) ∙ at-number (objects_of h) index known.numbered slot x live.there) in
      let objects_are = counted-put (objects_of h) (objects_of after) index (slot_numbered after) known.numbered
      known_after.numbered (run_owners new sp) new_counts (present-by after) slot number (kept gone) before set
      (λ o is. ap (λ (y : Object). y.number) (same_Some o x (sym is ∙ live.there)) ∙ live.number)
      (λ s o is same. alone-at (objects_of h) index known.numbered s slot o x is live.there (same ∙ sym live.number))
      (λ o is. subst (λ (y : Object). (y.number ≡ number) × (option_map (λ z. with_held z y.held) before ≡ Some y))
      (kept_some gone o is) (live.number, ap (option_map (λ z. with_held z gone.held)) before_is))
      (λ is. (gone, before_is, refl)) in
      run-is (numbered_run new sp after) (with_freed (numbered_run held specials h) (Some number))
      frees.state owners_are
      (objects_are ∙ ap (counted (put (by_number index (objects_of h)) number before)) owners_are)
      frees.rest.count frees.rest.rules frees.rest.limits frees.rest.roots frees.rest.steps frees.rest.is_named frees.rest.granules frees.rest.harts
