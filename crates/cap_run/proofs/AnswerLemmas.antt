-- Answers of steps that hand out objects, widen them and free them, where objects are told by their numbers.
use Rattle.std.proofs.Common.{◌≡◌, ◌⊎◌, max, min, ℕ, Bool, true, false, Some, None, Option, inl, inr, length}
use Rattle.std.proofs.Common.{option_and_then, MatchOption, Result, Ok, Err, OnOk, OnErr, IfErr}
use Rattle.std.proofs.Common.{refl, sym, ap, subst, ◌∙◌}
use Rattle.std.specs.Option.{option_map_or}
use Rattle.std.proofs.lemmas.{Bool.{cond-true, cond-false}, Option.{none-some, same_Some}}
use Rattle.cap_bounds.specs.Bounds.{base_of, top_of}
use Rattle.cap_machine.specs.Helds.{Held}
use Rattle.cap_objects.specs.{Counts.{CountsAre}, declared.{handouts.Handouts.Handouts, objects.Object.Object}, HandoutsIn.objects_of}
use Rattle.cap_objects.specs.{Handed.{HasRoom, IsLive, held_of}, Objects.top_of_extent}
use Rattle.cap_run_log.specs.declared.lines.RunStep.TheVariants as steps
use Rattle.cap_run.specs.declared.{asks.Asks.Asks, ends.{RunEnd.{RunEnd, TheVariants.{NoMemory, Refused}}, RunRefusal.RunRefusal}, specials.Specials.Specials}
use Rattle.cap_run.specs.declared.ends.RunRefusal.TheVariants.{AlreadyFreed, NoCapability, NoObject, NoOwner, Usual}
use Rattle.cap_run.specs.{Numbers.{number_at, numbered_run}, Owned.AreWithin, RunChanges.{run_after, with_freed}}
use Rattle.cap_run.specs.RunChecks.{Answers, extent_end, growth_end, number_end, owner_end, run_end}
use Rattle.cap_run.specs.ObjectSteps.{CanWiden, ExtentEnds, Frees, WidenEnds, Widens, object_refusal}
use Rattle.cap_run.specs.{RunOf.{run_of, run_owners, run_state}, RunSteps.{or_later, step_limit}}
use Rattle.cap_run.proofs.{NumberLemmas.{alone-at, at-number}, ChangeLemmas.number-of, RunNumberLemmas.{index_in, numbered-same}, ObjectNumberLemmas.{freed-number, handed-number, widened-by_number}}
use Rattle.cap_run.proofs.EndLemmas.{EndsAs, answers-end, extent-ends, freed-number-end, later, live-number, number-ends, refusal-number}
use Rattle.cap_run.proofs.{HandingLemmas.match_none, ObjectLemmas.some_and}
use Rattle.cap_run.proofs.ObjectEnds.{AgainEnds, FreeEnds, FreeNumberEnds, HandsOut, ObjectEnds}

after_none_is : (one two end : Option RunRefusal) → one ≡ None → two ≡ end → or_later one two ≡ end
after_none_is one two end is is2 = ap (λ (o : Option RunRefusal). or_later o two) is ∙ is2

after_some : (one two : Option RunRefusal) (refusal : RunRefusal) → one ≡ Some refusal → or_later one two ≡ Some refusal
after_some one two refusal is = ap (λ (o : Option RunRefusal). or_later o two) is

-- an option is none, or holds something
matched : (o : Option RunRefusal) (N : Type 0) (S : RunRefusal → Type 0) → MatchOption o N S
    → ((o ≡ None) × N) ⊎ ((refusal : RunRefusal) × (o ≡ Some refusal) × S refusal)
matched None N S is = inl (refl, is)
matched (Some refusal) N S is = inr (refusal, refl, is)

module _ (held new : Held) (specials sp : Specials) (h after : Handouts) (sized : length specials.registers.labels ≡ 32) (new_sized : length sp.registers.labels ≡ 32)
    (counts : CountsAre (run_owners held specials) (λ n. held_of (objects_of h n)))
    (new_counts : CountsAre (run_owners new sp) (λ n. held_of (objects_of after n))) (asks : Asks) (keeps : h.keeps ≡ asks.held) where
  same : run_of new sp after ≡ run_of held specials h → numbered_run new sp after ≡ numbered_run held specials h
  same is = numbered-same held new specials sp h after h.kept.numbered after.kept.numbered is

  -- `free K`
  number-freed : (number : ℕ) (refusal : RunRefusal) → FreeNumberEnds (run_of held specials h) number (Refused refusal)
      → or_later (number_end (numbered_run held specials h) number) (step_limit (numbered_run held specials h)) ≡ Some refusal
  number-freed number (Usual refusal) is =
      after_none_is (number_end (numbered_run held specials h) number) (step_limit (numbered_run held specials h)) (Some (Usual refusal))
      (live-number held specials h sized counts asks keeps number is.0.0 is.0.1) is.1
  number-freed number NoObject is =
      number-ends held specials h sized counts asks keeps number (step_limit (numbered_run held specials h)) (Refused NoObject) is
  number-freed number AlreadyFreed is =
      number-ends held specials h sized counts asks keeps number (step_limit (numbered_run held specials h)) (Refused AlreadyFreed) is
  number-freed number refusal is = absurd is

  pub free-number-answers : (number : ℕ) (result : Result (Unit {0}) RunEnd)
      → OnOk result ((slot : ℕ) × IsLive (objects_of h) number slot × Frees (run_of held specials h) slot (run_of new sp after))
      → OnOk result (step_limit (run_of held specials h) ≡ None) → IfErr result (FreeNumberEnds (run_of held specials h) number)
      → OnErr result (run_of new sp after ≡ run_of held specials h)
      → let run = numbered_run held specials h in
      Answers (run_end asks run (steps.FreeNumber number)) (run_after run (steps.FreeNumber number)) false run result (numbered_run new sp after)
  free-number-answers number (Ok done) ok can end err = (
    after_none_is (number_end (numbered_run held specials h) number) (step_limit (numbered_run held specials h)) None
        (live-number held specials h sized counts asks keeps number ok.0 ok.1) can,
    freed-number held new specials sp h after sized new_sized counts new_counts number ok.0 ok.1 ok.2,
  )
  free-number-answers number (Err (Refused refusal)) ok can end err = (number-freed number refusal end, same err)
  free-number-answers number (Err NoMemory) ok can end err = absurd end

  module _ (within : AreWithin (run_state held specials) (run_owners held specials) (objects_of h)) where
    -- what refuses to free the owner of a register is what refuses to free its number
    owned : (register slot : ℕ) (o : Object) → run_owners held specials register ≡ Some slot → objects_of h slot ≡ Some o
        → owner_end (numbered_run held specials h) register
        ≡ or_later (number_end (numbered_run held specials h) o.number) (step_limit (numbered_run held specials h))
    owned register slot o is there =
        let run = numbered_run held specials h in
        let w = within register slot o is there in
        let owner : run.owners register ≡ Some o.number =
        ap (option_and_then (number_at (objects_of h))) is ∙ number-of (objects_of h) slot o there in
        cond-true (run.state register).tag (or_later (option_map_or (number_end run) (run.owners register) (Some NoOwner)) (step_limit run))
        (Some NoCapability) w.tagged
        ∙ ap (λ (owner : Option ℕ). or_later (option_map_or (number_end run) owner (Some NoOwner)) (step_limit run)) owner

    -- `free cN`
    owner-freed : (register : ℕ) (refusal : RunRefusal) → FreeEnds (run_of held specials h) register (Refused refusal)
        → owner_end (numbered_run held specials h) register ≡ Some refusal
    owner-freed register NoCapability is =
        let run = numbered_run held specials h in
        cond-false (run.state register).tag (or_later (option_map_or (number_end run) (run.owners register) (Some NoOwner)) (step_limit run))
        (Some NoCapability) is
    owner-freed register NoOwner is =
        let run = numbered_run held specials h in
        let owner : run.owners register ≡ None = ap (option_and_then (number_at (objects_of h))) is.1 in
        cond-true (run.state register).tag (or_later (option_map_or (number_end run) (run.owners register) (Some NoOwner)) (step_limit run))
        (Some NoCapability) is.0
        ∙ ap (λ (owner : Option ℕ). or_later (option_map_or (number_end run) owner (Some NoOwner)) (step_limit run)) owner
    owner-freed register AlreadyFreed is =
        let run = numbered_run held specials h in
        let o = some_and (objects_of h is.0) _ is.2 in
        owned register is.0 o.0 is.1 o.1
        ∙ after_some (number_end run o.0.number) (step_limit run) AlreadyFreed
        (freed-number-end held specials h sized counts asks keeps o.0.number is.0 o.0 o.1 refl o.2)
    owner-freed register (Usual refusal) is =
        let run = numbered_run held specials h in
        let o = some_and (objects_of h is.0) _ is.2 in
        owned register is.0 o.0 is.1 o.1
        ∙ after_none_is (number_end run o.0.number) (step_limit run) (Some (Usual refusal))
        (live-number held specials h sized counts asks keeps o.0.number is.0 (record { object = o.0; there = o.1; number = refl; live = o.2 })) is.3
    owner-freed register refusal is = absurd is

    pub free-owner-answers : (register : ℕ) (result : Result (Unit {0}) RunEnd)
        → OnOk result ((slot : ℕ) × (run_owners held specials register ≡ Some slot) × Frees (run_of held specials h) slot (run_of new sp after))
        → OnOk result (step_limit (run_of held specials h) ≡ None) → IfErr result (FreeEnds (run_of held specials h) register)
        → OnErr result (run_of new sp after ≡ run_of held specials h)
        → let run = numbered_run held specials h in
        Answers (run_end asks run (steps.FreeOwner register)) (run_after run (steps.FreeOwner register)) false run result (numbered_run new sp after)
    free-owner-answers register (Ok done) ok can end err =
        let run = numbered_run held specials h in
        let o = some_and (objects_of h ok.0) _ ok.2.live in
        let live : IsLive (objects_of h) o.0.number ok.0 = record { object = o.0; there = o.1; number = refl; live = o.2 } in
        let owner : run.owners register ≡ Some o.0.number =
        ap (option_and_then (number_at (objects_of h))) ok.1 ∙ number-of (objects_of h) ok.0 o.0 o.1 in (
          owned register ok.0 o.0 ok.1 o.1
              ∙ after_none_is (number_end run o.0.number) (step_limit run) None
              (live-number held specials h sized counts asks keeps o.0.number ok.0 live) can,
          freed-number held new specials sp h after sized new_sized counts new_counts o.0.number ok.0 live ok.2 ∙ sym (ap (with_freed run) owner),
        )
    free-owner-answers register (Err (Refused refusal)) ok can end err = (owner-freed register refusal end, same err)
    free-owner-answers register (Err NoMemory) ok can end err = absurd end

  refused : (register : ℕ) (refusal : RunRefusal) (rest : Option RunRefusal) (end : RunEnd) → object_refusal (run_of held specials h) register ≡ Some refusal
      → end ≡ Refused refusal → EndsAs (or_later (object_refusal (numbered_run held specials h) register) rest) end
  refused register refusal rest end is end_is =
      subst (EndsAs (or_later (object_refusal (numbered_run held specials h) register) rest)) (sym end_is)
      (after_some (object_refusal (numbered_run held specials h) register) rest refusal
      (refusal-number held specials h sized counts asks keeps register ∙ is))

  not_refused : (register : ℕ) → object_refusal (run_of held specials h) register ≡ None → object_refusal (numbered_run held specials h) register ≡ None
  not_refused register is = refusal-number held specials h sized counts asks keeps register ∙ is

  -- `object cN`
  pub hand-out-ok : (register slot : ℕ) → HandsOut (run_of held specials h) register slot (run_of new sp after)
      → (let old = run_of held specials h in let w = (old.state register).word.0 in
      (object_refusal old register ≡ None) × HasRoom h.keeps None old.objects (base_of w) (top_of w) × (step_limit old ≡ None))
      → let run = numbered_run held specials h in
      (run_end asks run (steps.Object register) ≡ None) × (numbered_run new sp after ≡ run_after run (steps.Object register))
  hand-out-ok register slot hands can =
      let run = numbered_run held specials h in
      let w = (run.state register).word.0 in
      let room = subst (λ (k : Bool). HasRoom k None (objects_of h) (base_of w) (top_of w)) keeps can.1 in (
        after_none_is (object_refusal run register) _ None (not_refused register can.0)
            (extent-ends held specials h sized counts asks keeps None None
            (λ s o is e. absurd (none-some o.number e)) (λ s o is e. absurd (none-some s e)) (base_of w) (top_of w) NoMemory (room, can.2)),
        handed-number held new specials sp h after sized new_sized counts new_counts register slot hands,
      )

  pub hand-out-err : (register : ℕ) (end : RunEnd) → ObjectEnds (run_of held specials h) h.keeps register end
      → run_of new sp after ≡ run_of held specials h
      → let run = numbered_run held specials h in
      Answers (run_end asks run (steps.Object register)) (run_after run (steps.Object register)) true run (Err end) (numbered_run new sp after)
  hand-out-err register end ends is =
      let run = numbered_run held specials h in
      let w = (run.state register).word.0 in
      let rest = or_later (extent_end asks run None (base_of w) (top_of w)) (step_limit run) in
      answers-end (run_end asks run (steps.Object register)) (run_after run (steps.Object register)) true run (numbered_run new sp after) end
      (elim (matched (object_refusal (run_of held specials h) register) _ _ ends) [
        | inl none ↦
            later (object_refusal run register) rest end (not_refused register none.0)
            (extent-ends held specials h sized counts asks keeps None None
            (λ s o is e. absurd (none-some o.number e)) (λ s o is e. absurd (none-some s e)) (base_of w) (top_of w) end
            (subst (λ (k : Bool). ExtentEnds (run_of held specials h) k None (base_of w) (top_of w) end) keeps none.1))
        | inr it ↦ refused register it.0 rest end it.1 it.2
      ]) refl (same is)

  -- an object that is widened, by its number
  grown : (register number slot : ℕ) (end : RunEnd) (live : IsLive (objects_of h) number slot)
      → (let w = (run_state held specials register).word.0 in
      ExtentEnds (run_of held specials h) h.keeps (Some slot) (min live.object.base (base_of w)) (max (top_of_extent live.object) (top_of w)) end)
      → let run = numbered_run held specials h in
      EndsAs (or_later (number_end run number)
      (or_later (option_map_or (growth_end asks run number (run.state register).word.0) (run.objects number) None) (step_limit run))) end
  grown register number slot end live ends =
      let run = numbered_run held specials h in
      let w = (run.state register).word.0 in
      let o = live.object in
      let rest = or_later (option_map_or (growth_end asks run number w) (run.objects number) None) (step_limit run) in
      let there : run.objects number ≡ Some o =
      ap run.objects (sym live.number) ∙ at-number (objects_of h) (index_in h) h.kept.numbered slot o live.there in
      later (number_end run number) rest end (live-number held specials h sized counts asks keeps number slot live)
      (subst (λ (p : Option Object). EndsAs (or_later (option_map_or (growth_end asks run number w) p None) (step_limit run)) end) (sym there)
      (extent-ends held specials h sized counts asks keeps (Some slot) (Some number)
      (λ s x is e. ap Some (alone-at (objects_of h) (index_in h) h.kept.numbered slot s o x live.there is (live.number ∙ same_Some number x.number e)))
      (λ s x is e. ap Some (sym live.number ∙ ap (λ (y : Object). y.number)
      (same_Some o x (sym live.there ∙ ap (objects_of h) (same_Some slot s e) ∙ is))))
      (min o.base (base_of w)) (max (top_of_extent o) (top_of w)) end
      (subst (λ (k : Bool). ExtentEnds (run_of held specials h) k (Some slot) (min o.base (base_of w)) (max (top_of_extent o) (top_of w)) end) keeps ends)))

  -- `object cN K`
  pub widen-ok : (register number slot : ℕ) → IsLive (objects_of h) number slot → Widens (run_of held specials h) register slot (run_of new sp after)
      → (let old = run_of held specials h in (object_refusal old register ≡ None) × (step_limit old ≡ None))
      → CanWiden (run_of held specials h) h.keeps register slot
      → let run = numbered_run held specials h in
      (run_end asks run (steps.Widen register number) ≡ None) × (numbered_run new sp after ≡ run_after run (steps.Widen register number))
  widen-ok register number slot live widens can room =
      let run = numbered_run held specials h in (
        after_none_is (object_refusal run register) _ None (not_refused register can.0)
            (grown register number slot NoMemory live (room live.object live.there, can.1)),
        widened-by_number held new specials sp h after sized new_sized counts new_counts register number slot live widens,
      )

  pub widen-err : (register number : ℕ) (end : RunEnd) → AgainEnds (run_of held specials h) h.keeps register number end
      → run_of new sp after ≡ run_of held specials h
      → let run = numbered_run held specials h in
      Answers (run_end asks run (steps.Widen register number)) (run_after run (steps.Widen register number)) true run (Err end) (numbered_run new sp after)
  widen-err register number end ends is =
      let run = numbered_run held specials h in
      let w = (run.state register).word.0 in
      let growth = or_later (option_map_or (growth_end asks run number w) (run.objects number) None) (step_limit run) in
      let rest = or_later (number_end run number) growth in
      answers-end (run_end asks run (steps.Widen register number)) (run_after run (steps.Widen register number)) true run (numbered_run new sp after) end
      (elim (matched (object_refusal (run_of held specials h) register) _ _ ends) [
        | inl none ↦ later (object_refusal run register) rest end (not_refused register none.0) (elim none.1 [
          | inl number_is ↦ number-ends held specials h sized counts asks keeps number growth end number_is
          | inr wide ↦ grown register number wide.0 end wide.1 (wide.2 wide.1.object wide.1.there)
        ])
        | inr it ↦ refused register it.0 rest end it.1 it.2
      ]) refl (same is)

  pub widen-answers : (register number slot : ℕ) (result : Result (Unit {0}) RunEnd) → IsLive (objects_of h) number slot
      → object_refusal (run_of held specials h) register ≡ None → OnOk result (Widens (run_of held specials h) register slot (run_of new sp after))
      → OnOk result (step_limit (run_of held specials h) ≡ None) → OnOk result (CanWiden (run_of held specials h) h.keeps register slot)
      → IfErr result (WidenEnds (run_of held specials h) h.keeps register slot) → OnErr result (run_of new sp after ≡ run_of held specials h)
      → let run = numbered_run held specials h in
      Answers (run_end asks run (steps.Widen register number)) (run_after run (steps.Widen register number)) true run result (numbered_run new sp after)
  widen-answers register number slot (Ok done) live none ok few room end err = widen-ok register number slot live ok (none, few) room
  widen-answers register number slot (Err it) live none ok few room end err =
      widen-err register number it (match_none _ _ _ none (inr (slot, live, end))) err
