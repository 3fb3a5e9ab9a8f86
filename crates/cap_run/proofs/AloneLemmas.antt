-- Steps of version 2 where no object was handed out.
use Rattle.std.specs.Prelude.{Result, Ok, Err, MatchResult}
use Rattle.std.proofs.Common.{◌≡◌, ◌≤◌, ◌+◌, ◌==◌, ◌&&◌, not, if◌then◌else◌, Bool, true, false, ℕ, Some, None, Option, inl, inr, length, option_and_then}
use Rattle.std.proofs.Common.{refl, sym, ap, subst, ◌∙◌, arith}
use Rattle.cap_word.specs.declared.word.Cap.{Cap}
use Rattle.std.proofs.Math.Path.{fun_ext}
use Rattle.std.proofs.lemmas.{Bool.cases_lt, Option.{none-some}}
use Rattle.cap_log.specs.declared.{kinds.Step.Step}
use Rattle.tagmem.specs.Granules.{AreStored}
use Rattle.cap_machine.specs.{Accounts.{Account, with_step}, declared.ends.StepEnd.StepEnd, Helds.{EndsStep, Held, Makes, account_of, state_of}, Runs.parent_of, Steps.written_by}
use Rattle.cap_objects.specs.{Counts.{CountsAre, Owners, at_key}, declared.{handouts.Handouts.Handouts}, Handed.held_of, HandoutsIn.objects_of}
use Rattle.cap_run.specs.{declared.specials.Specials.Specials, Owned.{AreWithin, is_empty, object_by, owner_for}, Run.first_special, RunOf.{run_owners, run_state}, UsualSteps.{MakesUsual, disowned, main_owners}}
use Rattle.cap_run.proofs.{GranuleLemmas.recounted-same, ObjectLemmas.owner-there}
use Rattle.cap_run.proofs.UsualLemmas.{disowned-some, main-far, owners-main, owners-special, under_then, usual-ended}

is_none : (o : Option ℕ) → ((slot : ℕ) → o ≡ Some slot → ⊥) → o ≡ None
is_none None never = refl
is_none (Some slot) never = absurd (never slot refl)

pub then_none : (f : ℕ → Option ℕ) (o : Option ℕ) → ((k : ℕ) → f k ≡ None) → option_and_then f o ≡ None
then_none f None none = refl
then_none f (Some k) none = none k

module _ (held : Held) (specials : Specials) (h : Handouts) (sized : length specials.registers.labels ≡ 32)
    (counts : CountsAre (run_owners held specials) (λ n. held_of (objects_of h n))) (alone : h.count ≡ 0) where
  -- no place has an owner
  pub unowned : (key : ℕ) → run_owners held specials key ≡ None
  unowned key = is_none (run_owners held specials key) (λ slot is.
      let o = owner-there held specials (objects_of h) sized counts key slot is in
      let some = h.kept.some slot o.0 o.1 in
      let few = h.kept.few slot o.0 o.1 in
      let none : ⊥ = omega (arith, some, few, alone) in none)

  pub main-unowned : AreStored held.memory → (key : ℕ) → main_owners held key ≡ None
  main-unowned stored key = elim (cases_lt key first_special) [
    | inl near ↦ sym (owners-main held specials key near) ∙ unowned key
    | inr far ↦ main-far held key stored far
  ]

module _ (held new : Held) (specials : Specials) (h : Handouts) (step : Step) (sized : length specials.registers.labels ≡ 32)
    (counts : CountsAre (run_owners held specials) (λ n. held_of (objects_of h n))) (stored : AreStored held.memory) (alone : h.count ≡ 0) where
  no-owner : (key : ℕ) → run_owners held specials key ≡ None
  no-owner = unowned held specials h sized counts alone

  main-none : (key : ℕ) → main_owners held key ≡ None
  main-none = main-unowned held specials h sized counts alone stored

  module _ (makes : Makes held step new) where
    after-none : (key : ℕ) → main_owners new key ≡ None
    after-none key =
        let next = (with_step (account_of held) step).state in
        ap object_by (ap (λ (a : Account). a.origin key) makes.account)
        ∙ under_then (account_of held).origin (parent_of (state_of held) step next key)
        ∙ then_none (main_owners held) (parent_of (state_of held) step next key) main-none

    same-owners : run_owners new specials ≡ run_owners held specials
    same-owners = fun_ext (λ key. elim (cases_lt key first_special) [
      | inl near ↦ owners-main new specials key near ∙ after-none key ∙ sym (no-owner key)
      | inr far ↦ owners-special new specials key far ∙ sym (owners-special held specials key far)
    ])

    pub makes-alone : MakesUsual held (objects_of h) step new (objects_of h)
    makes-alone =
        let by : Owners = λ k. option_and_then (main_owners held) (parent_of (state_of held) step (state_of new) k) in
        record {
          checks = makes.checks;
          account = ap (λ (a : Account). record a { origin = (account_of new).origin }) makes.account;
          leads = makes.leads;
          owners = λ key. after-none key
              ∙ sym (is_none (disowned (written_by (state_of held) step) (state_of new) by key) (λ slot is.
              let owned = disowned-some (written_by (state_of held) step) (state_of new) by key slot is in
              none-some slot (sym (then_none (main_owners held) (parent_of (state_of held) step (state_of new) key) main-none) ∙ owned)));
          recounted = recounted-same h;
        }

    kept_made : CountsAre (run_owners new specials) (λ n. held_of (objects_of h n)) × AreWithin (run_state new specials) (run_owners new specials) (objects_of h)
        × (new.steps ≡ held.steps + 1)
    kept_made = (
      subst (λ (o : Owners). CountsAre o (λ n. held_of (objects_of h n))) (sym same-owners) counts,
      λ key slot o owned there. absurd (none-some slot (sym (ap (λ (f : Owners). f key) same-owners ∙ no-owner key) ∙ owned)),
      ap (λ (a : Account). a.steps) makes.account,
    )

  pub kept-alone : (result : Result (Unit {0}) StepEnd) → MatchResult result (λ _. Makes held step new) (λ end. EndsStep held step end new)
      → AreWithin (run_state held specials) (run_owners held specials) (objects_of h)
      → CountsAre (run_owners new specials) (λ n. held_of (objects_of h n)) × AreWithin (run_state new specials) (run_owners new specials) (objects_of h)
      × (held.steps ≤ new.steps)
  kept-alone (Ok done) makes within =
      let kept = kept_made makes in
      let steps = kept.2 in
      (kept.0, kept.1, omega (arith, steps))
  kept-alone (Err end) is within =
      let same = sym (usual-ended held step end new is) in (
        subst (λ (x : Held). CountsAre (run_owners x specials) (λ n. held_of (objects_of h n))) same counts,
        subst (λ (x : Held). AreWithin (run_state x specials) (run_owners x specials) (objects_of h)) same within,
        let steps = ap (λ (x : Held). x.steps) same in omega (arith, steps),
      )

  pub answers-alone : (result : Result (Unit {0}) StepEnd) → MatchResult result (λ _. Makes held step new) (λ end. EndsStep held step end new)
      → MatchResult result (λ _. MakesUsual held (objects_of h) step new (objects_of h)) (λ end. EndsStep held step end new)
  answers-alone (Ok done) makes = makes-alone makes
  answers-alone (Err end) is = is

-- what is written has no owner either
pub at_none : (owners : Owners) (key : ℕ) (owner : Option ℕ) → ((k : ℕ) → owners k ≡ None) → owner ≡ None
    → (other : ℕ) → at_key owners key owner other ≡ None
at_none owners key owner none is other = choice (key == other) where
  choice : (same : Bool) → (if same then owner else owners other) ≡ None
  choice true = is
  choice false = none other

pub none-for : (cap : Cap) (owner : Option ℕ) → owner ≡ None → owner_for cap owner ≡ None
none-for cap owner is = choice (cap.tag && not (is_empty cap.word.0)) where
  choice : (same : Bool) → (if same then owner else None) ≡ None
  choice true = is
  choice false = refl

module _ (held new : Held) (specials sp : Specials) (h : Handouts) (sized : length specials.registers.labels ≡ 32)
    (counts : CountsAre (run_owners held specials) (λ n. held_of (objects_of h n))) (alone : h.count ≡ 0)
    (none : (key : ℕ) → run_owners new sp key ≡ None) where
  pub counted-alone : CountsAre (run_owners new sp) (λ n. held_of (objects_of h n))
  counted-alone = subst (λ (o : Owners). CountsAre o (λ n. held_of (objects_of h n)))
      (sym (fun_ext (λ key. none key ∙ sym (unowned held specials h sized counts alone key)))) counts

  pub within-alone : AreWithin (run_state new sp) (run_owners new sp) (objects_of h)
  within-alone key slot o owned there = absurd (none-some slot (sym (none key) ∙ owned))
