-- Lines of steps of version 2 where no object was handed out.
use Rattle.std.specs.Option.{option_map_or}
use Rattle.std.proofs.Common.{◌≡◌, ◌≢◌, ◌==◌, ◌-◌, ◌≤◌, ◌&&◌, nat_lt, ℕ, Bool, true, false, Some, None, Option, IfSome, inl, inr, length}
use Rattle.std.proofs.Common.{if◌then◌else◌, refl, sym, ap, subst, ◌∙◌, arith, le-ltb, lt-ltb, ne_eqb, List, [], ◌∷◌, ◌++◌, map, option_map, option_and_then}
use Rattle.std.specs.List.{AllByRecursion}
use Rattle.std.proofs.Math.Path.{fun_ext}
use Rattle.std.proofs.lemmas.{Bool.{cases_lt, cond-true, cond-false}, List.{append_assoc, map-append}, Option.{none-some}}
use Rattle.cap_word.specs.declared.word.Cap.{Cap}
use Rattle.cap_log.specs.{declared.{kinds.Step.Step, lines.{Line.Line, Place.{Place, TheVariants.{Granule, Register}}}}, Lines.{IsInRange, IsPlace, IsStepInRange, spelling}}
use Rattle.cap_ops.specs.{Checks.first_of}
use Rattle.tagmem.specs.Granules.{AreStored}
use Rattle.cap_machine.specs.Accounts.{Account, named_by, row_in, step_checks, with_step}
use Rattle.cap_machine.specs.{Helds.{Held, account_of}, Runs.parent_of, States.{State, key_of, untagged_null}}
use Rattle.cap_machine.specs.Steps.{Access, row_of, state_with}
use Rattle.cap_judge.specs.{Logs.text_of, Readings.{MakesSteps, at}, Turns.{LogStage, log_turns}}
use Rattle.cap_judge.specs.declared.judges.Due.TheVariants as dues
use Rattle.cap_judge.proofs.TurnLemmas.{allowed_form, body}
use Rattle.cap_objects.specs.{Counts.{CountsAre, Owners, count_below}, declared.handouts.Handouts.Handouts, Handed.held_of, HandoutsIn.objects_of}
use Rattle.cap_run_log.specs.RunLines.{run_spelling}
use Rattle.cap_run_log.specs.declared.lines.RunLine.TheVariants as run_lines
use Rattle.cap_run.specs.declared.{asks.Asks.Asks, ends.{RunRefusal.{RunRefusal, TheVariants.{NotOwned, OwnerFreed, Usual}}}, specials.Specials.Specials}
use Rattle.cap_run.specs.{Harts.Harts, Numbers.{number_at, numbered_run}, Owned.{AreWithin, object_by, owner_for}, Run.{Run, first_special, with_specials}, RunChanges.{account_in, usual_after}}
use Rattle.cap_run.specs.{RunChecks.{asked_checks, is_unowned, uses_freed, usual_end}, RunOf.{run_owners, run_state}, Specials.{cap_in, harts_in}}
use Rattle.cap_run.specs.{StepLines.{LeadBy, MakesUsualSteps, text_of_steps}, UsualSteps.{disowned}}
use Rattle.cap_run.proofs.{AloneLemmas.{main-unowned, then_none, unowned}, AskedLemmas.and_none, RootLemmas.first-usual, RunNumberLemmas.{index_in, nowhere, run-is}}
use Rattle.cap_run.proofs.UsualLemmas.{owners-main, owners-special, place-low, under_then}
use Rattle.cap_run.proofs.UsualNumberLemmas.{last_checks, naming-apart, naming-rest, passed, state-far, usual_check, usual_with, ruled-low}
use Rattle.cap_turns.specs.Turns.{Reads}

-- no place past the granules holds anything
IsNear : State → Type 0
IsNear state = (key : ℕ) → first_special ≤ key → state key ≡ untagged_null

-- no place has an owner
IsFree : (ℕ → Option Place) → Type 0
IsFree origin = (key : ℕ) → object_by (origin key) ≡ None

-- a run without objects, by the account of a machine and special registers
abbrev bare : Account → (ℕ → Cap) → Harts → Run
bare account specials harts_are = record {
  state = with_specials account.state specials;
  owners = λ key. None;
  objects = λ number. None;
  count = 0;
  harts = harts_are;
  rules = account.rules;
  limits = account.limits;
  roots = account.roots;
  steps = account.steps;
  is_named = account.is_named;
  granules = account.granules;
}

-- One step

near_with : (state : State) (write : Option (Place × Cap)) → IfSome (option_map (λ (w : Place × Cap). w.0) write) IsPlace → IsNear state
    → IsNear (state_with state write)
unfolding IsNear
near_with state None low near key far = near key far
near_with state (Some w) low near key far =
    let written = place-low w.0 low in
    let differ : key_of w.0 ≢ key = λ same. let is : key_of w.0 ≡ key = same in omega (arith, written, far, is) in
    cond-false (key_of w.0 == key) w.1 (state key) (ne_eqb (key_of w.0) key differ) ∙ near key far

step_near : (account : Account) (step : Step) → IsStepInRange step → IsNear account.state → IsNear (with_step account step).state
step_near account step range near =
    near_with account.state (row_in account step).writes (ruled-low account step range) near

step_free : (account : Account) (step : Step) → IsFree account.origin → IsFree (with_step account step).origin
unfolding IsFree
step_free account step free key =
    let parent = parent_of account.state step (with_step account step).state key in
    under_then account.origin parent ∙ then_none (λ k. object_by (account.origin k)) parent free

-- what the steps of version 2 see of such a run
module _ (account : Account) (specials : ℕ → Cap) (harts : Harts) (near : IsNear account.state) where
  apart : Account
  apart = record account { origin = λ key. None }

  bare-account : account_in (bare account specials harts) ≡ apart
  unfolding IsNear apart
  bare-account = ap (λ (s : State). record account { state = s; origin = λ key. None }) (fun_ext (λ key. elim (cases_lt key first_special) [
    | inl low ↦
        cond-true (nat_lt key first_special) _ untagged_null (lt-ltb key first_special low)
        ∙ cond-true (nat_lt key first_special) (account.state key) _ (lt-ltb key first_special low)
    | inr far ↦ cond-false (nat_lt key first_special) _ untagged_null (le-ltb key first_special far) ∙ sym (near key far)
  ]))

  -- nothing that is asked refuses a step
  not_freed : (asked : Bool) (access : Option Access) → (asked && option_map_or (uses_freed (bare account specials harts)) access false) ≡ false
  not_freed asked None = and_none asked
  not_freed asked (Some access) = and_none asked

  owned_by_none : (access : Access) → is_unowned (bare account specials harts) access ≡ false
  unfolding count_below
  owned_by_none access = refl

  not_unowned : (asked : Bool) (access : Option Access) → (asked && option_map_or (is_unowned (bare account specials harts)) access false) ≡ false
  not_unowned asked None = and_none asked
  not_unowned asked (Some access) = ap (λ (b : Bool). asked && b) (owned_by_none access) ∙ and_none asked

  module _ (asks : Asks) (step : Step) where
    bare-end : usual_end asks (bare account specials harts) step ≡ option_map Usual (first_of (step_checks account step))
    unfolding apart
    bare-end =
        let run = bare account specials harts in
        let by : Account → Option RunRefusal = λ a. let row = row_in a step in
        first_of (map usual_check row.checks ++ asked_checks asks run row.access ++ map usual_check (last_checks a step)) in
        let row = row_in account step in
        let checks = map usual_check row.checks in
        let last = map usual_check (last_checks account step) in
        ap by bare-account
        ∙ ap first_of (append_assoc checks (asked_checks asks run row.access) last)
        ∙ ap (λ (b : Bool). first_of (checks ++ (b, OwnerFreed) ∷ (asks.owned && option_map_or (is_unowned run) row.access false, NotOwned) ∷ last))
        (not_freed asks.used row.access)
        ∙ ap (λ (b : Bool). first_of (checks ++ (false, OwnerFreed) ∷ (b, NotOwned) ∷ last)) (not_unowned asks.owned row.access)
        ∙ passed checks OwnerFreed NotOwned true true last
        ∙ ap first_of (sym (map-append usual_check row.checks (last_checks account step)))
        ∙ first-usual (row.checks ++ last_checks account step)

  -- such a run after a step
  nested : (b : Bool) (x y z : Cap) → (if b then x else (if b then y else z)) ≡ (if b then x else z)
  nested true x y z = refl
  nested false x y z = refl

  never_owned : (b : Bool) (o : Option ℕ) → (if b then o else o) ≡ o
  never_owned true o = refl
  never_owned false o = refl

  never_at : (b : Bool) (o : Option ℕ) → o ≡ None → (if b then o else None) ≡ None
  never_at true o is = is
  never_at false o is = refl

  disowned_none : (written : Option Place) (state : State) (key : ℕ) → disowned written state (λ k. None) key ≡ None
  disowned_none None state key = refl
  disowned_none (Some (Granule granule)) state key = refl
  disowned_none (Some (Register number)) state key = never_at (number == key) (owner_for (state number) None) (never_owned _ None)

  bare-after : (step : Step) → usual_after (bare account specials harts) step ≡ bare (with_step account step) specials harts
  unfolding apart
  bare-after step =
      let run = bare account specials harts in
      let next = (with_step account step).state in
      let row = row_in account step in
      let named = naming-apart account (named_by row) in
      let rest = naming-rest account (named_by row) in
      let written = option_map (λ (w : Place × Cap). w.0) (row_of account.state step).writes in
      ap (λ (a : Account). usual_with a run step) bare-account
      ∙ run-is (usual_with apart run step) (bare (with_step account step) specials harts)
      (fun_ext (λ key. nested (nat_lt key first_special) (next key) (account.state key) (specials (key - first_special))))
      (ap (disowned written next) (fun_ext (λ key. then_none (λ k. None) (parent_of account.state step next key) (λ k. refl)))
      ∙ fun_ext (disowned_none written next))
      refl refl (sym rest.0) (sym rest.2) (sym rest.1) refl (sym named.0) (sym named.1) refl

-- Steps one after another

leads_on : (asks : Asks) (specials : ℕ → Cap) (harts : Harts) (old new : Account) (steps : List Step) → Reads log_turns (body old) (map Line.Step steps) (body new)
    → AllByRecursion IsInRange (map Line.Step steps) → IsNear old.state → IsFree old.origin
    → AllByRecursion IsStepInRange steps × LeadBy asks (bare old specials harts) steps (bare new specials harts) × IsFree new.origin
leads_on asks specials harts old new [] reads range near free =
    let same = ap (λ (s : LogStage). s.state) reads in (
      tt,
      ap (λ (a : Account). bare a specials harts) same,
      subst (λ (a : Account). IsFree a.origin) same free,
    )
leads_on asks specials harts old new (step ∷ steps) reads range near free =
    let next = with_step old step in
    let after = bare-after old specials harts near step in
    let rest = leads_on asks specials harts next new steps reads.1 range.1 (step_near old step range.0 near) (step_free old step free) in (
      (range.0, rest.0),
      (
        bare-end old specials harts near asks step ∙ ap (option_map Usual) (allowed_form old (Line.Step step) reads.0).1,
        subst (λ (r : Run). LeadBy asks r steps (bare new specials harts)) (sym after) rest.1,
      ),
      rest.2,
    )

same_text : (steps : List Step) → text_of (map Line.Step steps) ≡ text_of_steps steps
unfolding spelling run_spelling
same_text [] = refl
same_text (step ∷ steps) = ap (λ (t : List ℕ). (run_spelling (run_lines.Step step) ++ 10 ∷ []) ++ t) (same_text steps)

-- a machine without objects
module _ (held : Held) (specials : Specials) (h : Handouts) (alone : h.count ≡ 0) (none : (key : ℕ) → run_owners held specials key ≡ None) where
  empty : (slot : ℕ) → objects_of h slot ≡ None
  empty slot = nothing_at (objects_of h slot) refl
    where
      nothing_at : (o : Option _) → objects_of h slot ≡ o → o ≡ None
      nothing_at None is = refl
      nothing_at (Some object) is =
          let some = h.kept.some slot object is in
          let few = h.kept.few slot object is in
          let never : ⊥ = omega (arith, some, few, alone) in absurd never

  pub bare-run : numbered_run held specials h ≡ bare (account_of held) (cap_in specials) (harts_in specials)
  bare-run =
      run-is (numbered_run held specials h) (bare (account_of held) (cap_in specials) (harts_in specials)) refl
      (fun_ext (λ key. ap (option_and_then (number_at (objects_of h))) (none key)))
      (fun_ext (λ n. nowhere (objects_of h) empty (index_in h n))) alone refl refl refl refl refl refl refl

-- what is asked refuses no step there
module _ (held : Held) (specials : Specials) (h : Handouts) (sized : length specials.registers.labels ≡ 32)
    (counts : CountsAre (run_owners held specials) (λ n. held_of (objects_of h n))) (stored : AreStored held.memory) (alone : h.count ≡ 0)
    (step : Step) where
  pub asked-alike : (asks other : Asks) → usual_end asks (numbered_run held specials h) step ≡ usual_end other (numbered_run held specials h) step
  unfolding IsNear
  asked-alike asks other =
      let account = account_of held in
      let near : IsNear account.state = λ key far. state-far held key stored far in
      subst (λ (r : Run). usual_end asks r step ≡ usual_end other r step)
      (sym (bare-run held specials h alone (unowned held specials h sized counts alone)))
      (bare-end account (cap_in specials) (harts_in specials) near asks step ∙ sym (bare-end account (cap_in specials) (harts_in specials) near other step))

module _ (held new : Held) (specials : Specials) (h : Handouts) (asks : Asks) (sized : length specials.registers.labels ≡ 32)
    (counts : CountsAre (run_owners held specials) (λ n. held_of (objects_of h n))) (stored : AreStored held.memory) (alone : h.count ≡ 0)
    (bytes : List ℕ) (makes : MakesSteps held bytes new) where
  all_led : AllByRecursion IsStepInRange makes.steps
      × LeadBy asks (bare (account_of held) (cap_in specials) (harts_in specials)) makes.steps (bare (account_of new) (cap_in specials) (harts_in specials)) × IsFree (account_of new).origin
  unfolding IsNear IsFree
  all_led =
      leads_on asks (cap_in specials) (harts_in specials) (account_of held) (account_of new) makes.steps
      (subst (λ (ls : List Line). Reads log_turns (at dues.Body held) ls (at dues.Body new)) makes.lines_are makes.goes.reads)
      (subst (AllByRecursion IsInRange) makes.lines_are makes.goes.in_range)
      (λ key far. state-far held key stored far) (main-unowned held specials h sized counts alone stored)

  none-after : (key : ℕ) → run_owners new specials key ≡ None
  unfolding IsFree
  none-after key = elim (cases_lt key first_special) [
    | inl near ↦ owners-main new specials key near ∙ all_led.2 key
    | inr far ↦
        owners-special new specials key far ∙ sym (owners-special held specials key far) ∙ unowned held specials h sized counts alone key
  ]

  pub makes-usual : MakesUsualSteps asks (numbered_run held specials h) bytes (numbered_run new specials h)
  makes-usual = record {
    steps = makes.steps;
    in_range = all_led.0;
    bytes_are = makes.goes.bytes_are ∙ ap text_of makes.lines_are ∙ same_text makes.steps;
    leads = subst (λ (r : Run). LeadBy asks r makes.steps (numbered_run new specials h)) (sym (bare-run held specials h alone (unowned held specials h sized counts alone)))
        (subst (LeadBy asks (bare (account_of held) (cap_in specials) (harts_in specials)) makes.steps) (sym (bare-run new specials h alone none-after)) all_led.1);
  }

  pub kept-after : CountsAre (run_owners new specials) (λ n. held_of (objects_of h n))
      × AreWithin (run_state new specials) (run_owners new specials) (objects_of h)
  kept-after = (
    subst (λ (o : Owners). CountsAre o (λ n. held_of (objects_of h n)))
        (fun_ext (λ key. unowned held specials h sized counts alone key ∙ sym (none-after key))) counts,
    λ key slot o owned there. absurd (none-some slot (sym (none-after key) ∙ owned)),
  )

-- no bytes are no steps
pub makes-none : (asks : Asks) (run : Run) → MakesUsualSteps asks run [] run
makes-none asks run = record { steps = []; in_range = tt; bytes_are = refl; leads = refl }
