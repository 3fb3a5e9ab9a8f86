-- Steps of version 2, by the numbers of objects.
use Rattle.std.specs.FinMap as finmap
use Rattle.std.specs.Option.{option_map_or}
use Rattle.std.specs.Prelude.{Err}
use Rattle.std.proofs.Common.{◌≡◌, ◌≢◌, ◌==◌, ◌-◌, ◌/◌, ◌<◌, ◌≤◌, ◌||◌, ◌&&◌, ◌^◌, not, nat_lt, nat_le, ℕ, Bool, true, false, IsTrue, Some, None, Option, inl, inr, length}
use Rattle.std.proofs.Common.{if◌then◌else◌, refl, sym, ap, subst, ◌∙◌, arith, lt-ltb, le-ltb, List, [], ◌∷◌, ◌++◌, map, option_map, option_and_then, IfSome, unwrap_or, replicate, ℤ}
use Rattle.std.proofs.Math.Path.{fun_ext}
use Rattle.std.proofs.lemmas.{Bool.{cases_lt, cond-true, cond-false}, List.{append_assoc, map-append}, Option.{none-some, same_Some}}
use Rattle.cap_word.specs.{declared.word.Cap.Cap, Memory.{number_of, stored_word}, Word.null_word}
use Rattle.cap_log.specs.{declared.{kinds.Step.{Step, TheVariants.{Load, LoadCap, Store, StoreCap}}, lines.Place.{Place, TheVariants.{Granule, Register}}}, Lines.{IsPlace, IsStepInRange}}
use Rattle.cap_ops.specs.{Accesses.access_address, declared.refusal.Refusal.{Refusal, TheVariants.{LimitPassed, WrongResult}}, Checks.first_of}
use Rattle.tagmem.specs.Granules.{AreStored, Entry, Granules, blank}
use Rattle.cap_machine.specs.Accounts.{Account, is_new, most_steps, named_by, naming, passes_granule_limit, row_in, step_checks, with_step}
use Rattle.cap_machine.specs.{declared.ends.StepEnd.{StepEnd, TheVariants.{NoMemory, Refused}}, Helds.{EndsStep, Held, account_of, granule_cap, state_of}}
use Rattle.cap_machine.specs.{Runs.parent_of, States.{State, key_of, untagged_null}, Steps.{Access, Row, agrees, clear_row, row_by, row_of, written_by}}
use Rattle.cap_machine.specs.declared.rules.Rules.{Rules, TheVariants.TwoClear}
use Rattle.cap_objects.specs.{Counts.{CountsAre, Owners}, declared.{handouts.Handouts.Handouts}, Handed.held_of, HandoutsIn.objects_of}
use Rattle.cap_run.specs.declared.{asks.Asks.Asks, ends.{RunRefusal.{RunRefusal, TheVariants.{NotOwned, OwnerFreed, Usual}}}, specials.Specials.Specials}
use Rattle.cap_run.specs.{Numbers.{number_at, numbered, numbered_run}, Owned.owner_for, Run.{Run, first_special}, RunChanges.{account_in, main_of, stepped, usual_after}}
use Rattle.cap_run.specs.{RunChecks.{Answers, asked_checks, is_unowned, uses_freed, usual_end, usual_ended, usual_wants}, RunOf.{run_owners, run_state}, UsualSteps.{MakesUsual, disowned, main_owners}}
use Rattle.cap_run.proofs.{RootLemmas.first-usual, RunNumberLemmas.{IsNumbered, numbered-put, objects-after, owners-after, run-is}}
use Rattle.cap_run.proofs.UsualLemmas.{disowned-other, own_parent, owners-main, owners-special, place-low, state-main, state-special}

-- a granule that was never put holds NULL without a tag
zero_word : stored_word (replicate 16 0) ≡ null_word
unfolding number_of
zero_word = refl

cap_of : Entry → Cap
cap_of entry = record { tag = entry.0; word = record { 0 = stored_word entry.1 } }

unput : (memory : Granules) (granule : ℕ) → finmap.get memory granule ≡ None → granule_cap memory granule ≡ untagged_null
unfolding cap_of
unput memory granule absent =
    ap (λ (o : Option Entry). cap_of (unwrap_or o blank)) absent ∙ ap (λ (n : ℕ). let held : Cap = record { tag = false; word = record { 0 = n } } in held) zero_word

-- no granule is past the memory
past_memory : (memory : Granules) (granule : ℕ) (o : Option Entry) → AreStored memory → finmap.get memory granule ≡ o → 2 ^ 60 ≤ granule → o ≡ None
past_memory memory granule None stored is far = refl
past_memory memory granule (Some entry) stored is far = absurd (let e = (stored granule entry is).in_memory in omega arith)

pub state-far : (held : Held) (key : ℕ) → AreStored held.memory → first_special ≤ key → state_of held key ≡ untagged_null
state-far held key stored far =
    let past : nat_lt key 32 ≡ false = le-ltb key 32 (omega arith) in
    cond-false (nat_lt key 32) _ (granule_cap held.memory (key - 32)) past
    ∙ unput held.memory (key - 32) (past_memory held.memory (key - 32) (finmap.get held.memory (key - 32)) stored refl (omega arith))

-- what registers and granules of a run hold
pub main-is : (held : Held) (specials : Specials) → AreStored held.memory → main_of (run_state held specials) ≡ state_of held
main-is held specials stored = fun_ext (λ key. elim (cases_lt key first_special) [
  | inl near ↦ cond-true (nat_lt key first_special) (run_state held specials key) _ (lt-ltb key first_special near) ∙ state-main held specials key near
  | inr far ↦ cond-false (nat_lt key first_special) (run_state held specials key) untagged_null (le-ltb key first_special far) ∙ sym (state-far held key stored far)
])

-- the account of a machine without origins
abbrev pub plain : Held → Account
plain held = record (account_of held) { origin = λ key. None }

pub account-is : (held : Held) (specials : Specials) (h : Handouts) → AreStored held.memory → account_in (numbered_run held specials h) ≡ plain held
account-is held specials h stored = ap (λ (s : State). record (plain held) { state = s }) (main-is held specials stored)

-- naming leaves the rest, and sees no origins
pub naming-rest : (account : Account) (granule : Option ℕ) → (let after = naming account granule in (after.rules ≡ account.rules) × (after.roots ≡ account.roots) × (after.limits ≡ account.limits))
naming-rest account None = (refl, refl, refl)
naming-rest account (Some granule) = (refl, refl, refl)

pub naming-apart : (account : Account) (granule : Option ℕ)
    → (let one = naming account granule in let two = naming (record account { origin = λ key. None }) granule in
    (one.is_named ≡ two.is_named) × (one.granules ≡ two.granules))
naming-apart account None = (refl, refl)
naming-apart account (Some granule) = (refl, refl)

-- the parent of what a step writes is a register or a granule
address_low : (w : ℕ) (offset : ℤ) → access_address w offset / 16 < 2 ^ 60
unfolding access_address
address_low w offset = omega arith

by_register : (source : ℕ) (place : Place) → source ≤ 31 → Some (Register source) ≡ Some place → key_of place < first_special
by_register source place low is = subst (λ (p : Place). key_of p < first_special) (same_Some (Register source) place is) (omega (arith, low))

parent-low : (state : State) (step : Step) (place : Place) → IsStepInRange step → (row_of state step).parent ≡ Some place → key_of place < first_special
parent-low state (LoadCap step) place range is =
    let low = address_low (state step.authority).word.0 step.offset in
    subst (λ (p : Place). key_of p < first_special) (same_Some _ place is) (omega (arith, low))
parent-low state (StoreCap step) place range is = by_register step.source place range.0 is
parent-low state (Load step) place range is = absurd (none-some place is)
parent-low state (Store step) place range is = absurd (none-some place is)
parent-low state step place range is = by_register _ place range.1 is

-- the place that a step writes is a register but c0, or a granule
pub writes-low : (state : State) (step : Step) → IsStepInRange step → IfSome (written_by state step) IsPlace
writes-low state (StoreCap step) range = address_low (state step.authority).word.0 step.offset
writes-low state (Load step) range = tt
writes-low state (Store step) range = address_low (state step.authority).word.0 step.offset
writes-low state step range = range.0

-- the rules change what is written, and not where
same_place : (f : Cap → Cap) (writes : Option (Place × Cap))
    → option_map (λ (write : Place × Cap). write.0) (option_map (λ (write : Place × Cap). (write.0, f write.1)) writes)
    ≡ option_map (λ (write : Place × Cap). write.0) writes
same_place f None = refl
same_place f (Some write) = refl

cleared_place : (access : Option Access) (row : Row)
    → option_map (λ (write : Place × Cap). write.0) (clear_row access row).writes ≡ option_map (λ (write : Place × Cap). write.0) row.writes
cleared_place None row = same_place _ row.writes
cleared_place (Some access) row = refl

ruled_place : (rules : Rules) (row : Row)
    → option_map (λ (write : Place × Cap). write.0) (row_by rules row).writes ≡ option_map (λ (write : Place × Cap). write.0) row.writes
ruled_place TwoClear row = cleared_place row.access row
ruled_place rules row = refl

pub ruled-low : (account : Account) (step : Step) → IsStepInRange step
    → IfSome (option_map (λ (write : Place × Cap). write.0) (row_in account step).writes) IsPlace
ruled-low account step range =
    subst (λ (place : Option Place). IfSome place IsPlace) (sym (ruled_place account.rules (row_of account.state step)))
    (writes-low account.state step range)

-- the parent of a place that a step writes, and of another
parent_in : (writes : Option (Place × Cap)) (tag : Bool) (parent : Option Place) (key from : ℕ)
    → (if option_map_or (λ (to : Place × Cap). key_of to.0 == key) writes false then (if tag then option_map key_of parent else None) else Some key) ≡ Some from
    → key < first_special → ((place : Place) → parent ≡ Some place → key_of place < first_special) → from < first_special
parent_in writes tag parent key from is low parents = by (option_map_or (λ (to : Place × Cap). key_of to.0 == key) writes false) tag parent is parents
  where
    by : (b t : Bool) (p : Option Place) → (if b then (if t then option_map key_of p else None) else Some key) ≡ Some from
        → ((place : Place) → p ≡ Some place → key_of place < first_special) → from < first_special
    by false t p is parents = subst (λ (k : ℕ). k < first_special) (same_Some key from is) low
    by true true (Some place) is parents = subst (λ (k : ℕ). k < first_special) (same_Some (key_of place) from is) (parents place refl)
    by true true None is parents = absurd (none-some from is)
    by true false p is parents = absurd (none-some from is)

-- an owner that is taken from a register that was written
disowned-under : (f : ℕ → Option ℕ) (written : Option Place) (state : State) (owners : Owners) (key : ℕ)
    → option_and_then f (disowned written state owners key) ≡ disowned written state (λ k. option_and_then f (owners k)) key
disowned-under f None state owners key = refl
disowned-under f (Some (Granule granule)) state owners key = refl
disowned-under f (Some (Register number)) state owners key = numbered-put f owners number (state number) (owners number) key

-- it depends on the owners of that place and of the register that was written
disowned-local : (written : Option Place) (state : State) (one two : Owners) (key : ℕ) → one key ≡ two key
    → ((place : Place) → written ≡ Some place → one (key_of place) ≡ two (key_of place)) → disowned written state one key ≡ disowned written state two key
disowned-local None state one two key here written = here
disowned-local (Some (Granule granule)) state one two key here written = here
disowned-local (Some (Register number)) state one two key here written =
    ap (λ (o : Option ℕ). if number == key then owner_for (state number) o else one key) (written (Register number) refl)
    ∙ ap (λ (o : Option ℕ). if number == key then owner_for (state number) (two number) else o) here

pub low_place : (written : Option Place) (place : Place) → IfSome written IsPlace → written ≡ Some place → key_of place < first_special
low_place None place low is = absurd (none-some place is)
low_place (Some other) place low is = subst (λ (p : Place). key_of p < first_special) (same_Some other place is) (place-low other low)

then_same : (o : Option ℕ) (f g : ℕ → Option ℕ) → ((k : ℕ) → o ≡ Some k → f k ≡ g k) → option_and_then f o ≡ option_and_then g o
then_same None f g same = refl
then_same (Some k) f g same = same k refl

then_twice : (o : Option ℕ) (f g : ℕ → Option ℕ) → option_and_then f (option_and_then g o) ≡ option_and_then (λ k. option_and_then f (g k)) o
then_twice None f g = refl
then_twice (Some k) f g = refl

-- a run after a step of version 2 in a machine with this account
abbrev pub usual_with : Account → Run → Step → Run
usual_with old run step =
    let new = with_step old step in
    let written = written_by old.state step in
    stepped (record run {
      state = λ key. if nat_lt key first_special then new.state key else run.state key;
      owners = disowned written new.state (λ key. option_and_then run.owners (parent_of old.state step new.state key));
      is_named = new.is_named;
      granules = new.granules;
    })

module _ (held new : Held) (specials : Specials) (h after : Handouts) (step : Step) (range : IsStepInRange step) (stored : AreStored held.memory)
    (sized : length specials.registers.labels ≡ 32) (are : CountsAre (run_owners new specials) (λ s. held_of (objects_of after s)))
    (index : IsNumbered h) (reindex : IsNumbered after) (low : IfSome (written_by (state_of held) step) IsPlace) (count : after.count ≡ h.count)
    (makes : MakesUsual held (objects_of h) step new (objects_of after)) where
  next : State
  next = (with_step (account_of held) step).state

  next_is : state_of new ≡ next
  unfolding next
  next_is = ap (λ (a : Account). a.state) makes.account

  parent : ℕ → Option ℕ
  parent key = parent_of (state_of held) step (next) key

  f : ℕ → Option ℕ
  f = number_at (objects_of h)

  goal : Run
  goal = usual_with (plain held) (numbered_run held specials h) step

  usual-state : run_state new specials ≡ goal.state
  unfolding goal
  usual-state = fun_ext (λ key. elim (cases_lt key first_special) [
    | inl near ↦
        state-main new specials key near ∙ ap (λ (a : Account). a.state key) makes.account
        ∙ sym (cond-true (nat_lt key first_special) _ (run_state held specials key) (lt-ltb key first_special near))
    | inr far ↦
        state-special new specials key far ∙ sym (state-special held specials key far)
        ∙ sym (cond-false (nat_lt key first_special) _ (run_state held specials key) (le-ltb key first_special far))
  ])

  -- the owners of registers and granules
  main-numbered : (key : ℕ) → key < first_special → option_and_then f (run_owners new specials key) ≡ goal.owners key
  unfolding goal f next next_is parent
  main-numbered key near =
      let written = written_by (state_of held) step in
      let by : ℕ → Option ℕ = λ k. option_and_then (main_owners held) (parent_of (state_of held) step next k) in
      let numbers : ℕ → Option ℕ = numbered (objects_of h) (run_owners held specials) in
      let same : (k : ℕ) → k < first_special → option_and_then f (by k) ≡ option_and_then numbers (parent_of (state_of held) step next k) = λ k k_low.
      then_twice (parent_of (state_of held) step next k) f (main_owners held)
      ∙ then_same (parent_of (state_of held) step next k) (λ p. option_and_then f (main_owners held p)) numbers (λ p is.
      ap (option_and_then f) (sym (owners-main held specials p (parent_in (row_of (state_of held) step).writes (next k).tag (row_of (state_of held) step).parent k p is k_low
      (λ place there. parent-low (state_of held) step place range there))))) in
      ap (option_and_then f) (owners-main new specials key near ∙ makes.owners key)
      ∙ ap (λ (s : State). option_and_then f (disowned written s (λ k. option_and_then (main_owners held) (parent_of (state_of held) step s k)) key)) next_is
      ∙ disowned-under f written next by key
      ∙ disowned-local written next (λ k. option_and_then f (by k)) (λ k. option_and_then numbers (parent_of (state_of held) step next k)) key
      (same key near) (λ place is. same (key_of place) (low_place written place low is))

  -- those of special registers
  special-numbered : (key : ℕ) → first_special ≤ key → option_and_then f (run_owners new specials key) ≡ goal.owners key
  unfolding goal f next
  special-numbered key far =
      let written = written_by (state_of held) step in
      let numbers : ℕ → Option ℕ = numbered (objects_of h) (run_owners held specials) in
      let differ : (place : Place) → written ≡ Some place → key_of place ≢ key = λ place is e.
      let near = low_place written place low is in let same : key_of place ≡ key = e in omega (arith, near, far, same) in
      ap (option_and_then f) (owners-special new specials key far ∙ sym (owners-special held specials key far))
      ∙ sym (ap (option_and_then numbers) (own_parent (row_of (state_of held) step).writes key _ differ))
      ∙ sym (disowned-other written next (λ k. option_and_then numbers (parent_of (state_of held) step next k)) key differ)

  usual-owners : numbered (objects_of after) (run_owners new specials) ≡ goal.owners
  unfolding f
  usual-owners =
      owners-after held new specials specials h after sized are index reindex makes.recounted
      ∙ fun_ext (λ key. elim (cases_lt key first_special) [
        | inl near ↦ main-numbered key near
        | inr far ↦ special-numbered key far
      ])

  after-plain : numbered_run new specials after ≡ goal
  unfolding goal
  after-plain =
      let row = row_in (account_of held) step in
      let named = naming-apart (account_of held) (named_by row) in
      let rest = naming-rest (account_of held) (named_by row) in
      run-is (numbered_run new specials after) goal usual-state usual-owners
      (objects-after held new specials specials h after sized are index reindex goal.owners usual-owners makes.recounted) count
      (ap (λ (a : Account). a.rules) makes.account ∙ rest.0) (ap (λ (a : Account). a.limits) makes.account ∙ rest.2)
      (ap (λ (a : Account). a.roots) makes.account ∙ rest.1)
      (ap (λ (a : Account). a.steps) makes.account) (ap (λ (a : Account). a.is_named) makes.account ∙ named.0)
      (ap (λ (a : Account). a.granules) makes.account ∙ named.1) refl

  pub usual-numbered : numbered_run new specials after ≡ usual_after (numbered_run held specials h) step
  unfolding goal
  usual-numbered = after-plain ∙ ap (λ (a : Account). usual_with a (numbered_run held specials h) step) (sym (account-is held specials h stored))

-- why a step of version 2 is refused where nothing is asked
abbrev pub asks_nothing : Asks → Asks
asks_nothing asks = record asks { used = false; owned = false }

abbrev pub usual_check : Bool × Refusal → Bool × RunRefusal
usual_check check = (check.0, Usual check.1)

-- a failed check of an access that isn't asked is passed over
pub passed : (checks : List (Bool × RunRefusal)) (x y : RunRefusal) (one two : Bool) (rest : List (Bool × RunRefusal))
    → first_of (checks ++ (false && one, x) ∷ (false && two, y) ∷ rest) ≡ first_of (checks ++ rest)
passed [] x y one two rest = refl
passed (check ∷ checks) x y one two rest = ap (λ (o : Option RunRefusal). if check.0 then Some check.1 else o) (passed checks x y one two rest)

abbrev pub last_checks : Account → Step → List (Bool × Refusal)
last_checks account step =
    let row = row_in account step in
    (not (agrees row.writes row.records), WrongResult)
    ∷ (nat_le most_steps account.steps || passes_granule_limit account (named_by row), LimitPassed) ∷ []

pub usual-end : (held : Held) (specials : Specials) (h : Handouts) (step : Step) (asks : Asks) → AreStored held.memory
    → usual_end (asks_nothing asks) (numbered_run held specials h) step ≡ option_map Usual (first_of (step_checks (account_of held) step))
usual-end held specials h step asks stored =
    let run = numbered_run held specials h in
    let by : Account → Option RunRefusal = λ a. let row = row_in a step in
    first_of (map usual_check row.checks ++ asked_checks (asks_nothing asks) run row.access ++ map usual_check (last_checks a step)) in
    let row = row_in (account_of held) step in
    ap by (account-is held specials h stored)
    ∙ ap first_of (append_assoc (map usual_check row.checks) (asked_checks (asks_nothing asks) run row.access) (map usual_check (last_checks (account_of held) step)))
    ∙ passed (map usual_check row.checks) OwnerFreed NotOwned (option_map_or (uses_freed run) row.access false)
    (option_map_or (is_unowned run) row.access false) (map usual_check (last_checks (account_of held) step))
    ∙ ap first_of (sym (map-append usual_check row.checks (last_checks (account_of held) step)))
    ∙ first-usual (row.checks ++ last_checks (account_of held) step)

pub usual-refused : (held new : Held) (specials : Specials) (h : Handouts) (step : Step) (asks : Asks) (end : StepEnd) → AreStored held.memory
    → EndsStep held step end new
    → (let run = numbered_run held specials h in
    Answers (usual_end (asks_nothing asks) run step) (usual_after run step) (usual_wants run step) run (Err (usual_ended end)) (numbered_run new specials h))
usual-refused held new specials h step asks (Refused refusal) stored is = (
  usual-end held specials h step asks stored ∙ ap (option_map Usual) is.0,
  ap (λ (x : Held). numbered_run x specials h) is.1,
)
usual-refused held new specials h step asks NoMemory stored is = (
  usual-end held specials h step asks stored ∙ ap (option_map Usual) is.0,
  subst (λ (a : Account). IsTrue (is_new a (named_by (row_in a step)))) (sym (account-is held specials h stored)) is.1,
  ap (λ (x : Held). numbered_run x specials h) is.2,
)
