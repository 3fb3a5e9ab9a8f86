-- After a line a place has the owner of its parent, if it reaches some address.
use Rattle.std.proofs.Common.{◌≡◌, ◌==◌, ◌&&◌, ◌<◌, ℕ, Bool, true, false, not, nat_lt, if◌then◌else◌, Option, Some, None, option_map, option_and_then, refl, sym, ap, subst, ◌∙◌, arith, inl, inr, eq-eqb, eqb-true, le-ltb, lt-ltb}
use Rattle.std.proofs.lemmas.{Bool.{and_from, cases_Bool, cases_lt, cond-true, cond-false, false≢true, leb-true, Decides.eqb_tells}, Option.{none-some, same_Some}}
use Rattle.cap_word.specs.declared.word.{Cap.Cap, Word.Word}
use Rattle.cap_bounds.specs.Bounds.{base_of, top_of}
use Rattle.cap_log.specs.declared.kinds.Step.{Step, TheVariants.{StoreCap, Load, Store}}
use Rattle.cap_log.specs.{declared.lines.Place.{Place, TheVariants.{Register, Granule}}, Lines.IsStepInRange}
use Rattle.cap_machine.specs.{Accounts.row_in, Labels.untagged}
use Rattle.cap_machine.specs.States.{State, granule_key, key_of, put, tagged, untagged_null}
use Rattle.cap_machine.specs.Steps.{Access, Row, granule_through, row_of, state_with}
use Rattle.cap_machine.proofs.StepLemmas.{hits, hits-row_by, parent_in, row_by-access}
use Rattle.cap_objects.specs.Counts.{Owners}
use Rattle.cap_run_log.specs.declared.lines.{Derive.Derive, RunLine.RunLine, RunPlace.RunPlace, RunStep.RunStep}
use Rattle.cap_run_log.specs.declared.lines.RunLine.TheVariants as lines
use Rattle.cap_run_log.specs.declared.lines.RunRegister.TheVariants.{Special}
use Rattle.cap_run_log.specs.declared.lines.RunStep.TheVariants as steps
use Rattle.cap_run_log.specs.RunLines.{IsRunLineInRange, IsRunStepInRange}
use Rattle.cap_run.specs.{Allowed.IsLineAllowed, declared.asks.Asks.Asks, Descents.{line_parent, source_if}, Holders.{ReachesSome, handed_by}}
use Rattle.cap_run.specs.{Harts.came_from, Owned.{is_empty, owner_for}, Run.{Run, first_special, register_key}, UsualSteps.disowned}
use Rattle.cap_run.specs.RunChanges.{account_in, line_after, main_of, place_key, run_after, usual_after, with_freed}
use Rattle.cap_run.proofs.{LineLemmas.{hits_no_special, root_free}, OwnerLemmas.owner_for-some}

-- what a place holds after a line has the owner of its parent, if it reaches some address, and none otherwise
pub record Follows (run : Run) (cap : Cap) (parent owner : Option ℕ) : Type 0 where
  pub owned : (number : ℕ) → owner ≡ Some number → ReachesSome cap × ((from : ℕ) × (parent ≡ Some from) × (run.owners from ≡ Some number))
  pub owns : (number from : ℕ) → ReachesSome cap → parent ≡ Some from → run.owners from ≡ Some number → owner ≡ Some number

-- all that is owned reaches some address
abbrev pub AllReach : Run → Type 0
AllReach run = (key number : ℕ) → run.owners key ≡ Some number → ReachesSome (run.state key)

-- what reaches some address has the owner that is written
pub owner_for-reaches : (cap : Cap) (owner : Option ℕ) → ReachesSome cap → owner_for cap owner ≡ owner
owner_for-reaches cap owner reaches = elim (cases_Bool (is_empty cap.word.0)) [
  | inl empty ↦ absurd (let low = leb-true (top_of cap.word.0) (base_of cap.word.0) empty in omega (arith, low, reaches.1))
  | inr some ↦ cond-true (cap.tag && not (is_empty cap.word.0)) owner None (and_from _ _ reaches.0 (ap not some))
]

follows_here : (run : Run) (key : ℕ) → AllReach run → Follows run (run.state key) (Some key) (run.owners key)
follows_here run key reach = record {
  owned = λ number is. (reach key number is, (key, refl, is));
  owns = λ number from reaches parent is. ap run.owners (same_Some key from parent) ∙ is;
}

-- whatever the parent is
follows_parent : (run : Run) (cap : Cap) (parent : Option ℕ) → Follows run cap parent (owner_for cap (option_and_then run.owners parent))
follows_parent run cap None = record {
  owned = λ number is. let o = owner_for-some cap None number is in absurd (none-some number o.2);
  owns = λ number from reaches parent is. absurd (none-some from parent);
}
follows_parent run cap (Some source) = record {
  owned = λ number is. let o = owner_for-some cap (run.owners source) number is in ((o.0, o.1), (source, refl, o.2));
  owns = λ number from reaches parent is.
      owner_for-reaches cap (run.owners source) reaches ∙ ap run.owners (same_Some source from parent) ∙ is;
}

-- what is derived from a source
follows_written : (run : Run) (cap : Cap) (source : ℕ) → Follows run cap (source_if cap.tag source) (owner_for cap (run.owners source))
follows_written run cap source = record {
  owned = λ number is.
      let o = owner_for-some cap (run.owners source) number is in
      ((o.0, o.1), (source, ap (λ (t : Bool). source_if t source) o.0, o.2));
  owns = λ number from reaches parent is.
      owner_for-reaches cap (run.owners source) reaches
      ∙ ap run.owners (same_Some source from (sym (ap (λ (t : Bool). source_if t source) reaches.0) ∙ parent)) ∙ is;
}

follows_untagged : (run : Run) (cap : Cap) (parent : Option ℕ) → cap.tag ≡ false → Follows run cap parent (owner_for cap None)
follows_untagged run cap parent untagged_is = record {
  owned = λ number is. let o = owner_for-some cap None number is in absurd (false≢true (sym untagged_is ∙ o.0));
  owns = λ number from reaches parent_is is. absurd (false≢true (sym untagged_is ∙ reaches.0));
}

follows_if : (run : Run) (hit : Bool) (there here : Cap) (p q o u : Option ℕ) → Follows run there p o → Follows run here q u
    → Follows run (if hit then there else here) (if hit then p else q) (if hit then o else u)
follows_if run true there here p q o u a b = a
follows_if run false there here p q o u a b = b

follows_two : (run : Run) (one two : Bool) (a b c : Cap) (p q r o u v : Option ℕ) → (one ≡ true → two ≡ true → ⊥) → Follows run a p o
    → Follows run b q u → Follows run c r v
    → Follows run (if two then b else (if one then a else c)) (if one then p else (if two then q else r)) (if two then u else (if one then o else v))
follows_two run true true a b c p q r o u v apart first second third = absurd (apart refl refl)
follows_two run true false a b c p q r o u v apart first second third = first
follows_two run false true a b c p q r o u v apart first second third = second
follows_two run false false a b c p q r o u v apart first second third = third

-- the owner of what is written at a place
owner_written : (state : State) (at : ℕ) (cap : Cap) (owner : Option ℕ) → owner_for cap owner ≡ owner_for (put state at cap at) owner
owner_written state at cap owner = ap (λ (c : Cap). owner_for c owner) (sym (cond-true (at == at) cap (state at) (eq-eqb at at refl)))

module _ (run : Run) (reach : AllReach run) where
  derive_follows : (key : ℕ) (step : Derive)
      → (let after = run_after run (steps.Derive step) in
      Follows run (after.state key) (line_parent run (lines.Run (steps.Derive step)) key) (after.owners key))
  derive_follows key step =
      let to = register_key step.target in
      let from = register_key step.source in
      let result = step.result in
      subst (λ (o : Option ℕ). Follows run (if to == key then result else run.state key) (if to == key then source_if result.tag from else Some key)
      (if to == key then o else run.owners key)) (owner_written run.state to result (run.owners from))
      (follows_if run (to == key) result (run.state key) (source_if result.tag from) (Some key) (owner_for result (run.owners from)) (run.owners key)
      (follows_written run result from) (follows_here run key reach))

  both_follow : (key first second first_from second_from : ℕ) (one two : Cap) → ((first == key) ≡ true → (second == key) ≡ true → ⊥)
      → Follows run (put (put run.state first one) second two key)
      (if first == key then source_if one.tag first_from else (if second == key then source_if two.tag second_from else Some key))
      (put (put run.owners first (owner_for (put run.state first one first) (run.owners first_from))) second
      (owner_for (put (put run.state first one) second two second) (run.owners second_from)) key)
  both_follow key first second first_from second_from one two apart =
      let cap = put (put run.state first one) second two key in
      let parent = if first == key then source_if one.tag first_from else (if second == key then source_if two.tag second_from else Some key) in
      subst (λ (o : Option ℕ). Follows run cap parent
      (if second == key then owner_for (put (put run.state first one) second two second) (run.owners second_from)
      else (if first == key then o else run.owners key))) (owner_written run.state first one (run.owners first_from))
      (subst (λ (o : Option ℕ). Follows run cap parent
      (if second == key then o else (if first == key then owner_for one (run.owners first_from) else run.owners key)))
      (owner_written (put run.state first one) second two (run.owners second_from))
      (follows_two run (first == key) (second == key) one two (run.state key) (source_if one.tag first_from) (source_if two.tag second_from) (Some key)
      (owner_for one (run.owners first_from)) (owner_for two (run.owners second_from)) (run.owners key) apart
      (follows_written run one first_from) (follows_written run two second_from) (follows_here run key reach)))

  untagged_follows : (key at : ℕ) (cap : Cap) → cap.tag ≡ false
      → Follows run (put run.state at cap key) (if at == key then None else Some key) (put run.owners at (owner_for (put run.state at cap at) None) key)
  untagged_follows key at cap untagged_is =
      subst (λ (o : Option ℕ). Follows run (put run.state at cap key) (if at == key then None else Some key) (if at == key then o else run.owners key))
      (owner_written run.state at cap None)
      (follows_if run (at == key) cap (run.state key) None (Some key) (owner_for cap None) (run.owners key) (follows_untagged run cap None untagged_is)
      (follows_here run key reach))

  freed_follows : (key : ℕ) (owner : Option ℕ) → Follows run ((with_freed run owner).state key) (Some key) ((with_freed run owner).owners key)
  freed_follows key None = follows_here run key reach
  freed_follows key (Some number) = follows_here run key reach

  run_follows : (key : ℕ) (step : RunStep) → IsRunStepInRange step → handed_by run (lines.Run step) ≡ None
      → Follows run ((run_after run step).state key) (line_parent run (lines.Run step) key) ((run_after run step).owners key)
  run_follows key (steps.Derive step) range none = derive_follows key step
  run_follows key (steps.Exchange step) range none =
      let at = register_key (Special step.special) in
      both_follow key step.target at at step.source step.result step.special_result (λ here there.
      let here_is = eqb-true step.target key here in
      let there_is = eqb-true at key there in
      omega (arith, here_is, there_is, range.0))
  run_follows key (steps.Invoke step) range none =
      both_follow key first_special 31 step.code step.datum (tagged step.code_word) (tagged step.datum_word) (λ here there.
      let here_is = eqb-true first_special key here in
      let there_is = eqb-true 31 key there in
      omega (arith, here_is, there_is))
  run_follows key (steps.Drop place) range none = untagged_follows key (place_key place) (untagged (run.state (place_key place))) refl
  run_follows key (steps.Fill granule word) range none = untagged_follows key (granule_key granule) (record { tag = false; word = word }) refl
  run_follows key (steps.Object register) range none = absurd (none-some _ (sym none))
  run_follows key (steps.Widen register number) range none = absurd (none-some _ (sym none))
  run_follows key (steps.FreeOwner register) range none = freed_follows key (run.owners register)
  run_follows key (steps.FreeNumber number) range none = freed_follows key (Some number)

then_some : (owners : Owners) (parent : Option ℕ) (number : ℕ) → option_and_then owners parent ≡ Some number
    → (from : ℕ) × (parent ≡ Some from) × (owners from ≡ Some number)
then_some owners None number is = absurd (none-some number is)
then_some owners (Some from) number is = (from, refl, is)

-- what a step doesn't write keeps its owner, and is what it was
disowned_kept : (write : Option (Place × Cap)) (state : State) (owners : Owners) (key : ℕ) → hits write key ≡ false
    → disowned (option_map (λ (w : Place × Cap). w.0) write) state owners key ≡ owners key
disowned_kept None state owners key missed = refl
disowned_kept (Some (Register number, cap)) state owners key missed =
    cond-false (number == key) (owner_for (state number) (owners number)) (owners key) missed
disowned_kept (Some (Granule granule, cap)) state owners key missed = refl

state_kept : (state : State) (write : Option (Place × Cap)) (key : ℕ) → hits write key ≡ false → state_with state write key ≡ state key
state_kept state None key missed = refl
state_kept state (Some (place, cap)) key missed = cond-false (key_of place == key) cap (state key) missed

-- the owner of a register that was written
disowned_register : (number key : ℕ) (cap : Cap) (state : State) (owners : Owners) → (number == key) ≡ true
    → disowned (option_map (λ (w : Place × Cap). w.0) (Some (Register number, cap))) state owners key ≡ owner_for (state key) (owners key)
disowned_register number key cap state owners hit =
    cond-true (number == key) (owner_for (state number) (owners number)) (owners key) hit
    ∙ ap (λ (k : ℕ). owner_for (state k) (owners k)) (eqb-true number key hit)

module _ (run : Run) (reach : AllReach run) (step : Step) (key : ℕ) where
  -- what registers and granules hold after the step, what it writes, and its row
  abbrev old_state : State
  old_state = main_of run.state

  abbrev new_state : State
  new_state = state_with old_state (row_in (account_in run) step).writes

  abbrev step_row : Row
  step_row = row_of old_state step

  abbrev step_parent : ℕ → Option ℕ
  step_parent k = parent_in (hits step_row.writes k) (new_state k).tag step_row.parent k

  abbrev owners_before : Owners
  owners_before k = option_and_then run.owners (step_parent k)

  -- the step is followed at this place
  abbrev IsFollowed : Type 0
  IsFollowed = Follows run ((usual_after run step).state key) (line_parent run (lines.Step step) key) ((usual_after run step).owners key)

  missed_follows : hits step_row.writes key ≡ false → (usual_after run step).state key ≡ run.state key → IsFollowed
  missed_follows missed same =
      let tag_is = (main_of (usual_after run step).state key).tag in
      let owner_is : (usual_after run step).owners key ≡ run.owners key =
      disowned_kept step_row.writes new_state owners_before key missed
      ∙ ap (λ (hit : Bool). option_and_then run.owners (parent_in hit (new_state key).tag step_row.parent key)) missed in
      subst (λ (o : Option ℕ). Follows run ((usual_after run step).state key) (line_parent run (lines.Step step) key) o) (sym owner_is)
      (subst (λ (hit : Bool). Follows run ((usual_after run step).state key) (parent_in hit tag_is step_row.parent key) (run.owners key)) (sym missed)
      (subst (λ (cap : Cap). Follows run cap (Some key) (run.owners key)) (sym same) (follows_here run key reach)))

  module _ (near : key < first_special) where
    after_is : (usual_after run step).state key ≡ new_state key
    after_is = cond-true (nat_lt key first_special) (new_state key) (run.state key) (lt-ltb key first_special near)

    main_is : main_of (usual_after run step).state key ≡ new_state key
    main_is = cond-true (nat_lt key first_special) ((usual_after run step).state key) untagged_null (lt-ltb key first_special near) ∙ after_is

    old_is : old_state key ≡ run.state key
    old_is = cond-true (nat_lt key first_special) (run.state key) untagged_null (lt-ltb key first_special near)

    near_follows : Follows run (new_state key) (step_parent key) ((usual_after run step).owners key) → IsFollowed
    near_follows follows =
        subst (λ (cap : Cap). Follows run cap (line_parent run (lines.Step step) key) ((usual_after run step).owners key)) (sym after_is)
        (subst (λ (cap : Cap). Follows run (new_state key) (parent_in (hits step_row.writes key) cap.tag step_row.parent key)
        ((usual_after run step).owners key)) (sym main_is) follows)

    missed_near : hits step_row.writes key ≡ false → IsFollowed
    missed_near missed =
        missed_follows missed (after_is
        ∙ state_kept old_state (row_in (account_in run) step).writes key (hits-row_by run.rules step_row key ∙ missed) ∙ old_is)

    register_follows : (number : ℕ) (cap : Cap) → step_row.writes ≡ Some (Register number, cap) → IsFollowed
    register_follows number cap writes_is = elim (cases_Bool (hits step_row.writes key)) [
      | inr missed ↦ missed_near missed
      | inl hit ↦
          let here : (number == key) ≡ true = ap (λ (w : Option (Place × Cap)). hits w key) (sym writes_is) ∙ hit in
          let owner_is : (usual_after run step).owners key ≡ owner_for (new_state key) (owners_before key) =
          ap (λ (w : Option (Place × Cap)). disowned (option_map (λ (x : Place × Cap). x.0) w) new_state owners_before key) writes_is
          ∙ disowned_register number key cap new_state owners_before here in
          near_follows (subst (λ (o : Option ℕ). Follows run (new_state key) (step_parent key) o) (sym owner_is)
          (follows_parent run (new_state key) (step_parent key)))
    ]

    -- a granule that is written with what a register holds
    granule_follows : (granule : ℕ) (cap : Cap) → step_row.writes ≡ Some (Granule granule, cap)
        → (hits step_row.writes key ≡ true → (number : ℕ) → owners_before key ≡ Some number → ReachesSome (new_state key)) → IsFollowed
    granule_follows granule cap writes_is reaches = elim (cases_Bool (hits step_row.writes key)) [
      | inr missed ↦ missed_near missed
      | inl hit ↦
          let owner_is : (usual_after run step).owners key ≡ owners_before key =
          ap (λ (w : Option (Place × Cap)). disowned (option_map (λ (x : Place × Cap). x.0) w) new_state owners_before key) writes_is in
          near_follows (subst (λ (o : Option ℕ). Follows run (new_state key) (step_parent key) o) (sym owner_is)
          (record {
            owned = λ number is. (reaches hit number is, then_some run.owners (step_parent key) number is);
            owns = λ number from any parent_is is. ap (option_and_then run.owners) parent_is ∙ is;
          }))
    ]

nothing_from : (hit held : Bool) (key number : ℕ) (owners : Owners) → hit ≡ true → option_and_then owners (parent_in hit held None key) ≡ Some number → ⊥
nothing_from true true key number owners hit is = none-some number is
nothing_from true false key number owners hit is = none-some number is
nothing_from false held key number owners hit is = false≢true hit

source_owner : (hit held : Bool) (source key number : ℕ) (owners : Owners) → hit ≡ true
    → option_and_then owners (parent_in hit held (Some (Register source)) key) ≡ Some number → owners source ≡ Some number
source_owner true true source key number owners hit is = is
source_owner true false source key number owners hit is = absurd (none-some number is)
source_owner false held source key number owners hit is = absurd (false≢true hit)

-- what a granule holds after what a register holds was stored there
stored_is : (run : Run) (step : Step) (key granule : ℕ) (cap : Cap) (access : Access) → (row_of (main_of run.state) step).access ≡ Some access
    → (row_of (main_of run.state) step).writes ≡ Some (Granule granule, cap) → hits (row_of (main_of run.state) step).writes key ≡ true
    → state_with (main_of run.state) (row_in (account_in run) step).writes key ≡ cap
stored_is run step key granule cap access access_is writes_is hit =
    let old = main_of run.state in
    ap (λ (r : Row). state_with old r.writes key) (row_by-access run.rules (row_of old step) access access_is)
    ∙ ap (λ (w : Option (Place × Cap)). state_with old w key) writes_is
    ∙ cond-true (granule_key granule == key) cap (old key) (ap (λ (w : Option (Place × Cap)). hits w key) (sym writes_is) ∙ hit)

usual_near : (run : Run) (reach : AllReach run) (step : Step) (key : ℕ) → IsStepInRange step → key < first_special
    → Follows run ((usual_after run step).state key) (line_parent run (lines.Step step) key) ((usual_after run step).owners key)
usual_near run reach (StoreCap step) key range near =
    let old = main_of run.state in
    let granule = granule_through old step.authority step.offset in
    granule_follows run reach (StoreCap step) key near granule (old step.source) refl (λ hit number is.
    let owner_is = source_owner _ _ step.source key number run.owners hit is in
    let same : old step.source ≡ run.state step.source =
    cond-true (nat_lt step.source first_special) (run.state step.source) untagged_null (lt-ltb step.source first_special (omega (arith, range.0))) in
    let written = stored_is run (StoreCap step) key granule (old step.source) _ refl refl hit in
    subst ReachesSome (sym (written ∙ same)) (reach step.source number owner_is))
usual_near run reach (Load step) key range near = missed_near run reach (Load step) key near refl
usual_near run reach (Store step) key range near =
    granule_follows run reach (Store step) key near (granule_through (main_of run.state) step.authority step.offset) _ refl
    (λ hit number is. absurd (nothing_from _ _ key number run.owners hit is))
usual_near run reach step key range near = register_follows run reach step key near _ _ refl

usual_follows : (run : Run) (reach : AllReach run) (step : Step) (key : ℕ) → IsStepInRange step
    → Follows run ((usual_after run step).state key) (line_parent run (lines.Step step) key) ((usual_after run step).owners key)
usual_follows run reach step key range = elim (cases_lt key first_special) [
  | inl near ↦ usual_near run reach step key range near
  | inr far ↦ missed_follows run reach step key (hits_no_special (main_of run.state) step key range far)
      (cond-false (nat_lt key first_special) _ (run.state key) (le-ltb key first_special far))
]

root_follows : (run : Run) (reach : AllReach run) (place : RunPlace) (word : Word) (key : ℕ) → (run.state (place_key place)).tag ≡ false
    → Follows run (put run.state (place_key place) (tagged word) key) (Some key) (run.owners key)
root_follows run reach place word key untaken = elim (eqb_tells (place_key place) key) [
  | inl same ↦ record {
    owned = λ number is.
        let held = ap (λ (k : ℕ). (run.state k).tag) same.1 ∙ (reach key number is).0 in
        absurd (false≢true (sym untaken ∙ held));
    owns = λ number from reaches parent is. ap run.owners (same_Some key from parent) ∙ is;
  }
  | inr unlike ↦
      subst (λ (cap : Cap). Follows run cap (Some key) (run.owners key))
      (sym (cond-false (place_key place == key) (tagged word) (run.state key) unlike.0)) (follows_here run key reach)
]

-- an allowed line that isn't an `object` line is followed at each place
pub line_follows : (asks : Asks) (run : Run) (line : RunLine) (key : ℕ) → AllReach run → IsRunLineInRange line → IsLineAllowed asks run line
    → handed_by run line ≡ None → Follows run ((line_after run line).state key) (line_parent run line key) ((line_after run line).owners key)
line_follows asks run lines.Version key reach range allowed none = follows_here run key reach
line_follows asks run (lines.Mode mode) key reach range allowed none = follows_here run key reach
line_follows asks run (lines.Plain version) key reach range allowed none = follows_here run key reach
line_follows asks run (lines.Root place word) key reach range allowed none =
    root_follows run reach place word key (root_free run place word allowed).untaken
line_follows asks run (lines.Hart hart) key reach range allowed none = follows_here run (came_from run.harts.current hart key) reach
line_follows asks run (lines.Step step) key reach range allowed none = usual_follows run reach step key range
line_follows asks run (lines.Run step) key reach range allowed none = run_follows run reach key step range none
line_follows asks run (lines.End count) key reach range allowed none = follows_here run key reach
