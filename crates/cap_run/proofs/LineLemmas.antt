-- Each tagged capability after an allowed line of a run comes from one before it, or is a root.
use Rattle.std.proofs.Common.{◌≡◌, ◌==◌, ◌+◌, ◌/◌, ℤ, ◌<◌, ◌≤◌, ◌^◌, ◌||◌, ◌++◌, ◌∷◌, [], ℕ, Bool, true, false, not, nat_lt, nat_le, if◌then◌else◌, List, map, Option, Some, None}
use Rattle.std.proofs.Common.{le-ltb, lt-ltb, ne_eqb, eqb-true, refl, sym, ap, subst, ◌∙◌, arith, option_map, ◌⊎◌, inl, inr, IsTrue}
use Rattle.std.proofs.lemmas.{Bool.{and_parts, cases_lt, cond-true, cond-false, false≢true, leb-true, not-false}, Bool.Decides.eqb_tells, Option.none-some}
use Rattle.cap_word.specs.declared.word.{Cap.Cap, Word.Word}
use Rattle.cap_bounds.specs.Bounds.{IsSound, base_of, is_sound, length_of, top_of}
use Rattle.cap_ops.specs.{Authority.{ReachesNoMore, StaysWithin}, Checks.first_of, DerivedWords.{derive_checks, invoke_checks, is_invoked, is_opened, reaches_no_more}}
use Rattle.cap_ops.specs.{Accesses.access_address, declared.refusal.Refusal.{Refusal, TheVariants.{LimitPassed, Misplaced, PlaceTaken, UnsoundRoot, WrongResult}}, Permissions.{unsealed_type, with_type}}
use Rattle.cap_ops.proofs.{DerivedLemmas.{code_within, data_within, derived_within}, ReachLemmas.ReachesNoMore-refl}
use Rattle.cap_ops.proofs.TestLemmas.{first_of-append_free, none_hold}
use Rattle.cap_log.specs.{declared.kinds.Step.{Step, TheVariants.{StoreCap, Load, Store}}, Lines.IsStepInRange}
use Rattle.cap_machine.specs.{Accounts.{named_by, passes_granule_limit, row_in}, Labels.untagged, Parents.IsSoundState}
use Rattle.cap_machine.specs.States.{State, granule_key, tagged, untagged_null}
use Rattle.cap_machine.specs.Steps.{Leads, agrees, row_of, state_with}
use Rattle.cap_machine.proofs.{AuthorityLemmas.one_back, StepLemmas.{hits, parent_in}}
use Rattle.cap_run_log.specs.declared.lines.{RunLine.RunLine, RunPlace.RunPlace, RunRegister.RunRegister, RunStep.RunStep}
use Rattle.cap_run_log.specs.declared.lines.RunLine.TheVariants as lines
use Rattle.cap_run_log.specs.declared.lines.RunRegister.TheVariants.{General, Special}
use Rattle.cap_run_log.specs.declared.lines.RunStep.TheVariants as steps
use Rattle.cap_run_log.specs.RunLines.{IsRunLineInRange, IsRunStepInRange}
use Rattle.cap_run.specs.declared.{asks.Asks.Asks, ends.RunRefusal.RunRefusal}
use Rattle.cap_run.specs.declared.ends.RunRefusal.TheVariants.{Usual}
use Rattle.cap_run.specs.{Allowed.{DeclaresAt, IsLineAllowed, LineComesFrom, LineStaysWithin}, Descents.{line_parent, source_if}}
use Rattle.cap_run.specs.{Harts.came_from, Run.{Run, first_special, register_key}, RunChanges.{account_in, granule_in, line_after, main_of, place_key, run_after, usual_after, with_freed}}
use Rattle.cap_run.specs.{RunChecks.{asked_checks, passes_limit, root_end, run_end, usual_end}, RunSteps.{derived_refusal, invoked_refusal, is_pcc, or_later}}

-- what a place then holds comes from what one held before: that was tagged, and the word is sound and reaches no more
record CameFrom (old : State) (cap : Cap) (parent : Option ℕ) (from : ℕ) : Type 0 where
  pub by : parent ≡ Some from
  pub tag : (old from).tag ≡ true
  pub no_more : ReachesNoMore cap.word.0 (old from).word.0
  pub sound : IsSound cap.word.0

abbrev Comes : State → Cap → Option ℕ → Type 0
Comes old cap parent = cap.tag ≡ true → (from : ℕ) × CameFrom old cap parent from

comes_here : (old : State) (key : ℕ) → IsSoundState old → Comes old (old key) (Some key)
comes_here old key sound held =
    (key, record { by = refl; tag = held; no_more = ReachesNoMore-refl (old key).word.0; sound = sound key held })

comes_untagged : (old : State) (cap : Cap) (parent : Option ℕ) → cap.tag ≡ false → Comes old cap parent
comes_untagged old cap parent untagged held = absurd (false≢true (sym untagged ∙ held))

-- what stays within a source comes from it
comes_within : (old : State) (tag : Bool) (word : Word) (source : ℕ) → IsSoundState old
    → (tag ≡ true → StaysWithin (record { tag = true; word = word }) (old source))
    → Comes old (record { tag = tag; word = word }) (source_if tag source)
comes_within old tag word source sound within held =
    let stays = within held in
    let from = stays.from_tagged refl in (
      source,
      record {
        by = ap (λ (t : Bool). source_if t source) held;
        tag = from;
        no_more = stays.no_more refl (sound source from);
        sound = stays.sound refl (sound source from);
      },
    )

-- of two capabilities that a place may hold
comes_if : (old : State) (hit : Bool) (there here : Cap) (at other : Option ℕ) → Comes old there at → Comes old here other
    → Comes old (if hit then there else here) (if hit then at else other)
comes_if old true there here at other a b = a
comes_if old false there here at other a b = b

-- of three, where two places aren't one
comes_two : (old : State) (one two : Bool) (a b c : Cap) (p q r : Option ℕ) → (one ≡ true → two ≡ true → ⊥) → Comes old a p → Comes old b q
    → Comes old c r
    → Comes old (if two then b else (if one then a else c)) (if one then p else (if two then q else r))
comes_two old true true a b c p q r apart first second third = absurd (apart refl refl)
comes_two old true false a b c p q r apart first second third = first
comes_two old false true a b c p q r apart first second third = second
comes_two old false false a b c p q r apart first second third = third

pub later_none : (first later : Option RunRefusal) → or_later first later ≡ None → (first ≡ None) × (later ≡ None)
later_none None later free = (refl, free)
later_none (Some refusal) later free = absurd (none-some refusal (sym free))

mapped_none : {A B : Type 0} (f : A → B) (o : Option A) → option_map f o ≡ None → o ≡ None
mapped_none f None free = refl
mapped_none f (Some a) free = absurd (none-some (f a) (sym free))

sound_word : (w : ℕ) → is_sound w ≡ true → IsSound w
sound_word w is =
    let both = and_parts (base_of w + length_of w == top_of w) (nat_le (top_of w) (2 ^ 64)) is in
    (eqb-true (base_of w + length_of w) (top_of w) both.0, leb-true (top_of w) (2 ^ 64) both.1)

-- what the checks of an allowed root say
pub record IsFree (run : Run) (place : RunPlace) (word : Word) : Type 0 where
  pub first : nat_lt 0 run.steps ≡ false
  pub untaken : (run.state (place_key place)).tag ≡ false
  pub sound : IsSound word.0

pub root_free : (run : Run) (place : RunPlace) (word : Word) → root_end run place word ≡ None → IsFree run place word
root_free run place word free =
    let limit = nat_le run.limits.roots run.roots || passes_granule_limit (account_in run) (granule_in place) in
    let none = none_hold (
    (nat_lt 0 run.steps, Usual Misplaced) ∷ ((run.state (place_key place)).tag, Usual PlaceTaken) ∷ (not (is_sound word.0), Usual UnsoundRoot)
    ∷ (limit, Usual LimitPassed) ∷ []
    ) free in
    record { first = none.0; untaken = none.1.0; sound = sound_word word.0 (not-false (is_sound word.0) none.1.1.0) }

-- what is derived stays within its source
derived : (source : Cap) (word : Word) (opens : Bool) → first_of (derive_checks source word.0 opens) ≡ None
    → StaysWithin (record { tag = true; word = word }) source
derived source word opens free =
    let none = none_hold (derive_checks source word.0 opens) free in
    derived_within source word (not-false source.tag none.0) (sound_word word.0 (not-false (is_sound word.0) none.1.0))
    (not-false (reaches_no_more word.0 source.word.0) none.1.1.0)

register_derived : (target : RunRegister) (source : Cap) (tag : Bool) (word : Word)
    → derived_refusal target source (record { tag = tag; word = word }) ≡ None
    → tag ≡ true → StaysWithin (record { tag = true; word = word }) source
register_derived target source false word free held = absurd (false≢true held)
register_derived target source true word free held = derived source word (is_pcc target) (mapped_none _ _ free)

-- the two words of an invoked pair stay within those of the pair
invoked : (code datum : Cap) (code_word datum_word : Word) → invoked_refusal code datum code_word datum_word ≡ None
    → StaysWithin (tagged code_word) code × StaysWithin (tagged datum_word) datum
invoked code datum code_word datum_word free =
    let none = none_hold (invoke_checks code datum code_word.0 datum_word.0) (mapped_none _ _ free) in
    let held = and_parts code.tag datum.tag (not-false _ none.0) in
    let words = and_parts (is_opened code.word.0 code_word.0) (datum_word.0 == with_type datum.word.0 unsealed_type)
    (not-false (is_invoked code.word.0 datum.word.0 code_word.0 datum_word.0) none.1.1.0) in
    (code_within code code_word held.0 words.0, data_within datum datum_word held.1 words.1)

unhit : (target key : ℕ) → target < first_special → first_special ≤ key → (target == key) ≡ false
unhit target key low far = ne_eqb target key (λ same. omega (arith, same, low, far))

unhit_granule : (address key : ℕ) → address < 2 ^ 64 → first_special ≤ key → (granule_key (address / 16) == key) ≡ false
unhit_granule address key low far = unhit (granule_key (address / 16)) key (omega (arith, low)) far

reached_low : (w : ℕ) (offset : ℤ) → access_address w offset < 2 ^ 64
unfolding access_address
reached_low w offset = omega arith

-- a step of version 2 writes no special register
pub hits_no_special : (state : State) (step : Step) (key : ℕ) → IsStepInRange step → first_special ≤ key → hits (row_of state step).writes key ≡ false
hits_no_special state (StoreCap step) key range far =
    unhit_granule (access_address (state step.authority).word.0 step.offset) key (reached_low (state step.authority).word.0 step.offset) far
hits_no_special state (Load step) key range far = refl
hits_no_special state (Store step) key range far =
    unhit_granule (access_address (state step.authority).word.0 step.offset) key (reached_low (state step.authority).word.0 step.offset) far
hits_no_special state step key range far = unhit _ key (omega (arith, range.0)) far

-- what registers and granules hold
pub main-tagged : (state : State) (key : ℕ) → (main_of state key).tag ≡ true → (key < first_special) × (main_of state key ≡ state key)
main-tagged state key held = elim (cases_lt key first_special) [
  | inl near ↦ (near, cond-true (nat_lt key first_special) (state key) untagged_null (lt-ltb key first_special near))
  | inr far ↦ absurd (
      false≢true (ap (λ (cap : Cap). cap.tag) (sym (cond-false (nat_lt key first_special) (state key) untagged_null (le-ltb key first_special far))) ∙ held)
      )
]

main-sound : (state : State) → IsSoundState state → IsSoundState (main_of state)
main-sound state sound key held =
    let is = (main-tagged state key held).1 in
    subst (λ (cap : Cap). IsSound cap.word.0) (sym is) (sound key (ap (λ (cap : Cap). cap.tag) (sym is) ∙ held))

-- the checks of a row, each with its refusal as one of a run
usual_checks : (checks : List (Bool × Refusal))
    → first_of (map (λ (check : Bool × Refusal). (check.0, Usual check.1)) checks) ≡ None → first_of checks ≡ None
usual_checks [] free = refl
usual_checks ((true, refusal) ∷ checks) free = absurd (none-some (Usual refusal) (sym free))
usual_checks ((false, refusal) ∷ checks) free = usual_checks checks free

-- no check of an allowed step of version 2 fails, and it leads on
pub usual_leads : (asks : Asks) (run : Run) (step : Step) → usual_end asks run step ≡ None
    → Leads run.rules (main_of run.state) step (state_with (main_of run.state) (row_in (account_in run) step).writes)
usual_leads asks run step free =
    let row = row_in (account_in run) step in
    let ending : List (Bool × RunRefusal) =
    (not (agrees row.writes row.records), Usual WrongResult) ∷ (passes_limit run (named_by row), Usual LimitPassed) ∷ [] in
    let own_checks = map (λ (check : Bool × Refusal). (check.0, Usual check.1)) row.checks in
    let rest = first_of-append_free (own_checks ++ asked_checks asks run row.access) ending free in
    let own = first_of-append_free own_checks (asked_checks asks run row.access) rest.0 in
    record {
      allowed = usual_checks row.checks own.0;
      recorded = not-false (agrees row.writes row.records) (none_hold ending rest.1).0;
      after = refl;
    }

usual_near : (asks : Asks) (run : Run) (step : Step) (key : ℕ) → IsStepInRange step → IsSoundState run.state → usual_end asks run step ≡ None
    → key < first_special
    → Comes run.state (state_with (main_of run.state) (row_in (account_in run) step).writes key) (line_parent run (lines.Step step) key)
usual_near asks run step key range sound free near held =
    let old = main_of run.state in
    let new = state_with old (row_in (account_in run) step).writes in
    let low = lt-ltb key first_special near in
    let back = one_back run.rules old step new key range (main-sound run.state sound) (usual_leads asks run step free) held in
    let is = (main-tagged run.state back.0 back.1.tag).1 in
    let same : main_of (usual_after run step).state key ≡ new key =
    cond-true (nat_lt key first_special) _ untagged_null low ∙ cond-true (nat_lt key first_special) (new key) (run.state key) low in (
      back.0,
      record {
        by = ap (λ (cap : Cap). parent_in (hits (row_of old step).writes key) cap.tag (row_of old step).parent key) same ∙ back.1.parent;
        tag = ap (λ (cap : Cap). cap.tag) (sym is) ∙ back.1.tag;
        no_more = subst (λ (cap : Cap). ReachesNoMore (new key).word.0 cap.word.0) is back.1.no_more;
        sound = back.1.sound;
      },
    )

usual_comes : (asks : Asks) (run : Run) (step : Step) (key : ℕ) → IsStepInRange step → IsSoundState run.state → usual_end asks run step ≡ None
    → Comes run.state ((usual_after run step).state key) (line_parent run (lines.Step step) key)
usual_comes asks run step key range sound free =
    let old = main_of run.state in
    let new = state_with old (row_in (account_in run) step).writes in
    let parent = line_parent run (lines.Step step) key in
    elim (cases_lt key first_special) [
      | inl near ↦
          subst (λ (cap : Cap). Comes run.state cap parent)
          (sym (cond-true (nat_lt key first_special) (new key) (run.state key) (lt-ltb key first_special near)))
          (usual_near asks run step key range sound free near)
      | inr far ↦
          let own : parent ≡ Some key =
          ap (λ (hit : Bool). parent_in hit (main_of (usual_after run step).state key).tag (row_of old step).parent key)
          (hits_no_special old step key range far) in
          subst (λ (cap : Cap). Comes run.state cap parent)
          (sym (cond-false (nat_lt key first_special) (new key) (run.state key) (le-ltb key first_special far)))
          (subst (λ (p : Option ℕ). Comes run.state (run.state key) p) (sym own) (comes_here run.state key sound))
    ]

-- freeing changes no place
pub freed-state : (run : Run) (number : Option ℕ) → (with_freed run number).state ≡ run.state
freed-state run None = refl
freed-state run (Some number) = refl

run_comes : (asks : Asks) (run : Run) (step : RunStep) (key : ℕ) → IsRunStepInRange step → IsSoundState run.state → run_end asks run step ≡ None
    → Comes run.state ((run_after run step).state key) (line_parent run (lines.Run step) key)
run_comes asks run (steps.Derive step) key range sound free =
    let from = register_key step.source in
    let result = step.result in
    let may = later_none (derived_refusal step.target (run.state from) result) _ free in
    comes_if run.state (register_key step.target == key) result (run.state key) (source_if result.tag from) (Some key)
    (comes_within run.state result.tag result.word from sound (register_derived step.target (run.state from) result.tag result.word may.0))
    (comes_here run.state key sound)
run_comes asks run (steps.Exchange step) key range sound free =
    let at = register_key (Special step.special) in
    let result = step.result in
    let special_result = step.special_result in
    let may = later_none (derived_refusal (General step.target) (run.state at) result) _ free in
    let may_special = later_none (derived_refusal (Special step.special) (run.state step.source) special_result) _ may.1 in
    comes_two run.state (step.target == key) (at == key) result special_result (run.state key) (source_if result.tag at)
    (source_if special_result.tag step.source) (Some key)
    (λ here there.
    let here_is = eqb-true step.target key here in
    let there_is = eqb-true at key there in
    omega (arith, here_is, there_is, range.0))
    (comes_within run.state result.tag result.word at sound (register_derived (General step.target) (run.state at) result.tag result.word may.0))
    (comes_within run.state special_result.tag special_result.word step.source sound
    (register_derived (Special step.special) (run.state step.source) special_result.tag special_result.word may_special.0))
    (comes_here run.state key sound)
run_comes asks run (steps.Invoke step) key range sound free =
    let may = later_none (invoked_refusal (run.state step.code) (run.state step.datum) step.code_word step.datum_word) _ free in
    let within = invoked (run.state step.code) (run.state step.datum) step.code_word step.datum_word may.0 in
    comes_two run.state (first_special == key) (31 == key) (tagged step.code_word) (tagged step.datum_word) (run.state key) (Some step.code)
    (Some step.datum) (Some key)
    (λ here there.
    let here_is = eqb-true first_special key here in
    let there_is = eqb-true 31 key there in
    omega (arith, here_is, there_is))
    (comes_within run.state true step.code_word step.code sound (λ _. within.0))
    (comes_within run.state true step.datum_word step.datum sound (λ _. within.1))
    (comes_here run.state key sound)
run_comes asks run (steps.Drop place) key range sound free =
    let to = place_key place in
    comes_if run.state (to == key) (untagged (run.state to)) (run.state key) None (Some key)
    (comes_untagged run.state (untagged (run.state to)) None refl) (comes_here run.state key sound)
run_comes asks run (steps.Fill granule word) key range sound free =
    let cap : Cap = record { tag = false; word = word } in
    comes_if run.state (granule_key granule == key) cap (run.state key) None (Some key) (comes_untagged run.state cap None refl)
    (comes_here run.state key sound)
run_comes asks run (steps.Object register) key range sound free = comes_here run.state key sound
run_comes asks run (steps.Widen register number) key range sound free = comes_here run.state key sound
run_comes asks run (steps.FreeOwner register) key range sound free =
    subst (λ (state : State). Comes run.state (state key) (Some key)) (sym (freed-state run (run.owners register))) (comes_here run.state key sound)
run_comes asks run (steps.FreeNumber number) key range sound free = comes_here run.state key sound

-- what comes from a place
came : (run : Run) (line : RunLine) (key : ℕ) → IsTrue ((line_after run line).state key).tag
    → Comes run.state ((line_after run line).state key) (line_parent run line key)
    → DeclaresAt run line key ⊎ ((from : ℕ) × LineComesFrom run line key from)
came run line key held comes =
    let from = comes held in
    inr (from.0, record { parent = from.1.by; tag = from.1.tag; no_more = from.1.no_more; sound = from.1.sound })

-- after a root, its place holds it and each other one what it held
rooted : (asks : Asks) (run : Run) (place : RunPlace) (word : Word) (key : ℕ) → IsSoundState run.state → root_end run place word ≡ None
    → IsTrue ((line_after run (lines.Root place word)).state key).tag
    → DeclaresAt run (lines.Root place word) key ⊎ ((from : ℕ) × LineComesFrom run (lines.Root place word) key from)
rooted asks run place word key sound free held =
    let to = place_key place in
    elim (eqb_tells to key) [
      | inl same ↦ inl (record {
        place = place;
        word = word;
        line_is = refl;
        there = sym same.1;
        holds = cond-true (to == key) (tagged word) (run.state key) same.0;
        sound = (root_free run place word free).sound;
      })
      | inr unlike ↦
          came run (lines.Root place word) key held (
          subst (λ (cap : Cap). Comes run.state cap (Some key)) (sym (cond-false (to == key) (tagged word) (run.state key) unlike.0))
          (comes_here run.state key sound))
    ]

pub stays_within : (asks : Asks) (run : Run) (line : RunLine) → IsRunLineInRange line → IsSoundState run.state → IsLineAllowed asks run line
    → LineStaysWithin run line
stays_within asks run lines.Version range sound allowed key held = came run lines.Version key held (comes_here run.state key sound)
stays_within asks run (lines.Mode mode) range sound allowed key held = came run (lines.Mode mode) key held (comes_here run.state key sound)
stays_within asks run (lines.Plain version) range sound allowed key held = came run (lines.Plain version) key held (comes_here run.state key sound)
stays_within asks run (lines.Root place word) range sound allowed key held = rooted asks run place word key sound allowed held
stays_within asks run (lines.Hart hart) range sound allowed key held =
    came run (lines.Hart hart) key held (comes_here run.state (came_from run.harts.current hart key) sound)
stays_within asks run (lines.Step step) range sound allowed key held =
    came run (lines.Step step) key held (usual_comes asks run step key range sound allowed)
stays_within asks run (lines.Run step) range sound allowed key held =
    came run (lines.Run step) key held (run_comes asks run step key range sound allowed)
stays_within asks run (lines.End count) range sound allowed key held = came run (lines.End count) key held (comes_here run.state key sound)
