-- A machine after a step was made, or refused.
use Rattle.std.specs.FinMap as fin
use Rattle.std.proofs.Common.{◌≡◌, ℕ, ◌+◌, ◌/◌, ◌%◌, ◌^◌, ◌<◌, ◌≤◌, Bool, true, false, not, ◌||◌, ◌++◌, nat_le, List}
use Rattle.std.proofs.Common.{[], ◌∷◌, length, take, drop, get_or, refl, sym, ap, subst, ◌∙◌, arith, lit<, inl, inr}
use Rattle.std.proofs.Common.{nat_lt, ◌-◌, Some, None, Option, option_map, Result, Ok, Err, All, if◌then◌else◌, set}
use Rattle.std.proofs.{Common.{le-ltb, eq-eqb, option_and_then}, Math.Bool.or-false, lemmas.Bool.{false≢true, cases_lt}}
use Rattle.std.proofs.lemmas.{Bool.lt-leb, List.{get_or_past, Elements.All-get_or}, Option.{none-some, same_Some}}
use Rattle.cap_word.specs.{declared.word.Cap.Cap, Memory.{low_bytes, memory_of, number_of, stored_word}}
use Rattle.cap_word.proofs.Bytes.{stored_word-memory_of, memory_of-stored_word}
use Rattle.cap_ops.specs.declared.{faults.OpFault.OpFault, refusal.Refusal.{Refusal, TheVariants.WrongResult}}
use Rattle.cap_ops.specs.{declared.refusal.Refusal.TheVariants.LimitPassed, Checks.first_of, Refusals.refusal_of}
use Rattle.cap_ops.proofs.TestLemmas.{first_of-append_free, first_of-append_none, first_of-append_some}
use Rattle.cap_log.specs.declared.kinds.{Step.Step, shapes.{Data.Data, StoreCap.StoreCap}}
use Rattle.cap_log.specs.{declared.lines.Place.{Place, TheVariants.{Register, Granule}}, Lines.IsStepInRange}
use Rattle.tagmem.specs.Granules.{Entry, AreStored, bytes_at, overwritten}
use Rattle.tagmem.proofs.Granules.{length-bytes_at, bytes_at_fit}
use Rattle.cap_machine.specs.declared.{ends.StepEnd.{StepEnd, TheVariants.{Refused, NoMemory}}, rules.Rules.Rules}
use Rattle.cap_machine.specs.{declared.instructions.OperationParts.OperationParts, Helds.EndsBy}
use Rattle.cap_machine.specs.declared.rules.Rules.TheVariants.{One, TwoStrict, TwoClear}
use Rattle.cap_machine.specs.Accounts.{Account, step_checks, with_step, named_by, row_in, naming, is_new}
use Rattle.cap_machine.specs.{Accounts.{passes_granule_limit, most_steps}, Changes.{AnswersPut, Derives, EndsPut, IsOperation}}
use Rattle.cap_machine.specs.Changes.{IsParentsCode, WritesRegister, code_for, is_same_cap, last_checks, rules_for}
use Rattle.cap_machine.specs.Changes.{number_at, result_in, with_register, with_cap_put, with_value_put}
use Rattle.cap_machine.specs.Helds.{Held, AnswersStep, Makes, EndsStep, state_of, code_in, account_of, checks_by}
use Rattle.cap_machine.specs.{Helds.{value_by, granule_cap}, Origins.origins_after, Parents.{IsSoundCap, IsSoundState}}
use Rattle.cap_machine.specs.{Places.{AreCoded, IsCoded, place_at}, States.{State, untagged_null, granule_key, key_of}}
use Rattle.cap_machine.specs.{States.{put, value_at}, Steps.{Access, Nothing, Recorded, Row, Written, row_of, row_by}}
use Rattle.cap_machine.specs.Steps.{state_with, address_through, with_value}
use Rattle.cap_machine.proofs.CodeLemmas.{IsFrom, account-granule, account-register, code-register, code_for-coded}
use Rattle.cap_machine.proofs.{CodeLemmas.{origins_by, origin-written}, GranuleLemmas.cap_of, SoundLemmas.equal_caps}
use Rattle.cap_machine.proofs.StepLemmas.{is_recorded, WritesWithin, row_by-access, writes_within_by}

-- the row of an access
same_row : (old : Held) (step : Step) (access : Access) → (row_of (state_of old) step).access ≡ Some access
    → row_in (account_of old) step ≡ row_of (state_of old) step
same_row old step access is = row_by-access old.rules (row_of (state_of old) step) access is

-- the last two tests
abbrev pub ending : Bool → Bool → List (Bool × Refusal)
ending recorded limit = (not recorded, WrongResult) ∷ (limit, LimitPassed) ∷ []

recorded_so : (recorded limit : Bool) → first_of (ending recorded limit) ≡ None → recorded ≡ true
recorded_so true limit h = refl
recorded_so false limit h = absurd (none-some WrongResult (sym h))

-- those of a step that names no granule
unnamed : (old : Held) (recorded : Bool)
    → first_of (ending recorded (nat_le most_steps old.steps || false)) ≡ first_of (last_checks old recorded)
unnamed old recorded = ap (λ (b : Bool). first_of (ending recorded b)) (or-false (nat_le most_steps old.steps))

-- the last two tests of a step, by its row
abbrev ending_of : Held → Row → List (Bool × Refusal)
ending_of old row = ending (is_recorded row) (nat_le most_steps old.steps || passes_granule_limit (account_of old) (named_by row))

-- all its tests, where none of its operation or access holds
checks_free : (old : Held) (step : Step) (row : Row) → row_in (account_of old) step ≡ row → first_of row.checks ≡ None
    → first_of (step_checks (account_of old) step) ≡ first_of (ending_of old row)
checks_free old step row is free =
    ap (λ (r : Row). first_of (r.checks ++ ending_of old r)) is ∙ first_of-append_none row.checks (ending_of old row) free

-- the account after it, by its row
abbrev account_by : Held → Step → Row → Account
account_by old step row =
    let named = naming (account_of old) (named_by row) in
    let next = state_with (state_of old) row.writes in
    record named { state = next; origin = origins_after (origins_by (code_in old)) (state_of old) step next; steps = old.steps + 1 }

-- a step is made where none of its tests holds and the account is that after it: so it leads to the new state
makes : (old new : Held) (step : Step) (row : Row) → row_in (account_of old) step ≡ row → first_of row.checks ≡ None
    → first_of (ending_of old row) ≡ None → account_of new ≡ account_by old step row → new.least_room ≡ old.least_room
    → Makes old step new
makes old new step row is free last account same_room_is =
    let checks = checks_free old step row is free ∙ last in
    let after : account_of new ≡ with_step (account_of old) step = account ∙ sym (ap (account_by old step) is) in
    let each = first_of-append_free (row_in (account_of old) step).checks _ checks in
    record {
      checks = checks;
      leads = record { allowed = each.0; recorded = recorded_so _ _ each.1; after = ap (λ (a : Account). a.state) after };
      account = after;
      same_room = same_room_is;
    }

-- a step is refused for one of its last tests
refused : (old : Held) (step : Step) (row : Row) (refusal : Refusal) → row_in (account_of old) step ≡ row → first_of row.checks ≡ None
    → first_of (ending_of old row) ≡ Some refusal → EndsStep old step (Refused refusal) old
refused old step row refusal is free found = (checks_free old step row is free ∙ found, refl)

-- or by its operation or access
refused_first : (old : Held) (step : Step) (row : Row) (fault : OpFault) → row_in (account_of old) step ≡ row
    → first_of row.checks ≡ Some (refusal_of fault) → EndsStep old step (Refused (refusal_of fault)) old
refused_first old step row fault is found =
    (ap (λ (r : Row). first_of (r.checks ++ ending_of old r)) is ∙ first_of-append_some row.checks _ (refusal_of fault) found, refl)

-- a row that writes a place
abbrev written : List (Bool × Refusal) → Place → Cap → Option Place → Recorded → Option Access → Row
written checks_are place value parent_is recorded access_is =
    record { checks = checks_are; writes = Some (place, value); parent = parent_is; records = recorded; access = access_is }

-- it, by the rules
pub row_by-written : (rules : Rules) (checks : List (Bool × Refusal)) (place : Place) (value : Cap) (parent : Option Place)
    (recorded : Recorded) (access : Option Access)
    → row_by rules (written checks place value parent recorded access)
    ≡ written (checks_by (rules_for rules access) checks) place (value_by (rules_for rules access) checks value) parent recorded access
row_by-written One checks place value parent recorded None = refl
row_by-written TwoStrict checks place value parent recorded None = refl
row_by-written TwoClear checks place value parent recorded None = refl
row_by-written One checks place value parent recorded (Some access) = refl
row_by-written TwoStrict checks place value parent recorded (Some access) = refl
row_by-written TwoClear checks place value parent recorded (Some access) = refl

-- a row of a step that writes this to a register, by the rules
abbrev row_for : Held → Step → ℕ → Cap → Cap → Row
row_for old step target recorded value =
    let row = row_of (state_of old) step in
    written (checks_by (rules_for old.rules row.access) row.checks) (Register target) value row.parent (Written recorded) row.access

written_row : (old : Held) (step : Step) (target : ℕ) (recorded : Cap) → WritesRegister (state_of old) step target recorded
    → let row = row_of (state_of old) step in
    row_in (account_of old) step
    ≡ row_for old step target recorded (value_by (rules_for old.rules row.access) row.checks (result_in row.writes))
written_row old step target recorded is =
    let row = row_of (state_of old) step in
    ap (λ (w : Option (Place × Cap)). row_by old.rules (record row { writes = w })) is.0
    ∙ ap (λ (r : Recorded). row_by old.rules (written row.checks (Register target) (result_in row.writes) row.parent r row.access)) is.1
    ∙ row_by-written old.rules row.checks (Register target) (result_in row.writes) row.parent (Written recorded) row.access

-- what is written is sound, and so is its code
pub result_sound : (state : State) (parent : Option Place) (place : Place) (cap : Cap) → IsSoundState state
    → WritesWithin state parent (Some (place, cap)) → IsSoundCap cap
result_sound state None place cap all within held = absurd (within held)
result_sound state (Some from) place cap all within held = within.sound held (all (key_of from) (within.from_tagged held))

coded_so : (tag : Bool) (code : ℕ) → (tag ≡ true → IsCoded true code) → IsCoded tag (code_for tag code)
coded_so true code coded = coded refl
coded_so false code coded = ((λ _. refl, λ _. refl), lit< tt)

pub result_coded : (state : State) (codes : ℕ → ℕ) (parent : Option Place) (place : Place) (cap : Cap) (code : ℕ) → AreCoded state codes
    → WritesWithin state parent (Some (place, cap)) → (cap.tag ≡ true → option_map (λ from. codes (key_of from)) parent ≡ Some code)
    → IsCoded cap.tag (code_for cap.tag code)
result_coded state codes None place cap code all within same = coded_so cap.tag code (λ held. absurd (within held))
result_coded state codes (Some from) place cap code all within same = coded_so cap.tag code (λ held.
    subst (λ (b : Bool). IsCoded b code) (within.from_tagged held)
    (subst (IsCoded (state (key_of from)).tag) (same_Some (codes (key_of from)) code (same held)) (all (key_of from))))

origin_by_code : (codes : ℕ → ℕ) (parent : Option Place) (code : ℕ) → option_map (λ from. codes (key_of from)) parent ≡ Some code
    → option_and_then (origins_by codes) (option_map key_of parent) ≡ place_at code
origin_by_code codes None code same = absurd (none-some code same)
origin_by_code codes (Some from) code same = ap place_at (same_Some (codes (key_of from)) code same)

-- a step that writes a register, where its operation or access gives this
module _ (old : Held) (step : Step) (target : ℕ) (recorded derived : Cap) (writes : WritesRegister (state_of old) step target recorded)
    (derives : Derives old step (Ok derived)) where
  row_is : row_in (account_of old) step ≡ row_for old step target recorded derived
  row_is = written_row old step target recorded writes ∙ ap (row_for old step target recorded) (sym derives.1)

  pub concluded_within : IsStepInRange step → WritesWithin (state_of old) (row_of (state_of old) step).parent (Some (Register target, derived))
  concluded_within range =
      subst (λ (row : Row). first_of row.checks ≡ None → WritesWithin (state_of old) (row_of (state_of old) step).parent row.writes)
      row_is (writes_within_by old.rules (state_of old) step range) derives.0

  -- it is refused: its line records another result, or the limit on steps is passed
  concluded_refused : (refusal : Refusal) → first_of (last_checks old (is_same_cap recorded derived)) ≡ Some refusal
      → EndsStep old step (Refused refusal) old
  concluded_refused refusal found =
      refused old step _ refusal row_is derives.0 (unnamed old (is_same_cap recorded derived) ∙ found)

  pub concluded_unlike : not (is_same_cap recorded derived) ≡ true → EndsStep old step (Refused WrongResult) old
  concluded_unlike unlike =
      concluded_refused WrongResult (ap (λ (b : Bool). first_of ((b, WrongResult) ∷ (nat_le most_steps old.steps, LimitPassed) ∷ [])) unlike)

  like_so : not (is_same_cap recorded derived) ≡ false → (past : Bool) → nat_le most_steps old.steps ≡ past
      → first_of (last_checks old (is_same_cap recorded derived)) ≡ (if past then Some LimitPassed else None)
  like_so like past is =
      ap (λ (b : Bool). first_of ((b, WrongResult) ∷ (nat_le most_steps old.steps, LimitPassed) ∷ [])) like
      ∙ ap (λ (b : Bool). first_of (ending true b)) is

  pub concluded_past : not (is_same_cap recorded derived) ≡ false → nat_le most_steps old.steps ≡ true
      → EndsStep old step (Refused LimitPassed) old
  concluded_past like past = concluded_refused LimitPassed (like_so like true past)

  -- it is made
  pub concluded_made : (code stored : ℕ) → length old.registers ≡ 32 → length old.codes ≡ 32 → target ≤ 31
      → IsParentsCode old step derived code → stored ≡ code_for derived.tag code → not (is_same_cap recorded derived) ≡ false
      → old.steps < most_steps
      → Makes old step (record old {
        registers = set old.registers target recorded;
        codes = set old.codes target stored;
        steps = old.steps + 1;
      })
  concluded_made code stored sized coded_so low parents stored_is like few =
      rw (stored_is, equal_caps recorded derived like) (makes old (with_register old target derived code) step _ row_is derives.0
      (unnamed old (is_same_cap recorded derived) ∙ like_so like false (lt-leb most_steps old.steps few))
      (ap (λ (a : Account). record a { steps = a.steps + 1 }) (account-register old target derived (code_for derived.tag code) _
      sized coded_so low (origin-written old step (Register target) derived code (ap (λ (r : Row). r.writes) row_is)
      (λ held. origin_by_code (code_in old) (row_of (state_of old) step).parent code (parents held))))) refl)

-- an operation
module _ (old : Held) (step : Step) (parts : OperationParts) (row : IsOperation (row_of (state_of old) step) parts) where
  operation_writes : WritesRegister (state_of old) step parts.target parts.recorded
  operation_writes = (ap (λ (r : Row). r.writes) row, ap (λ (r : Row). r.records) row)

  -- it refuses the step
  pub operation_faulted : (fault : OpFault) → let here = row_of (state_of old) step in
      EndsBy old.rules here.checks (result_in here.writes) (Err fault) → EndsStep old step (Refused (refusal_of fault)) old
  operation_faulted fault ends =
      let here = row_of (state_of old) step in
      refused_first old step _ fault (written_row old step parts.target parts.recorded operation_writes)
      (subst (λ (access : Option Access). EndsBy (rules_for old.rules access) here.checks (result_in here.writes) (Err fault))
      (sym (ap (λ (r : Row). r.access) row)) ends)

  -- a result is tagged only if its source is
  pub operation_keeps : (given : Cap) → IsStepInRange step → Derives old step (Ok given) → given.tag ≡ true
      → (state_of old parts.source).tag ≡ true
  operation_keeps given range derives held =
      let within = subst (λ (parent : Option Place). WritesWithin (state_of old) parent (Some (Register parts.target, given)))
      (ap (λ (r : Row). r.parent) row) (concluded_within old step parts.target parts.recorded given operation_writes derives range) in
      within.from_tagged held

-- a step that puts an entry into a granule
module _ (old new : Held) (step : Step) (granule : ℕ) (checks : List (Bool × Refusal)) (value : Cap) (parent : Option Place)
    (access : Option Access) (is : row_in (account_of old) step ≡ written checks (Granule granule) value parent Nothing access)
    (free : first_of checks ≡ None) where
  put_ended : (end : StepEnd) → EndsPut old granule end new → EndsStep old step end new
  put_ended (Refused refusal) end =
      (checks_free old step _ is free ∙ ap (λ (b : Bool). first_of (ending true b)) end.0 ∙ ap (λ (r : Refusal). Some r) (sym end.1), end.2)
  put_ended NoMemory end = (
    checks_free old step _ is free ∙ ap (λ (b : Bool). first_of (ending true b)) end.0,
    ap (λ (r : Row). is_new (account_of old) (named_by r)) is ∙ end.1,
    end.2,
    end.3,
  )

  put_finished : (entry : Entry) (code : ℕ) (result : Result (Unit {0}) StepEnd) → cap_of entry ≡ value → entry.2 ≡ code_for value.tag code
      → IsFrom old step value code
      → AnswersPut old granule (record old { memory = fin.insert old.memory granule entry; steps = old.steps + 1 }) result new
      → AnswersStep old step result new
  put_finished entry code (Ok done) holds code_is from put_is =
      subst (λ (h : Held). Makes old step h) (sym put_is.1) (makes old _ step _ is free
      (ap (λ (b : Bool). first_of (ending true b)) put_is.0)
      (ap (λ (a : Account). record a { steps = a.steps + 1 }) (account-granule old granule entry value _ holds
      (ap (λ (n : ℕ). put (origins_by (code_in old)) (granule_key granule) (place_at n)) code_is
      ∙ origin-written old step (Granule granule) value code (ap (λ (r : Row). r.writes) is) from))) refl)
  put_finished entry code (Err end) holds code_is from put_is = put_ended end put_is

-- a stored capability
pub stored : (old new : Held) (store : StoreCap) (result : Result (Unit {0}) StepEnd)
    → (state_of old store.source).word.0 < 2 ^ 128
    → store.source ≤ 31 → IsCoded (state_of old store.source).tag (code_in old store.source)
    → first_of (row_of (state_of old) (Step.StoreCap store)).checks ≡ None
    → AnswersPut old (address_through (state_of old) store.authority store.offset / 16)
    (with_cap_put old (address_through (state_of old) store.authority store.offset / 16) (state_of old store.source) (get_or old.codes store.source 0)) result new
    → AnswersStep old (Step.StoreCap store) result new
stored old new store result fits low coded free put_is =
    let step = Step.StoreCap store in
    let cap_is = state_of old store.source in
    let code = get_or old.codes store.source 0 in
    let same = code-register old store.source low in
    put_finished old new step (address_through (state_of old) store.authority store.offset / 16) _ cap_is _ _
    (same_row old step _ refl) free (cap_is.tag, memory_of cap_is.word.0, code) code result
    (ap (λ (n : ℕ). let c : Cap = record { tag = cap_is.tag; word = record { 0 = n } } in c) (stored_word-memory_of cap_is.word.0 fits))
    (sym (code_for-coded cap_is.tag code (subst (IsCoded cap_is.tag) same coded))) (λ held. ap place_at same) put_is

byte_small : (bytes : List ℕ) (i : ℕ) → All (λ byte. byte < 256) bytes → get_or bytes i 0 < 256
byte_small bytes i small =
    elim (cases_lt i (length bytes)) [
      | inl below ↦ All-get_or (λ byte. byte < 256) bytes i 0 below small
      | inr past ↦ rw (get_or_past bytes i 0 past) (lit< tt)
    ]

-- the bytes of a granule's capability are the granule's
pub granule_bytes : (held : Held) (granule : ℕ) → AreStored held.memory
    → memory_of (state_of held (granule_key granule)).word.0 ≡ bytes_at held.memory granule
granule_bytes held granule stored_all =
    let bytes = bytes_at held.memory granule in
    let sixteen = length-bytes_at held.memory stored_all granule in
    let same : granule_key granule - 32 ≡ granule = omega arith in
    let past : nat_lt (granule_key granule) 32 ≡ false = le-ltb (granule_key granule) 32 (omega arith) in
    ap (λ (b : Bool). memory_of (let c : Cap = if b then get_or held.registers (granule_key granule)
    untagged_null else granule_cap held.memory (granule_key granule - 32) in c).word.0) past
    ∙ ap (λ (g : ℕ). memory_of (stored_word (bytes_at held.memory g))) same
    ∙ memory_of-stored_word bytes sixteen (λ i. byte_small bytes i (bytes_at_fit held.memory stored_all granule))

-- a stored value
pub stored_value : (old new : Held) (store : Data 0) (result : Result (Unit {0}) StepEnd)
    → AreStored old.memory
    → first_of (row_of (state_of old) (Step.Store store)).checks ≡ None
    → AnswersPut old (address_through (state_of old) store.authority store.offset / 16)
    (with_value_put old (address_through (state_of old) store.authority store.offset / 16)
    (address_through (state_of old) store.authority store.offset % 16) store.datum.size store.datum.value) result new
    → AnswersStep old (Step.Store store) result new
stored_value old new store result stored_all free put_is =
    let step = Step.Store store in
    let a = address_through (state_of old) store.authority store.offset in
    let g = a / 16 in
    let given = low_bytes store.datum.size store.datum.value in
    put_finished old new step g _ (with_value (state_of old (granule_key g)) (a % 16) store.datum.size store.datum.value) _ _
    (same_row old step _ refl) free (false, overwritten (bytes_at old.memory g) (a % 16) given, 0) 0 result
    (ap (λ (bytes : List ℕ). let c : Cap = record { tag = false; word = record { 0 = stored_word (overwritten bytes (a % 16) given) } } in c)
    (sym (granule_bytes old g stored_all)))
    refl (λ held. absurd (false≢true held)) put_is

-- the value that a load reads is the number of the granule's bytes
pub value_in : (held : Held) (address size : ℕ) → AreStored held.memory
    → value_at (state_of held) address size ≡ number_at (bytes_at held.memory (address / 16)) (address % 16) size
value_in held address size stored_all =
    ap (λ (bytes : List ℕ). number_of (take size (drop (address % 16) bytes))) (granule_bytes held (address / 16) stored_all)

-- the number that is read at the address of a load is the value there
pub value_read : (held : Held) (load : Data 1) (address read : ℕ)
    → address ≡ address_through (state_of held) load.authority load.offset
    → read ≡ value_at (state_of held) address load.datum.size
    → read ≡ value_at (state_of held) (address_through (state_of held) load.authority load.offset) load.datum.size
value_read held load address read at is = is ∙ ap (λ (a : ℕ). value_at (state_of held) a load.datum.size) at

-- a load is made
pub loaded_value : (old : Held) (load : Data 1)
    → first_of (row_of (state_of old) (Step.Load load)).checks ≡ None
    → load.datum.value ≡ value_at (state_of old) (address_through (state_of old) load.authority load.offset) load.datum.size → old.steps < most_steps
    → Makes old (Step.Load load) (record old { steps = old.steps + 1 })
loaded_value old load free same few =
    let step = Step.Load load in
    makes old (record old { steps = old.steps + 1 }) step _ (same_row old step _ refl) free
    (unnamed old _ ∙ ap (λ (b : Bool). first_of (last_checks old b)) (eq-eqb load.datum.value _ same)
    ∙ ap (λ (b : Bool). first_of (ending true b)) (lt-leb most_steps old.steps few)) refl refl

-- a load is refused
pub load_refused : (old : Held) (load : Data 1) (recorded : Bool) (refusal : Refusal)
    → first_of (row_of (state_of old) (Step.Load load)).checks ≡ None
    → is_recorded (row_of (state_of old) (Step.Load load)) ≡ recorded
    → first_of (last_checks old recorded) ≡ Some refusal
    → EndsStep old (Step.Load load) (Refused refusal) old
load_refused old load recorded refusal free same found =
    let step = Step.Load load in
    refused old step _ refusal (same_row old step _ refl) free
    (unnamed old _ ∙ ap (λ (b : Bool). first_of (last_checks old b)) same ∙ found)

-- an access that is refused
pub faulted_as : (old : Held) (step : Step) (access : Access) (fault : OpFault)
    → (row_of (state_of old) step).access ≡ Some access
    → first_of (row_of (state_of old) step).checks ≡ Some (refusal_of fault) → EndsStep old step (Refused (refusal_of fault)) old
faulted_as old step access fault accesses found =
    refused_first old step _ fault (same_row old step access accesses) found
