-- What a machine holds, and what its roots and its steps do to that (this profile's own).
use Rattle.std.specs.Prelude.{◌≡◌, ◌≤◌, ℕ, zero, suc, Bool, List, [], length, slice_index_or, refl, Some, None, is_some}
use Rattle.std.specs.Prelude.{IsTrue, Result, MatchResult}
use Rattle.std.specs.Coded.{Coded, code_by, coded×, coded_bool, coded_list, coded_ℕ}
use Rattle.std.specs.FinMap as map
use Rattle.cap_word.specs.declared.word.{Cap.Cap, Word.Word}
use Rattle.cap_ops.specs.{declared.{faults.OpFault.OpFault, refusal.Refusal.Refusal}, Checks.{Ends, first_of}}
use Rattle.cap_ops.specs.Operations.{clear_result}
use Rattle.cap_log.specs.declared.{kinds.Step.Step, lines.Place.Place}
use Rattle.tagmem.specs.Granules.{Granules}
pub use Rattle.cap_machine.specs.Places.{granule_cap}
use Rattle.cap_machine.specs.declared.{ends.StepEnd.{StepEnd, TheVariants.{Refused, NoMemory}}, limits.Limits.Limits, rules.Rules.Rules}
use Rattle.cap_machine.specs.declared.rules.Rules.TheVariants.{One, TwoStrict, TwoClear}
use Rattle.cap_machine.specs.Accounts.{Account, granule_of, named_by, row_in, is_new, with_root, with_step, root_checks}
use Rattle.cap_machine.specs.{Accounts.step_checks, Parents.IsSoundState, Places.{AreCoded, places_of, codes_of}}
use Rattle.cap_machine.specs.{Places.place_at, States.{State, untagged_null}, Steps.Leads}

-- what a machine holds: its rules and limits, its registers and the codes of their origins, the granules that were put, with such
-- codes, as how many granules surely have room, and its counts of roots and steps
pub record Held : Type 0 where
  pub rules : Rules
  pub limits : Limits
  pub registers : List Cap
  pub codes : List ℕ
  pub memory : Granules
  pub least_room : ℕ
  pub roots : ℕ
  pub steps : ℕ

-- a capability is stored as the pair of its tag and its word's number
abbrev pub cap_code : Coded Cap
cap_code =
    code_by (Bool × ℕ) (coded× coded_bool coded_ℕ) (λ cap. (cap.tag, cap.word.0))
    (λ pair. record { tag = pair.0; word = record { 0 = pair.1 } }) (λ _. refl)

-- rules are stored as their number
abbrev pub rules_number : Rules → ℕ
rules_number One = 0
rules_number TwoStrict = 1
rules_number TwoClear = 2

-- the rules of a number
abbrev pub rules_numbered : ℕ → Rules
rules_numbered zero = One
rules_numbered (suc zero) = TwoStrict
rules_numbered (suc (suc more)) = TwoClear

-- the number gives them back
pub rules_numbered-rules_number : (rules : Rules) → rules_numbered (rules_number rules) ≡ rules
rules_numbered-rules_number One = refl
rules_numbered-rules_number TwoStrict = refl
rules_numbered-rules_number TwoClear = refl

-- limits are stored as the pair of their numbers
abbrev pub limits_code : Coded Limits
limits_code =
    code_by (ℕ × ℕ) (coded× coded_ℕ coded_ℕ) (λ limits. (limits.roots, limits.granules))
    (λ pair. record { roots = pair.0; granules = pair.1 }) (λ _. refl)

-- granules are stored as the list of their entries, each as its tag, bytes and code
abbrev pub granules_code : Coded Granules
granules_code =
    map.code coded_ℕ
    (code_by (Bool × (List ℕ × ℕ)) (coded× coded_bool (coded× (coded_list coded_ℕ) coded_ℕ)) (λ entry. (entry.0, (entry.1, entry.2)))
    (λ parts. (parts.0, parts.1.0, parts.1.1)) (λ _. refl))

-- what a machine holds is stored as the tuple of its fields
abbrev pub held_code : Coded Held
held_code =
    code_by (Rules × (Limits × (List Cap × (List ℕ × (Granules × (ℕ × (ℕ × ℕ)))))))
    (coded× (code_by ℕ coded_ℕ rules_number rules_numbered rules_numbered-rules_number)
    (coded× limits_code (coded× (coded_list cap_code) (coded× (coded_list coded_ℕ) (coded× granules_code (coded× coded_ℕ (coded× coded_ℕ coded_ℕ)))))))
    (λ held. (held.rules, (held.limits, (held.registers, (held.codes, (held.memory, (held.least_room, (held.roots, held.steps))))))))
    (λ parts. record {
      rules = parts.0;
      limits = parts.1.0;
      registers = parts.1.1.0;
      codes = parts.1.1.1.0;
      memory = parts.1.1.1.1.0;
      least_room = parts.1.1.1.1.1.0;
      roots = parts.1.1.1.1.1.1.0;
      steps = parts.1.1.1.1.1.1.1;
    }) (λ _. refl)

-- there are 32 registers, c0 is NULL without a tag, each tagged capability is sound, and the codes are those of the
-- places' origins
pub record IsKept (registers : List Cap) (codes : List ℕ) (memory : Granules) : Type 0 where
  pub sized : length registers ≡ 32
  pub zero : slice_index_or registers 0 untagged_null ≡ untagged_null
  pub sound : IsSoundState (places_of registers memory)
  pub coded : AreCoded (places_of registers memory) (codes_of codes memory)

-- the state that a machine is in
abbrev pub state_of : Held → State
state_of held = places_of held.registers held.memory

-- the code of each place's origin, by the place's key
abbrev pub code_in : Held → ℕ → ℕ
code_in held = codes_of held.codes held.memory

-- its account
abbrev pub account_of : Held → Account
account_of held = record {
  rules = held.rules;
  limits = held.limits;
  state = state_of held;
  origin = λ key. place_at (code_in held key);
  roots = held.roots;
  steps = held.steps;
  is_named = λ granule. is_some (map.get held.memory granule);
  granules = map.len held.memory;
}

-- the checks of an operation on registers, by the rules
abbrev pub checks_by : Rules → List (Bool × Refusal) → List (Bool × Refusal)
checks_by One checks = checks
checks_by TwoStrict checks = checks
checks_by TwoClear checks = []

-- its result, by the rules
abbrev pub value_by : Rules → List (Bool × Refusal) → Cap → Cap
value_by One checks result = result
value_by TwoStrict checks result = result
value_by TwoClear checks result = clear_result checks result

-- how an operation on registers ends, by the rules
abbrev pub EndsBy : Rules → List (Bool × Refusal) → Cap → Result Cap OpFault → Type 0
EndsBy rules checks result outcome = Ends outcome (checks_by rules checks) (λ cap. cap ≡ value_by rules checks result)

-- at least as many granules were put as surely have room
abbrev pub IsFull : Held → Type 0
IsFull held = held.least_room ≤ map.len held.memory

-- the machine made the step: none of its checks fails, it leads to the new state, and the account is that after it
pub record Makes (old : Held) (step : Step) (new : Held) : Type 0 where
  pub checks : first_of (step_checks (account_of old) step) ≡ None
  pub leads : Leads old.rules (state_of old) step (state_of new)
  pub account : account_of new ≡ with_step (account_of old) step
  pub same_room : new.least_room ≡ old.least_room

-- the machine refused the step for its first check that fails; or no check fails and it names a granule for the first
-- time; nothing changed
abbrev pub EndsStep : Held → Step → StepEnd → Held → Type 0
EndsStep old step (Refused refusal) new = (first_of (step_checks (account_of old) step) ≡ Some refusal) × (new ≡ old)
EndsStep old step NoMemory new =
    (first_of (step_checks (account_of old) step) ≡ None)
    × IsTrue (is_new (account_of old) (named_by (row_in (account_of old) step)))
    × (new ≡ old) × IsFull old

-- the machine's answer to a step: it made it, or the step ended there
abbrev pub AnswersStep : {A : Type 0} → Held → Step → Result A StepEnd → Held → Type 0
AnswersStep old step result new = MatchResult result (λ _. Makes old step new) (λ end. EndsStep old step end new)

-- the machine took the root: none of its checks fails, and the account is that after it
pub record TakesRoot (old : Held) (place : Place) (word : Word) (new : Held) : Type 0 where
  pub checks : first_of (root_checks (account_of old) place word) ≡ None
  pub account : account_of new ≡ with_root (account_of old) place word
  pub same_room : new.least_room ≡ old.least_room

-- the machine refused the root for its first check that fails; or no check fails and it names a granule for the first
-- time; nothing changed
abbrev pub EndsRoot : Held → Place → Word → StepEnd → Held → Type 0
EndsRoot old place word (Refused refusal) new = (first_of (root_checks (account_of old) place word) ≡ Some refusal) × (new ≡ old)
EndsRoot old place word NoMemory new =
    (first_of (root_checks (account_of old) place word) ≡ None) × IsTrue (is_new (account_of old) (granule_of place)) × (new ≡ old)
    × IsFull old
