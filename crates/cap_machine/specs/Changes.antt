-- What single parts of taking a root or making a step do, most of them for one private function (this profile's own).
use Rattle.std.specs.Prelude.{◌&&◌, ◌==◌, ◌≡◌, ℕ, ℤ, ◌+◌, Bool, true, false, not, ◌||◌, nat_le, if◌then◌else◌, List, []}
use Rattle.std.specs.Prelude.{◌∷◌, drop, slice_set, take, Option, Some, None, IsTrue, Result, Ok, MatchResult}
use Rattle.std.specs.{Prelude.option_map, Bool.beq}
use Rattle.cap_word.specs.{declared.word.{Cap.Cap, Word.Word}, Memory.{low_bytes, memory_of, number_of}}
use Rattle.cap_ops.specs.declared.{faults.OpFault.OpFault, kinds.Kind.Kind, refusal.Refusal.Refusal}
use Rattle.cap_ops.specs.{declared.refusal.Refusal.TheVariants.{WrongResult, LimitPassed}, Accesses.access_checks}
use Rattle.cap_log.specs.declared.{kinds.Step.Step, lines.Place.{Place, TheVariants.{Register, Granule}}}
use Rattle.tagmem.specs.Granules.{with_cap, with_bytes}
use Rattle.cap_machine.specs.declared.ends.StepEnd.{StepEnd, TheVariants.{Refused, NoMemory}}
use Rattle.cap_machine.specs.declared.{instructions.OperationParts.OperationParts, rules.Rules.Rules}
use Rattle.cap_machine.specs.{declared.rules.Rules.TheVariants.TwoStrict, Accounts.{most_steps, is_new}}
use Rattle.cap_machine.specs.{Accounts.passes_granule_limit, Helds.{Held, EndsBy, IsFull, code_in, state_of, account_of}}
use Rattle.cap_machine.specs.States.{State, granule_key, key_of, tagged, untagged_null}
use Rattle.cap_machine.specs.Steps.{Access, Row, Written, access_through, operation, row_of}

-- whether two capabilities are the same: tag and word
abbrev pub is_same_cap : Cap → Cap → Bool
is_same_cap a b = beq a.tag b.tag && (a.word.0 == b.word.0)

-- the code that a result has whose parent has this one: 0 where it has no tag
abbrev pub code_for : Bool → ℕ → ℕ
code_for tag code = if tag then code else 0

-- the machine with another capability in a register, whose parent has this code, after one step more
abbrev pub with_register : Held → ℕ → Cap → ℕ → Held
with_register held target cap code = record held {
  registers = slice_set held.registers target cap;
  codes = slice_set held.codes target (code_for cap.tag code);
  steps = held.steps + 1;
}

-- what a machine holds after a root was put into a place, which is its own origin
abbrev pub placed : Held → Place → Word → Held
placed old (Register number) word =
    record old { registers = slice_set old.registers number (tagged word); codes = slice_set old.codes number number }
placed old (Granule granule) word = record old { memory = with_cap old.memory granule true (memory_of word.0) (granule_key granule) }

-- a root was put into a place
abbrev pub Placed : Held → Place → Word → Held → Type 0
Placed old place word new = new ≡ placed old place word

-- what a row writes
abbrev pub result_in : Option (Place × Cap) → Cap
result_in None = untagged_null
result_in (Some write) = write.1

-- a row is that of an operation from a register to a register with these parts
abbrev pub IsOperation : Row → OperationParts → Type 0
IsOperation row parts = row ≡ operation parts.target parts.source parts.recorded row.checks (result_in row.writes)

-- a step writes this register, and its line records this result
abbrev pub WritesRegister : State → Step → ℕ → Cap → Type 0
WritesRegister state step target recorded =
    let row = row_of state step in
    (row.writes ≡ Some (Register target, result_in row.writes)) × (row.records ≡ Written recorded)

-- the rules by which a row is refused: clear mode leaves those of an access strict
abbrev pub rules_for : Rules → Option Access → Rules
rules_for rules None = rules
rules_for rules (Some access) = TwoStrict

-- the operation, or the access, ends so
abbrev pub Derives : Held → Step → Result Cap OpFault → Type 0
Derives held step outcome =
    let row = row_of (state_of held) step in EndsBy (rules_for held.rules row.access) row.checks (result_in row.writes) outcome

-- if a result is tagged, this is the code of the origin of the place that it comes from
abbrev pub IsParentsCode : Held → Step → Cap → ℕ → Type 0
IsParentsCode held step given code =
    IsTrue given.tag → option_map (λ place. code_in held (key_of place)) (row_of (state_of held) step).parent ≡ Some code

-- this is the code of a result
abbrev pub IsCodeOf : Held → Step → Cap → ℕ → Type 0
IsCodeOf held step given code = (parents : ℕ) × IsParentsCode held step given parents × (code ≡ code_for given.tag parents)

-- the operation, or the access, gives this, and if it comes from memory, this is its code
abbrev pub Gives : Held → Step → Cap → ℕ → Type 0
Gives held step given code =
    Derives held step (Ok given)
    × ((granule : ℕ) → (row_of (state_of held) step).parent ≡ Some (Granule granule) → IsCodeOf held step given code)

-- a row is that of this access through a register
abbrev pub IsAccess : Row → ℕ → Kind → ℤ → ℕ → State → Type 0
IsAccess row authority kind offset size state =
    (row.checks ≡ access_checks (state authority) kind offset size)
    × (row.access ≡ (let through = access_through state authority kind offset size in through.access))

-- the address of an access
abbrev pub address_in : Option Access → ℕ
address_in None = 0
address_in (Some access) = access.address

-- the last checks of a step that names no granule: the recorded result, then the limit on steps
abbrev pub last_checks : Held → Bool → List (Bool × Refusal)
last_checks held recorded = (not recorded, WrongResult) ∷ (nat_le most_steps held.steps, LimitPassed) ∷ []

-- the number that size bytes from a byte index on spell, the least significant first
abbrev pub number_at : List ℕ → ℕ → ℕ → ℕ
number_at bytes byte_index size = number_of (take size (drop byte_index bytes))

-- whether one step more that names a granule passes a limit
abbrev pub is_past_limits : Held → ℕ → Bool
is_past_limits held granule = nat_le most_steps held.steps || passes_granule_limit (account_of held) (Some granule)

-- the machine with a capability, and the code of its origin, put into a granule, after one step more
abbrev pub with_cap_put : Held → ℕ → Cap → ℕ → Held
with_cap_put held granule stored code =
    record held { memory = with_cap held.memory granule stored.tag (memory_of stored.word.0) code; steps = held.steps + 1 }

-- the machine with a value's bytes put into a granule, after one step more
abbrev pub with_value_put : Held → ℕ → ℕ → ℕ → ℕ → Held
with_value_put held granule byte_index size value =
    record held { memory = with_bytes held.memory granule byte_index (low_bytes size value); steps = held.steps + 1 }

-- what a machine answers where a put passes a limit or memory for it is refused, and nothing changes
abbrev pub EndsPut : Held → ℕ → StepEnd → Held → Type 0
EndsPut old granule (Refused refusal) new = (is_past_limits old granule ≡ true) × (refusal ≡ LimitPassed) × (new ≡ old)
EndsPut old granule NoMemory new =
    (is_past_limits old granule ≡ false) × IsTrue (is_new (account_of old) (Some granule)) × (new ≡ old) × IsFull old

-- a machine's answer to a put: no limit was passed and it became so, or it ended there
abbrev pub AnswersPut : Held → ℕ → Held → Result (Unit {0}) StepEnd → Held → Type 0
AnswersPut old granule after result new =
    MatchResult result (λ _. (is_past_limits old granule ≡ false) × (new ≡ after)) (λ end. EndsPut old granule end new)
