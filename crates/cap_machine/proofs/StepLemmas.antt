-- What a step writes stays within what its parent place held.
use Rattle.std.specs.Option.{option_map_or}
use Rattle.std.proofs.Common.{◌≡◌, ◌==◌, ℕ, Bool, true, false, if◌then◌else◌, List, Option, Some, None, option_map}
use Rattle.std.proofs.{Common.{refl, sym, ap, ◌∙◌}, lemmas.Bool.{false≢true}}
use Rattle.cap_word.specs.declared.word.Cap.{Cap}
use Rattle.cap_ops.specs.{declared.refusal.Refusal.Refusal, Authority.StaysWithin, Checks.first_of}
use Rattle.cap_ops.specs.Operations.{clear_result}
use Rattle.cap_ops.proofs.{AddressLemmas.StaysWithin-set_addr, ClearLemmas.{StaysWithin-clear, clear_result-none}}
use Rattle.cap_ops.proofs.{ClearLemmas.clear_result-some, Derivations.{StaysWithin-and_perm, StaysWithin-seal}}
use Rattle.cap_ops.proofs.Derivations.{StaysWithin-unseal, StaysWithin-loaded, StaysWithin-cleared}
use Rattle.cap_ops.proofs.{NarrowingLemmas.StaysWithin-set_bounds, ReachLemmas.StaysWithin-refl}
use Rattle.cap_log.specs.declared.kinds.Step.{Step, TheVariants.{Move, ClearTag, SetBounds, SetBoundsExact, SetAddr}}
use Rattle.cap_log.specs.declared.kinds.Step.TheVariants.{AndPerm, Seal, Unseal, LoadCap, StoreCap, Load, Store}
use Rattle.cap_log.specs.{declared.lines.Place.Place, Lines.IsStepInRange}
use Rattle.cap_machine.specs.declared.rules.Rules.{Rules, TheVariants.{One, TwoStrict, TwoClear}}
use Rattle.cap_machine.specs.States.{State, key_of, granule_key}
use Rattle.cap_machine.specs.Steps.{Access, Row, agrees, row_of, row_by, clear_row, granule_through}

-- whether the line of a row records what the machine has
abbrev pub is_recorded : Row → Bool
is_recorded row = agrees row.writes row.records

-- whether a write is to the place of a key
abbrev pub hits : Option (Place × Cap) → ℕ → Bool
hits write key = option_map_or (λ to. key_of to.0 == key) write false

-- what a step writes, if anything, where it is tagged, comes from the step's parent place and stays within it
abbrev pub WritesWithin : State → Option Place → Option (Place × Cap) → Type 0
WritesWithin state parent None = Unit {0}
WritesWithin state None (Some write) = write.1.tag ≡ true → ⊥
WritesWithin state (Some from) (Some write) = StaysWithin write.1 (state (key_of from))

pub writes_within : (state : State) (step : Step) → IsStepInRange step → first_of (row_of state step).checks ≡ None
    → WritesWithin state (row_of state step).parent (row_of state step).writes
writes_within state (Move step) range free = StaysWithin-refl (state step.source)
writes_within state (ClearTag step) range free = StaysWithin-cleared (state step.source)
writes_within state (SetBounds step) range free =
    StaysWithin-set_bounds (state step.source) step.number false range.2 free
writes_within state (SetBoundsExact step) range free =
    StaysWithin-set_bounds (state step.source) step.number true range.2 free
writes_within state (SetAddr step) range free = StaysWithin-set_addr (state step.source) step.number range.2 free
writes_within state (AndPerm step) range free = StaysWithin-and_perm (state step.source) step.number
writes_within state (Seal step) range free = StaysWithin-seal (state step.source) (state step.authority)
writes_within state (Unseal step) range free = StaysWithin-unseal (state step.source) (state step.authority)
writes_within state (LoadCap step) range free =
    StaysWithin-loaded (state step.authority) (state (granule_key (granule_through state step.authority step.offset)))
writes_within state (StoreCap step) range free = StaysWithin-refl (state step.source)
writes_within state (Load step) range free = tt
writes_within state (Store step) range free = λ held. false≢true held

-- what is written in clear mode
abbrev clear_write : List (Bool × Refusal) → Option (Place × Cap) → Option (Place × Cap)
clear_write checks write = option_map (λ (w : Place × Cap). (w.0, clear_result checks w.1)) write

clear_write_within : (state : State) (checks : List (Bool × Refusal)) (parent : Option Place) (write : Option (Place × Cap))
    → (first_of checks ≡ None → WritesWithin state parent write) → WritesWithin state parent (clear_write checks write)
clear_write_within state checks parent None within = tt
clear_write_within state checks (Some from) (Some write) within = StaysWithin-clear checks write.1 (state (key_of from)) within
clear_write_within state checks None (Some write) within =
    elim (first_of checks) as (λ o. first_of checks ≡ o → (clear_result checks write.1).tag ≡ true → ⊥) [
      | None ↦ λ free held. within free (ap (λ (cap : Cap). cap.tag) (sym (clear_result-none checks write.1 free)) ∙ held)
      | Some fault ↦ λ found held. false≢true (ap (λ (cap : Cap). cap.tag) (sym (clear_result-some checks write.1 fault found)) ∙ held)
    ] refl

clear_row_within : (state : State) (row : Row) (access : Option Access)
    → (first_of row.checks ≡ None → WritesWithin state row.parent row.writes)
    → first_of (clear_row access row).checks ≡ None → WritesWithin state row.parent (clear_row access row).writes
clear_row_within state row None within free = clear_write_within state row.checks row.parent row.writes within
clear_row_within state row (Some access) within free = within free

-- what a step writes by any rules
pub writes_within_by : (rules : Rules) (state : State) (step : Step) → IsStepInRange step
    → first_of (row_by rules (row_of state step)).checks ≡ None
    → WritesWithin state (row_of state step).parent (row_by rules (row_of state step)).writes
writes_within_by One state step range free = writes_within state step range free
writes_within_by TwoStrict state step range free = writes_within state step range free
writes_within_by TwoClear state step range free =
    clear_row_within state (row_of state step) (row_of state step).access (writes_within state step range) free

-- the place that a place's capability comes from, by whether the step wrote to it and whether it is tagged then
abbrev pub parent_in : Bool → Bool → Option Place → ℕ → Option ℕ
parent_in hit held parent key = if hit then (if held then option_map key_of parent else None) else Some key

-- rules change no place
hits-clear_write : (checks : List (Bool × Refusal)) (write : Option (Place × Cap)) (key : ℕ)
    → hits (clear_write checks write) key ≡ hits write key
hits-clear_write checks None key = refl
hits-clear_write checks (Some write) key = refl

hits-clear_row : (access : Option Access) (row : Row) (key : ℕ) → hits (clear_row access row).writes key ≡ hits row.writes key
hits-clear_row None row key = hits-clear_write row.checks row.writes key
hits-clear_row (Some access) row key = refl

pub hits-row_by : (rules : Rules) (row : Row) (key : ℕ) → hits (row_by rules row).writes key ≡ hits row.writes key
hits-row_by One row key = refl
hits-row_by TwoStrict row key = refl
hits-row_by TwoClear row key = hits-clear_row row.access row key

-- the row of an access is the same by all rules
pub row_by-access : (rules : Rules) (row : Row) (access : Access) → row.access ≡ Some access → row_by rules row ≡ row
row_by-access One row access is = refl
row_by-access TwoStrict row access is = refl
row_by-access TwoClear row access is = ap (λ (o : Option Access). clear_row o row) is
