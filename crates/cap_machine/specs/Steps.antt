-- One step of the machine (the operations and accesses of UCAM-CL-TR-987 for CHERI-RISC-V).
use Rattle.std.specs.Prelude.{◌≡◌, ℕ, ℤ, ◌/◌, ◌%◌, ◌^◌, Bool, true, false, ◌==◌, ◌&&◌, List, [], Option, Some, None, IsTrue}
use Rattle.std.specs.{Prelude.{option_map, option_and_then}, Bool.beq, Option.option_map_or}
use Rattle.cap_word.specs.{declared.word.Cap.Cap, Memory.{low_bytes, memory_of, stored_word}}
use Rattle.cap_ops.specs.declared.{kinds.Kind.Kind, refusal.Refusal.Refusal}
use Rattle.cap_ops.specs.{Accesses.{access_address, access_checks, loaded_result, permission_for}, Checks.first_of}
use Rattle.cap_ops.specs.Operations.{with_word, cleared, clear_result, set_bounds_checks, set_bounds_result}
use Rattle.cap_ops.specs.Operations.{set_addr_checks, set_addr_result, and_perm_checks, and_perm_result, seal_checks}
use Rattle.cap_ops.specs.Operations.{seal_result, unseal_checks, unseal_result}
use Rattle.cap_ops.specs.declared.kinds.Kind.TheVariants as kinds
use Rattle.cap_log.specs.declared.kinds.Step.{Step, TheVariants.{Move, ClearTag, SetBounds, SetBoundsExact, SetAddr}}
use Rattle.cap_log.specs.declared.kinds.Step.TheVariants.{AndPerm, Seal, Unseal, LoadCap, StoreCap, Load, Store}
use Rattle.cap_log.specs.declared.lines.Place.{Place, TheVariants.{Register, Granule}}
use Rattle.tagmem.specs.Granules.{overwritten}
use Rattle.cap_ops.specs.Permissions.{permit_seal, permit_unseal}
use Rattle.cap_machine.specs.{declared.rules.Rules.{Rules, TheVariants.TwoClear}, States.{State, key_of, put, value_at}}
use Rattle.cap_machine.specs.declared.shown.Request.{Request}
use Rattle.cap_machine.specs.declared.shown.Request.TheVariants as requests

-- an access: the register that is its authority, its address, its size, and the permission it needs
pub record Access : Type 0 where
  pub authority : ℕ
  pub address : ℕ
  pub size : ℕ
  pub permission : ℕ

-- what a line records: nothing, the capability written, or a number read, beside the one in memory
pub data Recorded : Type 0 where
  Nothing : Recorded
  Written : (cap : Cap) → Recorded
  ReadNumber : (value in_memory : ℕ) → Recorded

-- a row of the table: the checks in order; the place written and what it then holds; the place that a tagged result
-- comes from; what the line records; the access
pub record Row : Type 0 where
  pub checks : List (Bool × Refusal)
  pub writes : Option (Place × Cap)
  pub parent : Option Place
  pub records : Recorded
  pub access : Option Access

-- the row of an operation from a register to a register
abbrev pub operation : ℕ → ℕ → Cap → List (Bool × Refusal) → Cap → Row
operation target source recorded checks_are result = record {
  checks = checks_are;
  writes = Some (Register target, result);
  parent = Some (Register source);
  records = Written recorded;
  access = None;
}

-- the address of an access through a register
abbrev pub address_through : State → ℕ → ℤ → ℕ
address_through state authority offset = access_address (state authority).word.0 offset

-- the granule that an access through a register reaches
abbrev pub granule_through : State → ℕ → ℤ → ℕ
granule_through state authority offset = address_through state authority offset / 16

-- the row of an access of a kind through a register, where nothing is written and nothing recorded
abbrev pub access_through : State → ℕ → Kind → ℤ → ℕ → Row
access_through state register kind offset size_is =
    let reached = address_through state register offset in
    record {
      checks = access_checks (state register) kind offset size_is;
      writes = None;
      parent = None;
      records = Nothing;
      access = Some (record { authority = register; address = reached; size = size_is; permission = permission_for kind });
    }

-- a granule after a store of a value's bytes, the least significant first, from a byte index on: untagged
abbrev pub with_value : Cap → ℕ → ℕ → ℕ → Cap
with_value cap byte_index size value =
    with_word (cleared cap) (stored_word (overwritten (memory_of cap.word.0) byte_index (low_bytes size value)))

-- the machine's table: the row of a step in a state. The result is the machine's own, whatever the line records
abbrev pub row_of : State → Step → Row
row_of state (Move step) = operation step.target step.source step.result [] (state step.source)
row_of state (ClearTag step) = operation step.target step.source step.result [] (cleared (state step.source))
row_of state (SetBounds step) =
    operation step.target step.source step.result (set_bounds_checks (state step.source) step.number false) (set_bounds_result (state step.source) step.number)
row_of state (SetBoundsExact step) =
    operation step.target step.source step.result (set_bounds_checks (state step.source) step.number true) (set_bounds_result (state step.source) step.number)
row_of state (SetAddr step) =
    operation step.target step.source step.result (set_addr_checks (state step.source) step.number) (set_addr_result (state step.source) step.number)
row_of state (AndPerm step) =
    operation step.target step.source step.result (and_perm_checks (state step.source)) (and_perm_result (state step.source) step.number)
row_of state (Seal step) =
    operation step.target step.source step.result (seal_checks (state step.source) (state step.authority)) (seal_result (state step.source) (state step.authority))
row_of state (Unseal step) =
    operation step.target step.source step.result (unseal_checks (state step.source) (state step.authority)) (unseal_result (state step.source) (state step.authority))
row_of state (LoadCap step) =
    let granule = granule_through state step.authority step.offset in
    record (access_through state step.authority kinds.LoadCap step.offset 16) {
      writes = Some (Register step.target, loaded_result (state step.authority) (state (key_of (Granule granule))));
      parent = Some (Granule granule);
      records = Written step.result;
    }
row_of state (StoreCap step) = record (access_through state step.authority (kinds.StoreCap (state step.source)) step.offset 16) {
  writes = Some (Granule (granule_through state step.authority step.offset), state step.source);
  parent = Some (Register step.source);
}
row_of state (Load step) = record (access_through state step.authority kinds.LoadData step.offset step.datum.size) {
  records = ReadNumber step.datum.value (value_at state (address_through state step.authority step.offset) step.datum.size);
}
row_of state (Store step) =
    let granule = granule_through state step.authority step.offset in
    record (access_through state step.authority kinds.StoreData step.offset step.datum.size) {
      writes = Some (Granule granule, with_value (state (key_of (Granule granule))) (address_through state step.authority step.offset % 16) step.datum.size step.datum.value);
    }

-- the register that a step takes bounds from, and the requested length
abbrev pub asked_by : Step → Option (ℕ × ℕ)
asked_by (SetBounds step) = Some (step.source, step.number)
asked_by (SetBoundsExact step) = Some (step.source, step.number)
asked_by step = None

-- what an operation on registers asks for: bounds of a length, an address, or an authority over object types with a
-- permission
abbrev pub request_of : Step → Request
request_of (SetBounds step) = requests.Length step.number
request_of (SetBoundsExact step) = requests.Length step.number
request_of (SetAddr step) = requests.Address step.number
request_of (Seal step) = requests.Authority step.authority (2 ^ permit_seal)
request_of (Unseal step) = requests.Authority step.authority (2 ^ permit_unseal)
request_of step = requests.Nothing

-- what is written, or read, is what the line records
abbrev pub agrees : Option (Place × Cap) → Recorded → Bool
agrees write Nothing = true
agrees write (Written cap) = option_map_or (λ to. beq cap.tag to.1.tag && (cap.word.0 == to.1.word.0)) write true
agrees write (ReadNumber value in_memory) = value == in_memory

-- the granule that a place is
abbrev pub granule_of : Place → Option ℕ
granule_of (Register n) = None
granule_of (Granule g) = Some g

-- the place that a step writes
abbrev pub written_by : State → Step → Option Place
written_by state step = option_map (λ write. write.0) (row_of state step).writes

-- the granule that a row names: the one that an sc or a store writes
abbrev pub named_by : Row → Option ℕ
named_by row = option_and_then (λ write. granule_of write.0) row.writes

-- the state after a write
abbrev pub state_with : State → Option (Place × Cap) → State
state_with state write = option_map_or (λ to. put state (key_of to.0) to.1) write state

-- a row in clear mode: an operation on registers has no checks, and its result is untagged if one would fail; an
-- access is unchanged
abbrev pub clear_row : Option Access → Row → Row
clear_row None row = record row { checks = []; writes = option_map (λ write. (write.0, clear_result row.checks write.1)) row.writes }
clear_row (Some access) row = row

-- a row by the rules
abbrev pub row_by : Rules → Row → Row
row_by TwoClear row = clear_row row.access row
row_by rules row = row

-- a step leads from a state to the next: no check fails, the line records what the machine has, and only the place
-- written changes
pub record Leads (rules : Rules) (old : State) (step : Step) (new : State) : Type 0 where
  pub allowed : first_of (row_by rules (row_of old step)).checks ≡ None
  pub recorded : IsTrue (agrees (row_by rules (row_of old step)).writes (row_by rules (row_of old step)).records)
  pub after : new ≡ state_with old (row_by rules (row_of old step)).writes
