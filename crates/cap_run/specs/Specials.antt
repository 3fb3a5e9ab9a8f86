-- What special registers hold, and the registers of harts that aren't the current one (this profile's own).
use Rattle.std.specs.Prelude.{Bool, ◌≡◌, ◌≢◌, ℕ, ◌-◌, ◌/◌, ◌%◌, ◌^◌, ◌==◌, ◌||◌, nat_le, nat_lt, if◌then◌else◌, is_some, Option, Some, None, option_map}
use Rattle.std.specs.{Option.option_map_or, Ordering.nat_cmp}
use Rattle.std.specs.BTreeMap as tree
use Rattle.cap_word.specs.declared.word.Cap.{Cap}
use Rattle.cap_machine.specs.{declared.registers.Registers.Registers, States.untagged_null}
use Rattle.cap_machine.specs.Helds.{Held}
use Rattle.cap_machine.specs.{RegisterCaps.{cap_by, label_by}, Registers.{caps_of, labels_of}}
use Rattle.cap_machine.specs.Registers as registers
use Rattle.cap_run.specs.{declared.specials.{Bank.Bank, Specials.Specials}, Harts.Harts}

-- the registers that are kept for a hart
abbrev pub banks_at : Specials → ℕ → Option Bank
banks_at specials hart = option_map (λ bank. bank.value) (tree.get nat_cmp specials.banks hart)

-- registers are kept for a hart, and nothing else but their number changed
pub record Names (old : Specials) (hart : ℕ) (new : Specials) : Type 0 where
  pub named : (other : ℕ) → is_some (banks_at new other) ≡ ((other == hart) || is_some (banks_at old other))
  pub registers : new.registers ≡ old.registers
  pub current : new.current ≡ old.current
  pub lines : new.lines ≡ old.lines

-- what registers hold is kept for the current hart, which has some
pub record Keeps (old : Specials) (held : Held) (new : Specials) : Type 0 where
  pub bank : Bank
  pub there : banks_at new old.current ≡ Some bank
  pub caps : registers.cap_in bank.general ≡ cap_by held.registers
  pub labels : registers.label_in bank.general ≡ label_by held.codes
  pub special : bank.special ≡ old.registers
  pub others : (hart : ℕ) → hart ≢ old.current → banks_at new hart ≡ banks_at old hart
  pub registers : new.registers ≡ old.registers
  pub current : new.current ≡ old.current
  pub lines : new.lines ≡ old.lines

-- registers hold what is kept for a hart
pub record Restores (old : Specials) (held : Held) (hart : ℕ) (new : Specials) (after : Held) : Type 0 where
  pub bank : Bank
  pub there : banks_at old hart ≡ Some bank
  pub held_is : after ≡ record held { registers = caps_of bank.general; codes = labels_of bank.general }
  pub special : new.registers ≡ bank.special
  pub banks : (other : ℕ) → banks_at new other ≡ banks_at old other
  pub current : new.current ≡ hart
  pub lines : new.lines ≡ old.lines

-- the registers of a hart, unless it is the current one
abbrev pub bank_of : Specials → ℕ → Option Bank
bank_of specials hart =
    if hart == specials.current || nat_le (2 ^ 16) hart then None else banks_at specials hart

-- what is told of a register of a hart: c0 to c31, then scr0 to scr31
abbrev pub in_bank : {A : Type 0} → (Registers → ℕ → A) → ℕ → Bank → A
in_bank told register bank = if nat_lt register 32 then told bank.general register else told bank.special (register - 32)

-- what is told of the current hart's special registers, and from 64 on of the registers of other harts
abbrev pub told_in : {A : Type 0} → (Registers → ℕ → A) → A → Specials → ℕ → A
told_in told nothing specials number =
    if nat_lt number 64 then told specials.registers number else
    option_map_or (in_bank told (number % 64)) (bank_of specials (number / 64 - 1)) nothing

abbrev pub cap_in : Specials → ℕ → Cap
cap_in = told_in registers.cap_in untagged_null

abbrev pub label_in : Specials → ℕ → ℕ
label_in = told_in registers.label_in 0

-- whether a hart was named
abbrev pub is_named_in : Specials → ℕ → Bool
is_named_in specials hart = (hart == specials.current) || is_some (banks_at specials hart)

abbrev pub harts_in : Specials → Harts
harts_in specials = record { current = specials.current; is_named = is_named_in specials; lines = specials.lines }
