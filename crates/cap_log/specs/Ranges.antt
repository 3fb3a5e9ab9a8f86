-- The ranges of a step's numbers. All of it is this profile's own.
use Rattle.std.specs.Prelude.{◌≡◌, ℕ, zero, suc, ◌^◌, ◌<◌, ◌≤◌, ℤ, pos, negsuc, ◌≤ℤ◌, ◌⊎◌}

-- a register that is read
abbrev pub IsRegister : ℕ → Type 0
IsRegister n = n ≤ 31

-- a register that is written: c0 is not
abbrev pub IsTarget : ℕ → Type 0
IsTarget n = (1 ≤ n) × (n ≤ 31)

-- a register from a least one on, as any that is read, from c0, and any that is written, from c1
abbrev pub IsRegisterFrom : ℕ → ℕ → Type 0
IsRegisterFrom zero n = IsRegister n
IsRegisterFrom (suc least) n = (suc least ≤ n) × IsRegister n

-- the offset of an access
abbrev pub IsOffset : ℤ → Type 0
IsOffset z = (negsuc 2047 ≤ℤ z) × (z ≤ℤ pos 2047)

-- the sizes of data
abbrev pub IsDataSize : ℕ → Type 0
IsDataSize size = (size ≡ 1) ⊎ ((size ≡ 2) ⊎ ((size ≡ 4) ⊎ (size ≡ 8)))

-- a value fits in size bytes
abbrev pub IsDataValue : ℕ → ℕ → Type 0
IsDataValue size value = value < 256 ^ size

-- a number of size bytes, with its size
pub record Datum : Type 0 where
  pub size : ℕ
  pub value : ℕ

-- its bytes are such as a load or a store takes
abbrev pub IsDatum : Datum → Type 0
IsDatum datum = IsDataSize datum.size × IsDataValue datum.size datum.value
