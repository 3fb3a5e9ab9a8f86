-- What steps take and record by C's numbers, a word for each shape (this profile's own).
use Rattle.std.specs.Prelude.{ℕ, ℤ}
use Rattle.cap_log.specs.declared.kinds.shapes.{Plain.Plain, Numbered.Numbered, Authorized.Authorized, LoadCap.LoadCap}
use Rattle.cap_log.specs.declared.kinds.shapes.{StoreCap.StoreCap, Data.Data}
use Rattle.cap_halves.specs.{declared.values.Capability.Capability, Passed.cap_of}

-- a source alone
abbrev pub plain_passed : {kind : ℕ} → ℕ → ℕ → Capability → Plain kind
plain_passed target source recorded = record { target = target; source = source; result = cap_of recorded }

-- a source and a number
abbrev pub numbered_passed : {kind : ℕ} → ℕ → ℕ → ℕ → Capability → Numbered kind
numbered_passed target source number recorded =
    record { target = target; source = source; number = number; result = cap_of recorded }

-- a source and an authority
abbrev pub authorized_passed : {kind : ℕ} → ℕ → ℕ → ℕ → Capability → Authorized kind
authorized_passed target source authority recorded =
    record { target = target; source = source; authority = authority; result = cap_of recorded }

-- a load of a capability
abbrev pub lc_passed : ℕ → ℕ → ℤ → Capability → LoadCap
lc_passed target authority offset recorded =
    record { target = target; authority = authority; offset = offset; result = cap_of recorded }

-- a store of a capability
abbrev pub sc_passed : ℕ → ℕ → ℤ → StoreCap
sc_passed source authority offset = record { source = source; authority = authority; offset = offset }

-- an access to data
abbrev pub data_passed : {kind : ℕ} → ℕ → ℤ → ℕ → ℕ → Data kind
data_passed authority offset size value =
    record { authority = authority; offset = offset; datum = record { size = size; value = value } }
