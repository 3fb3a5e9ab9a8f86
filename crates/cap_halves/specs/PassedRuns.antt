-- The places and the steps of runs by C's numbers (this profile's own).
use Rattle.std.specs.Prelude.{◌≡◌, ℕ, ◌*◌, ◌/◌, ◌%◌, ◌==◌, ◌&&◌, if◌then◌else◌, Option, Some, None}
use Rattle.cap_word.specs.declared.word.Cap.{Cap}
use Rattle.cap_run_log.specs.declared.lines.{RunPlace.RunPlace, RunRegister.RunRegister, RunStep.RunStep}
use Rattle.cap_run_log.specs.declared.lines.RunPlace.TheVariants as places
use Rattle.cap_run_log.specs.declared.lines.RunRegister.TheVariants as registers
use Rattle.cap_run_log.specs.declared.lines.RunStep.TheVariants as steps
use Rattle.cap_halves.specs.declared.values.{Capability.Capability, Halves.Halves, PassedPlace.PassedPlace}
use Rattle.cap_halves.specs.Passed.{cap_of, whole_of}

-- a place as C gets it: the kind 1 is a general-purpose register, 2 a granule by its first address, 3 a special register,
-- and 0 no place
abbrev pub passed_place : RunPlace → PassedPlace
passed_place (places.General number) = record { number = number; kind = 1 }
passed_place (places.Granule granule) = record { number = 16 * granule; kind = 2 }
passed_place (places.Special number) = record { number = number; kind = 3 }

abbrev pub passed_register : RunRegister → PassedPlace
passed_register (registers.General number) = record { number = number; kind = 1 }
passed_register (registers.Special number) = record { number = number; kind = 3 }

abbrev pub passed_nowhere : PassedPlace
passed_nowhere = record { number = 0; kind = 0 }

-- the register that C's numbers name, if its number is in range
abbrev pub register_passed : PassedPlace → Option RunRegister
register_passed place =
    if place.kind == 1 then Some (registers.General place.number)
    else (if place.kind == 3 then Some (registers.Special place.number) else None)

-- the place that they name: a granule by the address of its first byte
abbrev pub place_passed : PassedPlace → Option RunPlace
place_passed place =
    if place.kind == 1 then Some (places.General place.number)
    else (if place.kind == 3 then Some (places.Special place.number)
    else (if (place.kind == 2) && (place.number % 16 == 0) then Some (places.Granule (place.number / 16)) else None))

-- the steps that C's numbers name, if they are in range
abbrev pub derive_by : Option RunRegister → Option RunRegister → Cap → Option RunStep
derive_by (Some target) (Some source) recorded = Some (steps.Derive (record { target = target; source = source; result = recorded }))
derive_by target source recorded = None

abbrev pub derive_passed : PassedPlace → PassedPlace → Capability → Option RunStep
derive_passed target source recorded = derive_by (register_passed target) (register_passed source) (cap_of recorded)

abbrev pub exchange_passed : ℕ → ℕ → ℕ → Capability → Capability → RunStep
exchange_passed target source special recorded special_recorded =
    steps.Exchange (record {
      target = target;
      source = source;
      special = special;
      result = cap_of recorded;
      special_result = cap_of special_recorded;
    })

abbrev pub invoke_passed : ℕ → ℕ → Halves → Halves → RunStep
invoke_passed code datum code_word datum_word =
    steps.Invoke (record {
      code = code;
      datum = datum;
      code_word = record { 0 = whole_of code_word };
      datum_word = record { 0 = whole_of datum_word };
    })

abbrev pub drop_by : Option RunPlace → Option RunStep
drop_by (Some place) = Some (steps.Drop place)
drop_by None = None

abbrev pub drop_passed : PassedPlace → Option RunStep
drop_passed place = drop_by (place_passed place)

abbrev pub fill_passed : ℕ → Halves → Option RunStep
fill_passed address word =
    if address % 16 == 0 then Some (steps.Fill (address / 16) (record { 0 = whole_of word })) else None

-- a new object, where the object's number is 0
abbrev pub object_passed : ℕ → ℕ → RunStep
object_passed register object = if object == 0 then steps.Object register else steps.Widen register object

-- an object by its number, where there is one and the register is 0; the owner of a register, where there is none
abbrev pub free_passed : ℕ → ℕ → Option RunStep
free_passed register object =
    if object == 0 then Some (steps.FreeOwner register)
    else (if register == 0 then Some (steps.FreeNumber object) else None)

-- the step that C's numbers name, if it is in range, and otherwise none
abbrev pub IsStepFrom : {A : Type 0} → (A → Type 0) → Option A → Option A → Type 0
IsStepFrom IsInRange passed (Some step) = (passed ≡ Some step) × IsInRange step
IsStepFrom {A = A} IsInRange passed None = (step : A) → passed ≡ Some step → ¬ IsInRange step
