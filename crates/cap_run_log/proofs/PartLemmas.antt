-- Where no part of a line stands.
use Rattle.std.proofs.Common.{ℕ, List, decimal}
use Rattle.cap_log.specs.declared.lines.Place.{Place}
use Rattle.cap_log.specs.Lines.{IsPlace, IsRegister, place_spelling, register_spelling}
use Rattle.cap_log.specs.{Parts.{BeginsWithNone, FitBoth, spaced}, Ranges.IsRegisterFrom}
use Rattle.cap_run_log.specs.RunParts.{IsFreed, IsHanded, freed_spelling, handed_spelling}
use Rattle.cap_run_log.specs.declared.{lines.{RunPlace.RunPlace, RunRegister.RunRegister}, parts.{Freed.Freed, Handed.Handed}}
use Rattle.cap_run_log.specs.declared.parts.ObjectNumber.{ObjectNumber}
use Rattle.cap_run_log.specs.RunLines.{IsObjectNumber, IsRunPlace, IsRunRegister, run_place_spelling, run_register_spelling}
use Rattle.cap_run_log.specs.RunLines.{special_spelling}

abbrev NoSpecial : ℕ → List ℕ → Type 0
NoSpecial = BeginsWithNone IsRegister special_spelling

-- no register is there if no general-purpose one is, and no special one
pub no_register_at : (least end : ℕ) (bytes : List ℕ) → NoSpecial end bytes → BeginsWithNone (IsRegisterFrom least) register_spelling end bytes
    → BeginsWithNone (IsRunRegister least) run_register_spelling end bytes
no_register_at least end bytes no_special no_general (RunRegister.General n) rest begins = no_general n rest begins
no_register_at least end bytes no_special no_general (RunRegister.Special n) rest begins = no_special n rest begins

-- no place is there if none of a log is, and no special register
pub no_run_place : (end : ℕ) (bytes : List ℕ) → BeginsWithNone IsPlace place_spelling end bytes → NoSpecial end bytes
    → BeginsWithNone IsRunPlace run_place_spelling end bytes
no_run_place end bytes no_place no_special (RunPlace.General n) rest begins = no_place (Place.Register n) rest begins
no_run_place end bytes no_place no_special (RunPlace.Special n) rest begins = no_special n rest begins
no_run_place end bytes no_place no_special (RunPlace.Granule n) rest begins = no_place (Place.Granule n) rest begins

abbrev FitsNumber : ObjectNumber → Type 0
FitsNumber number = IsObjectNumber number.0

-- nothing that follows `object` is there if no register is, alone or with a number
pub no_handed : (end : ℕ) (bytes : List ℕ) → BeginsWithNone (IsRegisterFrom 1) register_spelling end bytes
    → BeginsWithNone (FitBoth (IsRegisterFrom 1) FitsNumber) (spaced register_spelling (λ number. decimal number.0)) end bytes
    → BeginsWithNone IsHanded handed_spelling end bytes
no_handed end bytes no_register no_pair (Handed.Alone register) rest begins = no_register register rest begins
no_handed end bytes no_register no_pair (Handed.Numbered register number) rest begins =
    no_pair (register, record { 0 = number }) rest begins

-- nothing that follows `free` is there if no register is, and no number
pub no_freed : (end : ℕ) (bytes : List ℕ) → BeginsWithNone (IsRegisterFrom 1) register_spelling end bytes
    → BeginsWithNone FitsNumber (λ number. decimal number.0) end bytes → BeginsWithNone IsFreed freed_spelling end bytes
no_freed end bytes no_register no_number (Freed.Owner register) rest begins = no_register register rest begins
no_freed end bytes no_register no_number (Freed.Number number) rest begins = no_number (record { 0 = number }) rest begins
