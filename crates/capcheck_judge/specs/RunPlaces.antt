-- The places of runs that C asks about (this profile's own).
use Rattle.std.specs.Prelude.{◌≡◌, ◌⊎◌, ℕ, ◌≤◌, ◌<◌, ◌/◌, ◌==◌, if◌then◌else◌, Option, None, Some}
use Rattle.cap_run_log.specs.declared.lines.RunPlace.{RunPlace, TheVariants.{General, Granule, Special}}
use Rattle.cap_run_log.specs.RunLines.{IsRunPlace}
use Rattle.cap_objects.specs.declared.objects.Object.{Object}
use Rattle.cap_run.specs.{HartPlaces.{place_in, place_numbered}, Harts.most_harts, Run.Run}
use Rattle.cap_run_report.specs.ObjectParts.{HasNoHolder, IsFirstHolder}
use Rattle.cap_halves.specs.{PassedRuns.{passed_nowhere, passed_place}, declared.values.PassedPlace.PassedPlace}

-- the place that C's numbers name, if its number is in range: the kind 1 is a general-purpose register, 2 the granule that
-- an address lies in, and 3 a special register
abbrev pub place_asked : PassedPlace → Option RunPlace
place_asked place =
    if place.kind == 1 then Some (General place.number)
    else (if place.kind == 2 then Some (Granule (place.number / 16))
    else (if place.kind == 3 then Some (Special place.number) else None))

-- the number of an object that owns a place, and 0 where none does
abbrev pub IsOwnerTold : Option ℕ → ℕ → Type 0
IsOwnerTold (Some number) told = told ≡ number
IsOwnerTold None told = told ≡ 0

-- the first place that an object owns, in numbers
abbrev pub holder_passed : Option (ℕ × RunPlace) → PassedPlace
holder_passed (Some found) = passed_place found.1
holder_passed None = passed_nowhere

-- the hart that has it: 0 for a granule, and where the object owns none
abbrev pub hart_having : ℕ → RunPlace → ℕ
hart_having hart (Granule number) = 0
hart_having hart place = hart

abbrev pub holder_hart_passed : Option (ℕ × RunPlace) → ℕ
holder_hart_passed (Some found) = hart_having found.0 found.1
holder_hart_passed None = 0

-- the first place that the object of a number owns; or none, where it owns none
abbrev pub IsHolderTold : Run → ℕ → PassedPlace → Type 0
IsHolderTold run number told =
    ((found : ℕ × RunPlace) × IsRunPlace found.1 × IsFirstHolder run number found × (told ≡ passed_place found.1))
    ⊎ (HasNoHolder run number × (told ≡ passed_nowhere))

-- its hart
abbrev pub IsHolderHartTold : Run → ℕ → ℕ → Type 0
IsHolderHartTold run number told =
    ((found : ℕ × RunPlace) × IsFirstHolder run number found × (told ≡ hart_having found.0 found.1))
    ⊎ (HasNoHolder run number × (told ≡ 0))

-- the least number, from one on, of a hart that was named, or 65536: no object owns a register of those before it
abbrev pub IsHartTold : Run → ℕ → ℕ → Type 0
IsHartTold run from told = (told ≤ most_harts) × (from ≤ most_harts → from ≤ told)
    × ((other register : ℕ) → from ≤ other → other < told → register < 64
    → run.owners (place_in run.harts other (place_numbered register)) ≡ None)

-- the least number, from one on, of a present object; or 0, where there is none
abbrev pub IsNextTold : Run → ℕ → ℕ → Type 0
IsNextTold run from told =
    ((object : Object) × (run.objects told ≡ Some object) × (from ≤ told)
    × ((number : ℕ) → from ≤ number → number < told → run.objects number ≡ None))
    ⊎ (((number : ℕ) → from ≤ number → run.objects number ≡ None) × (told ≡ 0))
