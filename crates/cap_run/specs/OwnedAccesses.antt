-- Accesses through what an object owns (this profile's own).
use Rattle.std.specs.Prelude.{◌≡◌, ◌≢◌, ℕ, ◌+◌, false, IsTrue, Some}
use Rattle.cap_bounds.specs.Bounds.{IsInside}
use Rattle.cap_machine.specs.Steps.{Access}
use Rattle.cap_objects.specs.{declared.objects.Object.Object, Objects.{Share, top_of_extent}}
use Rattle.cap_run.specs.{declared.asks.Asks.Asks, Descents.access_of, Run.Run, Safety.IsKeptApart}
use Rattle.cap_run_log.specs.declared.lines.RunLine.{RunLine}

-- an access through what an object owns lies in the object's extent and touches no byte of another; the object is live if
-- that is asked
pub record IsInOwner (asks : Asks) (run : Run) (access : Access) (number : ℕ) : Type 0 where
  pub object : Object
  pub there : run.objects number ≡ Some object
  pub inside : IsInside access.address (access.address + access.size) object.base (top_of_extent object)
  pub live : IsTrue asks.used → object.freed ≡ false
  pub alone : (other : ℕ) (another : Object) → run.objects other ≡ Some another → number ≢ other → IsKeptApart asks.held object
      → IsKeptApart asks.held another → Share access.address (access.address + access.size) another.base (top_of_extent another) → ⊥

abbrev pub AccessesOwn : Asks → Run → RunLine → Type 0
AccessesOwn asks run line =
    (access : Access) (number : ℕ) → access_of run line ≡ Some access → run.owners access.authority ≡ Some number → IsInOwner asks run access number

-- an access that touches a byte of a live object goes through a capability that this object owns
abbrev pub IsOwnersAccess : Run → RunLine → Type 0
IsOwnersAccess run line =
    (access : Access) (number : ℕ) (object : Object) → access_of run line ≡ Some access → run.objects number ≡ Some object
    → object.freed ≡ false → Share access.address (access.address + access.size) object.base (top_of_extent object)
    → run.owners access.authority ≡ Some number
