-- What a step shows of the state before it (this profile's own).
use Rattle.std.specs.Prelude.{ℕ, ◌+◌, ◌≤◌, ◌<◌, ◌^◌, if◌then◌else◌, Option, Some, None, option_map, IfSome}
use Rattle.cap_word.specs.declared.word.Cap.{Cap}
use Rattle.cap_ops.specs.{declared.refusal.Refusal.Refusal, Checks.first_of}
use Rattle.cap_ops.specs.Permissions.{has_permission, permit_global, permit_store, permit_store_capability}
use Rattle.cap_ops.specs.Permissions.{permit_store_local_capability}
use Rattle.cap_log.specs.declared.kinds.Step.{Step, TheVariants.StoreCap}
use Rattle.cap_log.specs.declared.lines.Place.{Place, TheVariants.{Register, Granule}}
use Rattle.cap_machine.specs.{declared.shown.{Given.Given, Shown.Shown}, States.State}
use Rattle.cap_machine.specs.Steps.{Access, Recorded, Written, ReadNumber, Row, request_of, row_of, clear_row}
use Rattle.cap_machine.specs.declared.shown.Given.TheVariants as givens

-- the permissions that storing a capability needs, in the view
abbrev pub needs_to_store : Cap → ℕ
needs_to_store stored =
    if stored.tag
    then (if has_permission stored.word.0 permit_global
    then 2 ^ permit_store + 2 ^ permit_store_capability
    else 2 ^ permit_store + 2 ^ permit_store_capability + 2 ^ permit_store_local_capability)
    else 2 ^ permit_store

-- the permissions that an access needs, in the view: that of its kind, and to store a capability those for what is
-- stored
abbrev pub needed_by : State → Step → Access → ℕ
needed_by state (StoreCap step) access = needs_to_store (state step.source)
needed_by state step access = 2 ^ access.permission

-- the check for which the result of an operation on registers is untagged in clear mode: an access has none
abbrev pub lost_for : Option Access → Row → Option Refusal
lost_for None row = first_of row.checks
lost_for (Some access) row = None

-- what the rules give if a line records a result: what is written in clear mode, which is that of strict rules if no
-- check fails; or the number in memory, if the access fails no check
abbrev pub given_for : Option (Place × Cap) → Recorded → Option Access → Option Refusal → Option Refusal → Given
given_for (Some write) (Written recorded) access fault lost = givens.Capability write.0 write.1 lost recorded
given_for writes (ReadNumber recorded in_memory) (Some access) None lost = givens.Number in_memory access.size recorded
given_for writes records access fault lost = givens.Nothing

-- what the rules give in a row of the machine's table
abbrev pub given_by : Row → Given
given_by row =
    let cleared = clear_row row.access row in
    given_for cleared.writes row.records row.access (first_of row.checks) (lost_for row.access row)

-- what a step shows
abbrev pub shown_of : State → Step → Shown
shown_of state step =
    let row = row_of state step in
    record {
      source = row.parent;
      request = request_of step;
      access = option_map
          (λ access. record {
            authority = access.authority;
            address = access.address;
            size = access.size;
            needs = needed_by state step access;
          })
          row.access;
      given = given_by row;
    }

-- a place that a step reads: any register, or a granule
abbrev pub IsRead : Place → Type 0
IsRead (Register number) = number ≤ 31
IsRead (Granule granule) = granule < 2 ^ 60

-- the place that is shown is such as a machine has
abbrev pub IsShown : Shown → Type 0
IsShown shown = IfSome shown.source IsRead
