-- The steps of version 2 in a run (this profile's own).
use Rattle.std.specs.Prelude.{◌≡◌, ℕ, Option, Some, None, option_and_then}
use Rattle.cap_ops.specs.Checks.{first_of}
use Rattle.cap_log.specs.declared.{kinds.Step.Step, lines.Place.{Place, TheVariants.{Register, Granule}}}
use Rattle.cap_machine.specs.{Accounts.{step_checks, with_step}, Helds.{Held, account_of, state_of}, Runs.parent_of, States.{State, key_of}}
use Rattle.cap_machine.specs.Steps.{Leads, written_by}
use Rattle.cap_objects.specs.{Counts.{Owners, at_key}, Extents.Objects, Handed.IsRecounted}
use Rattle.cap_run.specs.Owned.{object_by, owner_for}

-- the owners of registers and granules
abbrev pub main_owners : Held → Owners
main_owners held key = object_by ((account_of held).origin key)

-- the owner of a place, if there is one
abbrev pub owner_at : Owners → Option Place → Option ℕ
owner_at owners None = None
owner_at owners (Some place) = owners (key_of place)

-- owners where a register that was written has none if its bounds are empty
abbrev pub disowned : Option Place → State → Owners → Owners
disowned (Some (Register number)) state owners = at_key owners number (owner_for (state number) (owners number))
disowned (Some (Granule granule)) state owners = owners
disowned None state owners = owners

-- a step was made, as without objects; each place has the owner that its parent had, and a register that was written none
-- if its bounds are empty: what is stored or not written is as it was
pub record MakesUsual (old : Held) (objects : Objects) (step : Step) (new : Held) (after : Objects) : Type 0 where
  pub checks : first_of (step_checks (account_of old) step) ≡ None
  pub account : account_of new ≡ record (with_step (account_of old) step) { origin = let account = account_of new in account.origin }
  pub leads : Leads old.rules (state_of old) step (state_of new)
  pub owners : (key : ℕ) → main_owners new key
      ≡ disowned (written_by (state_of old) step) (state_of new) (λ k. option_and_then (main_owners old) (parent_of (state_of old) step (state_of new) k)) key
  pub recounted : IsRecounted objects after
