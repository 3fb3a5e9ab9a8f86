-- The place of the root that each capability comes from, carried forward.
use Rattle.std.specs.Prelude.{ℕ, List, [], ◌∷◌, Option, option_and_then}
use Rattle.cap_log.specs.declared.{kinds.Step.Step, lines.Place.Place}
use Rattle.cap_machine.specs.{Runs.parent_of, States.State}

-- after a step a place has the origin that its parent had (this profile's own, as are all below)
abbrev pub origins_after : (ℕ → Option Place) → State → Step → State → ℕ → Option Place
origins_after origins state step next key = option_and_then origins (parent_of state step next key)

-- the origin of each place, by the place's key
abbrev pub Origins : Type 0
Origins = ℕ → Option Place

-- the origins after a run
abbrev pub origins_along : Origins → State → List Step → List State → Origins
origins_along origins state [] states = origins
origins_along origins state (step ∷ steps) [] = origins
origins_along origins state (step ∷ steps) (next ∷ states) = origins_along (origins_after origins state step next) next steps states
