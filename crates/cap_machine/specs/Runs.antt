-- Runs of the machine, and which root each capability descends from.
use Rattle.std.specs.Prelude.{◌≡◌, false, ℕ, zero, suc, ◌+◌, ◌≤◌, ◌==◌, if◌then◌else◌, IsTrue, List, [], ◌∷◌, length}
use Rattle.std.specs.{Prelude.{take, Option, Some, None, option_map, Contains, slice_get}, Option.option_map_or}
use Rattle.cap_bounds.specs.Bounds.{base_of, top_of, IsInside, IsSound}
use Rattle.cap_ops.specs.{Authority.ReachesNoMore, Permissions.has_permission}
use Rattle.cap_log.specs.declared.kinds.Step.{Step}
pub use Rattle.cap_machine.specs.Steps.{Access}
use Rattle.cap_machine.specs.{declared.rules.Rules.Rules, States.{State, DeclaredRoot, key_of, start}}
use Rattle.cap_machine.specs.Steps.{Leads, row_of}

-- these are the states after each step, each led to from the one before (this profile's own, as are all below)
abbrev pub IsRun : Rules → State → List Step → List State → Type 0
IsRun rules state [] [] = Unit {0}
IsRun rules state (step ∷ steps) (next ∷ states) = Leads rules state step next × IsRun rules next steps states
IsRun rules state steps states = ⊥

-- the state at a moment: the start at 0, the one after step k at k
abbrev pub state_at : State → List State → ℕ → State
state_at state states zero = state
state_at state [] (suc moment) = state
state_at state (next ∷ states) (suc moment) = state_at next states moment

-- the last state of a run
abbrev pub last_of : State → List State → State
last_of state [] = state
last_of state (next ∷ states) = last_of next states

-- the key of the place that a place's capability comes from in a step: the place itself if the step didn't write it;
-- otherwise the row's parent if it is now tagged, and none if not
abbrev pub parent_of : State → Step → State → ℕ → Option ℕ
parent_of state step next key =
    let row = row_of state step in
    if option_map_or (λ to. key_of to.0 == key) row.writes false then (if (next key).tag then option_map key_of row.parent else None) else Some key

-- the chain of parents from a place after a run leads back to a place before it, both by their keys
abbrev pub Descends : State → List Step → List State → ℕ → ℕ → Type 0
Descends state [] states key from = key ≡ from
Descends state (step ∷ steps) [] key from = ⊥
Descends state (step ∷ steps) (next ∷ states) key from =
    (middle : ℕ) × Descends next steps states key middle × (parent_of state step next middle ≡ Some from)

-- a place at a moment of a run descends from this root, and from it alone
pub record DescendsFrom (roots : List DeclaredRoot) (steps : List Step) (states : List State) (moment key : ℕ)
    (root : DeclaredRoot) : Type 0 where
  pub declared : Contains roots root
  pub descends : Descends (start roots) (take moment steps) (take moment states) key (key_of root.place)
  pub only : (from : ℕ) → Descends (start roots) (take moment steps) (take moment states) key from → from ≡ key_of root.place

-- authority never grows: at each moment each tagged place has bounds inside, and permissions among, those of the one
-- root it descends from
abbrev pub AuthorityNeverGrows : List DeclaredRoot → List Step → List State → Type 0
AuthorityNeverGrows roots steps states =
    (moment : ℕ) → moment ≤ length steps → (key : ℕ) → IsTrue (state_at (start roots) states moment key).tag
    → (root : DeclaredRoot) × DescendsFrom roots steps states moment key root
    × ReachesNoMore (state_at (start roots) states moment key).word.0 root.word.0

-- an access lies inside a root's bounds, and the root has its permission
pub record LiesInside (access : Access) (root : DeclaredRoot) : Type 0 where
  pub inside : IsInside access.address (access.address + access.size) (base_of root.word.0) (top_of root.word.0)
  pub permitted : IsTrue (has_permission root.word.0 access.permission)

-- each access lies inside the one root that its authority descends from at the moment before its step
abbrev pub AccessesLieInside : List DeclaredRoot → List Step → List State → Type 0
AccessesLieInside roots steps states =
    (moment : ℕ) (step : Step) (access : Access) → slice_get steps moment ≡ Some step
    → (row_of (state_at (start roots) states moment) step).access ≡ Some access
    → (root : DeclaredRoot) × DescendsFrom roots steps states moment access.authority root × LiesInside access root

-- the words of the roots are sound
abbrev pub AreSound : List DeclaredRoot → Type 0
AreSound roots = (root : DeclaredRoot) → Contains roots root → IsSound root.word.0
