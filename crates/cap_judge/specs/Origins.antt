-- The report of origins: each tagged place of a log's last state, with the place of its root. All of it is this
-- profile's own.
use Rattle.std.specs.{Prelude.{◌≡◌, ℕ, List, length, map, flat_map, IsTrue, Contains}, List.AllByRecursion}
use Rattle.std.specs.{List.Sorted.IsStrictlySortedBy, Ordering.nat_cmp}
use Rattle.cap_log.specs.{declared.{kinds.Step.Step, lines.Place.Place}, Lines.IsPlace}
use Rattle.cap_machine.specs.{declared.rules.Rules.Rules, Runs.{IsRun, DescendsFrom, last_of}}
use Rattle.cap_machine.specs.States.{State, DeclaredRoot, key_of, start}
use Rattle.cap_judge.specs.{Logs.IsLogOf, VerdictLines.origin_line}

-- a place, and the place of a root
pub record Origin : Type 0 where
  pub place : Place
  pub root : Place

-- a place that is tagged in the last state of a run, with the place of the one root that it descends from
pub record IsOrigin (roots : List DeclaredRoot) (steps : List Step) (states : List State) (origin : Origin) : Type 0 where
  pub in_range : IsPlace origin.place
  pub tag : IsTrue (last_of (start roots) states (key_of origin.place)).tag
  pub from : DeclaredRoot
  pub descends : DescendsFrom roots steps states (length steps) (key_of origin.place) from
  pub root_is : origin.root ≡ from.place

-- the origins of a run: of each tagged place of its last state one, the registers by number and then the granules by
-- address
pub record AreOrigins (roots : List DeclaredRoot) (steps : List Step) (states : List State) (origins : List Origin) : Type 0 where
  pub each : AllByRecursion (IsOrigin roots steps states) origins
  pub rising : IsStrictlySortedBy nat_cmp (map (λ origin. key_of origin.place) origins)
  pub complete : (key : ℕ) → IsTrue (last_of (start roots) states key).tag → Contains (map (λ origin. key_of origin.place) origins) key

-- the bytes are a log whose steps have a run, and these are the origins of that
pub record AreOriginsOf (bytes : List ℕ) (origins : List Origin) : Type 0 where
  pub rules : Rules
  pub roots : List DeclaredRoot
  pub steps : List Step
  pub states : List State
  pub log : IsLogOf bytes rules roots steps
  pub run : IsRun rules (start roots) steps states
  pub are : AreOrigins roots steps states origins

-- the lines of origins
abbrev pub origin_lines : List Origin → List ℕ
origin_lines origins = flat_map (λ origin. origin_line origin.place origin.root) origins
