-- Steps of runs on memory (this profile's own).
use Rattle.std.specs.Prelude.{◌≡◌, ℕ, ◌+◌, ◌==◌, ◌||◌, if◌then◌else◌, None}
use Rattle.cap_word.specs.declared.word.Cap.{Cap}
use Rattle.cap_machine.specs.States.{granule_key, put}
use Rattle.cap_objects.specs.{Counts.at_key, Handed.IsRecounted}
use Rattle.cap_run.specs.{Run.Run, RunSteps.IsStepped}

-- a step wrote what has no tag to a granule, which it names, and which then has no owner
pub record Fills (old : Run) (granule : ℕ) (cap : Cap) (new : Run) : Type 0 where
  pub state : new.state ≡ put old.state (granule_key granule) cap
  pub owners : (other : ℕ) → new.owners other ≡ at_key old.owners (granule_key granule) None other
  pub objects : IsRecounted old.objects new.objects
  pub count : new.count ≡ old.count
  pub harts : new.harts ≡ old.harts
  pub rules : new.rules ≡ old.rules
  pub limits : new.limits ≡ old.limits
  pub roots : new.roots ≡ old.roots
  pub steps : new.steps ≡ old.steps + 1
  pub is_named : new.is_named ≡ (λ other. (granule == other) || old.is_named other)
  pub granules : new.granules ≡ (if old.is_named granule then old.granules else old.granules + 1)

-- a step changed nothing but the count
pub record Counts (old new : Run) : Type 0 where
  pub state : new.state ≡ old.state
  pub owners : new.owners ≡ old.owners
  pub objects : new.objects ≡ old.objects
  pub rest : IsStepped old new
