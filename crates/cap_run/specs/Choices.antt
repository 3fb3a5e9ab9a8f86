-- What a judge asks decides which lines are allowed, and nothing else (this profile's own).
use Rattle.std.specs.Prelude.{◌≡◌, ◌⊎◌, ℕ, ◌+◌, ◌<◌, ◌≤◌, true, false, IsTrue, List, [], ◌∷◌, ◌++◌, fold, length, Option, Some, None, option_map}
use Rattle.std.specs.Option.{option_map_or}
use Rattle.cap_machine.specs.Steps.{Access}
use Rattle.cap_objects.specs.{declared.objects.Object.Object, Objects.{Share, top_of_extent}}
use Rattle.cap_ops.specs.declared.refusal.Refusal.TheVariants.{LimitPassed, WrongResult}
use Rattle.cap_run.specs.declared.{asks.Asks.Asks, ends.RunRefusal.RunRefusal}
use Rattle.cap_run.specs.declared.ends.RunRefusal.TheVariants.{NotOwned, OwnerFreed, StillHeld, Usual}
use Rattle.cap_run.specs.{Allowed.AreAllowed, Descents.access_of, Run.Run, RunChanges.line_after, RunChecks.line_end}
use Rattle.cap_run_log.specs.declared.lines.RunLine.{RunLine}
use Rattle.cap_run_log.specs.declared.lines.RunLine.TheVariants as lines

-- all that is asked by the first is asked by the second
pub record AsksNoMore (less more : Asks) : Type 0 where
  pub held : IsTrue less.held → IsTrue more.held
  pub used : IsTrue less.used → IsTrue more.used
  pub owned : IsTrue less.owned → IsTrue more.owned

-- how the checks after StillHeld may end
abbrev pub IsAfterHeld : Option RunRefusal → Type 0
IsAfterHeld None = Unit {0}
IsAfterHeld (Some (Usual LimitPassed)) = Unit {0}
IsAfterHeld end = ⊥

-- how the checks after NotOwned may end
abbrev pub IsAfterOwned : Option RunRefusal → Type 0
IsAfterOwned None = Unit {0}
IsAfterOwned (Some (Usual WrongResult)) = Unit {0}
IsAfterOwned (Some (Usual LimitPassed)) = Unit {0}
IsAfterOwned end = ⊥

-- how the checks after OwnerFreed may end
abbrev pub IsAfterUsed : Asks → Option RunRefusal → Type 0
IsAfterUsed asks (Some NotOwned) = IsTrue asks.owned
IsAfterUsed asks end = IsAfterOwned end

-- a line ends as without a check, or is refused by it where it would end so
abbrev pub EndsEarlier : RunRefusal → (Option RunRefusal → Type 0) → Option RunRefusal → Option RunRefusal → Type 0
EndsEarlier refusal IsAfter less more = (more ≡ less) ⊎ ((more ≡ Some refusal) × IsAfter less)

-- how a line ends with and without each check that is asked for
pub record EndsByChoice (asks : Asks) (run : Run) (line : RunLine) : Type 0 where
  pub held : EndsEarlier StillHeld IsAfterHeld (line_end (record asks { held = false }) run line) (line_end (record asks { held = true }) run line)
  pub used : EndsEarlier OwnerFreed (IsAfterUsed asks) (line_end (record asks { used = false }) run line) (line_end (record asks { used = true }) run line)
  pub owned : EndsEarlier NotOwned IsAfterOwned (line_end (record asks { owned = false }) run line) (line_end (record asks { owned = true }) run line)

-- why a line isn't allowed
abbrev pub line_refusal : Asks → Run → RunLine → Option RunRefusal
line_refusal asks run lines.Version = None
line_refusal asks run (lines.Mode mode) = None
line_refusal asks run line = line_end asks run line

-- the first of these lines that isn't allowed, by the number of those before it, and why
abbrev pub first_refused : Asks → Run → List RunLine → Option (ℕ × RunRefusal)
first_refused asks run [] = None
first_refused asks run (line ∷ rest) =
    option_map_or (λ refusal. Some (0, refusal)) (line_refusal asks run line)
    (option_map (λ first. (first.0 + 1, first.1)) (first_refused asks (line_after run line) rest))

-- no line is refused, or a later one, or this one by a later check
abbrev pub IsRefusedFrom : ℕ → (Option RunRefusal → Type 0) → Option (ℕ × RunRefusal) → Type 0
IsRefusedFrom number IsAfter None = Unit {0}
IsRefusedFrom number IsAfter (Some first) = (number < first.0) ⊎ ((number ≡ first.0) × IsAfter (Some first.1))

-- lines end as without a check, or are refused by it at a line from which on they would be refused
abbrev pub RefusedEarlier : RunRefusal → (Option RunRefusal → Type 0) → Option (ℕ × RunRefusal) → Option (ℕ × RunRefusal) → Type 0
RefusedEarlier refusal IsAfter less more =
    (more ≡ less) ⊎ ((number : ℕ) × (more ≡ Some (number, refusal)) × IsRefusedFrom number IsAfter less)

-- how lines end with and without each check that is asked for
pub record RefusedByChoice (asks : Asks) (run : Run) (read : List RunLine) : Type 0 where
  pub held : RefusedEarlier StillHeld IsAfterHeld (first_refused (record asks { held = false }) run read)
      (first_refused (record asks { held = true }) run read)
  pub used : RefusedEarlier OwnerFreed (IsAfterUsed asks) (first_refused (record asks { used = false }) run read)
      (first_refused (record asks { used = true }) run read)
  pub owned : RefusedEarlier NotOwned IsAfterOwned (first_refused (record asks { owned = false }) run read)
      (first_refused (record asks { owned = true }) run read)

-- an access that touches a byte of a live object goes through a capability that an object owns
abbrev pub IsOwnedAccess : Run → RunLine → Type 0
IsOwnedAccess run line =
    (access : Access) (number : ℕ) (object : Object) → access_of run line ≡ Some access → number ≤ run.count
    → run.objects number ≡ Some object → object.freed ≡ false
    → Share access.address (access.address + access.size) object.base (top_of_extent object)
    → (owner : ℕ) × (run.owners access.authority ≡ Some owner)

-- the refusals of lines as `first_refused` tells them: none where each is allowed, and that of the line after allowed ones
pub record IsFirstRefused (asks : Asks) (run : Run) (before after : List RunLine) (line : RunLine) : Type 0 where
  pub none : AreAllowed asks run before → first_refused asks run before ≡ None
  pub some : (refusal : RunRefusal) → AreAllowed asks run before → line_refusal asks (fold line_after run before) line ≡ Some refusal
      → first_refused asks run (before ++ line ∷ after) ≡ Some (length before, refusal)
