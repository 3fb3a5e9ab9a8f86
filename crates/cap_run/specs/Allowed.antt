-- Which lines of a run are allowed, and what one of them leaves of authority (this profile's own).
use Rattle.std.specs.Prelude.{◌≡◌, ◌⊎◌, ℕ, IsTrue, List, [], ◌∷◌, Some, None}
use Rattle.cap_word.specs.declared.word.Word.{Word}
use Rattle.cap_bounds.specs.Bounds.{IsSound}
use Rattle.cap_ops.specs.Authority.{ReachesNoMore}
use Rattle.cap_machine.specs.States.{tagged}
use Rattle.cap_run_log.specs.declared.lines.{RunLine.RunLine, RunPlace.RunPlace}
use Rattle.cap_run_log.specs.declared.lines.RunLine.TheVariants as lines
use Rattle.cap_run_log.specs.RunLines.{IsRunLineInRange}
use Rattle.cap_run.specs.{declared.asks.Asks.Asks, Descents.{DescendsFrom, line_parent}, Run.Run}
use Rattle.cap_run.specs.{RunChanges.{line_after, place_key}, RunChecks.line_end}

-- a line is allowed in a run: none of its checks fails. The lines of a header have none here
abbrev pub IsLineAllowed : Asks → Run → RunLine → Type 0
IsLineAllowed asks run lines.Version = Unit {0}
IsLineAllowed asks run (lines.Mode mode) = Unit {0}
IsLineAllowed asks run line = line_end asks run line ≡ None

-- the numbers of each of these lines are in range, and each is allowed in what the lines before it lead to
abbrev pub AreAllowed : Asks → Run → List RunLine → Type 0
AreAllowed asks run [] = Unit {0}
AreAllowed asks run (line ∷ rest) = IsRunLineInRange line × IsLineAllowed asks run line × AreAllowed asks (line_after run line) rest

-- what a place holds after a line comes from what another, or the same, held before it: that was tagged, and the new
-- word is sound, with bounds inside and permissions among those of the old one
pub record LineComesFrom (run : Run) (line : RunLine) (key from : ℕ) : Type 0 where
  pub parent : line_parent run line key ≡ Some from
  pub tag : IsTrue (run.state from).tag
  pub no_more : ReachesNoMore ((line_after run line).state key).word.0 (run.state from).word.0
  pub sound : IsSound ((line_after run line).state key).word.0

-- a line declares a root at a place, which then holds its word, tagged and sound
pub record DeclaresAt (run : Run) (line : RunLine) (key : ℕ) : Type 0 where
  pub place : RunPlace
  pub word : Word
  pub line_is : line ≡ lines.Root place word
  pub there : key ≡ place_key place
  pub holds : (line_after run line).state key ≡ tagged word
  pub sound : IsSound word.0

-- each place that is tagged after a line is a root that the line declares, or comes so from one before it
abbrev pub LineStaysWithin : Run → RunLine → Type 0
LineStaysWithin run line =
    (key : ℕ) → IsTrue ((line_after run line).state key).tag → DeclaresAt run line key ⊎ ((from : ℕ) × LineComesFrom run line key from)

-- a place descends from one root at most: what it descends from was declared by one line
abbrev pub DescendsFromOne : List RunLine → Type 0
DescendsFromOne read =
    (key : ℕ) (place other : RunPlace) (word another : Word) (one : DescendsFrom read key place word) (two : DescendsFrom read key other another)
    → (one.before ≡ two.before) × (place ≡ other) × (word ≡ another)
