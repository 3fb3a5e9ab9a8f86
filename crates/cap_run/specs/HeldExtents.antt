-- Which `object` lines meet a freed object that a place holds (this profile's own).
use Rattle.std.specs.Prelude.{◌≡◌, ℕ, min, max, true, false, IsTrue, Option, Some, None, option_map}
use Rattle.cap_bounds.specs.Bounds.{base_of, top_of}
use Rattle.cap_objects.specs.{declared.objects.Object.Object, Objects.{Share, top_of_extent}}
use Rattle.cap_run.specs.declared.asks.Asks.{Asks}
use Rattle.cap_run.specs.declared.ends.RunRefusal.TheVariants.{StillHeld}
use Rattle.cap_run.specs.{Choices.IsAfterHeld, Run.Run, RunChecks.line_end}
use Rattle.cap_run_log.specs.declared.lines.{RunLine.RunLine}
use Rattle.cap_run_log.specs.declared.lines.RunLine.TheVariants as lines
use Rattle.cap_run_log.specs.declared.lines.RunStep.TheVariants as steps

-- the interval that an `object` line makes an extent, from its base to its top
abbrev pub extent_by : Run → RunLine → Option (ℕ × ℕ)
extent_by run (lines.Run (steps.Object register)) = let w = (run.state register).word.0 in Some (base_of w, top_of w)
extent_by run (lines.Run (steps.Widen register number)) =
    let w = (run.state register).word.0 in
    option_map (λ object. (min object.base (base_of w), max (top_of_extent object) (top_of w))) (run.objects number)
extent_by run line = None

-- an interval shares an address with the extent of an object that was freed, and that a place has as its owner
pub record MeetsHeld (run : Run) (interval : ℕ × ℕ) : Type 0 where
  pub number : ℕ
  pub object : Object
  pub there : run.objects number ≡ Some object
  pub freed : object.freed ≡ true
  pub holder : ℕ
  pub holds : run.owners holder ≡ Some number
  pub share : Share interval.0 interval.1 object.base (top_of_extent object)

-- a line is refused as StillHeld where that is asked, it makes an interval an extent, its checks before don't refuse it, and
-- the interval meets such an object; and nowhere else
pub record IsHeldExactly (asks : Asks) (run : Run) (line : RunLine) : Type 0 where
  pub refused : (interval : ℕ × ℕ) → IsTrue asks.held → extent_by run line ≡ Some interval
      → IsAfterHeld (line_end (record asks { held = false }) run line) → MeetsHeld run interval → line_end asks run line ≡ Some StillHeld
  pub only : line_end asks run line ≡ Some StillHeld
      → IsTrue asks.held × IsAfterHeld (line_end (record asks { held = false }) run line)
      × ((interval : ℕ × ℕ) × (extent_by run line ≡ Some interval) × MeetsHeld run interval)
