-- What a judge of run logs answers to C, in numbers (this profile's own, as are all below).
use Rattle.std.specs.Prelude.{◌≡◌, ℕ, ◌+◌, if◌then◌else◌, Option, None, Some}
use Rattle.cap_objects.specs.{Moments.line_at, declared.objects.Object.Object, Objects.top_of_extent}
use Rattle.cap_halves.specs.Passed.{is_set, whole_of}
use Rattle.cap_run.specs.declared.asks.Asks.{Asks}
use Rattle.cap_run_judge.specs.{declared.verdict.RunVerdict.{RunVerdict, TheVariants.{Yes, No}}, VerdictLines.run_refusal_number}
use Rattle.capcheck_judge.specs.declared.run_answers.{PassedAsks.PassedAsks, PassedObject.PassedObject, RunAnswer.RunAnswer}

-- what C asks
abbrev pub asks_passed : PassedAsks → Asks
asks_passed asks = record { held = is_set asks.held; used = is_set asks.used; owned = is_set asks.owned }

-- an answer without a verdict: only its state
abbrev pub run_without_verdict : ℕ → RunAnswer
run_without_verdict state_is = record { line = 0; steps = 0; roots = 0; objects = 0; state = state_is; refusal = 0 }

-- a verdict in numbers: the state 1 is a yes, 2 a no
abbrev pub run_numbers_of : RunVerdict → RunAnswer
run_numbers_of (Yes step_count root_count object_count) =
    record { line = 0; steps = step_count; roots = root_count; objects = object_count; state = 1; refusal = 0 }
run_numbers_of (No number why) =
    record { line = number; steps = 0; roots = 0; objects = 0; state = 2; refusal = run_refusal_number why }

-- an object in numbers, of a log with so many roots: its extent, how many places it owns, the line that handed it out, and
-- whether it is live, 1, or was freed, 2; and all 0 where there is none
abbrev pub IsObjectTold : ℕ → Option Object → PassedObject → Type 0
IsObjectTold roots (Some object) told =
    (told.base ≡ object.base) × (whole_of told.top ≡ top_of_extent object) × (told.held ≡ object.held)
    × (told.line ≡ line_at roots object.handed_at) × (told.state ≡ (if object.freed then 2 else 1))
IsObjectTold roots None told =
    (told.base ≡ 0) × (whole_of told.top ≡ 0) × (told.held ≡ 0) × (told.line ≡ 0) × (told.state ≡ 0)
