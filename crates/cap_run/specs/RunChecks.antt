-- Why each line of a run is refused, where objects are told by their numbers: by the first of its checks that fails (this
-- profile's own).
use Rattle.std.specs.Prelude.{◌≡◌, ℕ, ◌+◌, ◌==◌, ◌&&◌, ◌||◌, not, min, max, nat_le, nat_lt, Bool, true, false, if◌then◌else◌, is_none, List, [], ◌∷◌, ◌++◌, map, Option, Some, None}
use Rattle.std.specs.{Prelude.{IsTrue, Result, Ok, Err}, Option.option_map_or}
use Rattle.cap_word.specs.declared.word.{Word.Word}
use Rattle.cap_bounds.specs.Bounds.{base_of, is_sound, top_of}
use Rattle.cap_ops.specs.declared.refusal.Refusal.{TheVariants.{LimitPassed, Misplaced, PlaceTaken, UnsoundRoot, WrongCount, WrongResult}}
use Rattle.cap_ops.specs.Checks.{first_of}
use Rattle.cap_log.specs.declared.kinds.Step.{Step}
use Rattle.cap_machine.specs.Accounts.{is_new, most_steps, named_by, passes_granule_limit, row_in}
use Rattle.cap_machine.specs.Steps.{Access, agrees}
use Rattle.cap_objects.specs.{Counts.{count_below, is_owner}, declared.objects.Object.Object, Objects.top_of_extent}
use Rattle.cap_run_log.specs.declared.lines.{RunLine.RunLine, RunPlace.RunPlace, RunStep.RunStep}
use Rattle.cap_run_log.specs.declared.lines.RunLine.TheVariants as lines
use Rattle.cap_run_log.specs.declared.lines.RunStep.TheVariants as steps
use Rattle.cap_run.specs.declared.{asks.Asks.Asks, ends.{RunEnd.RunEnd, RunRefusal.RunRefusal}}
use Rattle.cap_machine.specs.declared.ends.StepEnd.{StepEnd}
use Rattle.cap_machine.specs.declared.ends.StepEnd.TheVariants as step_ends
use Rattle.cap_run.specs.declared.ends.RunEnd.TheVariants as ends
use Rattle.cap_run.specs.declared.ends.RunRefusal.TheVariants.{AlreadyFreed, NoCapability, NoObject, NoOwner, NotOwned, Overlaps, OwnerFreed, StillHeld, Usual}
use Rattle.cap_run.specs.{ObjectSteps.object_refusal, Run.Run, RunChanges.{account_in, granule_in, place_key}}
use Rattle.cap_run.specs.RunSteps.{derive_end, exchange_end, invoke_end, or_later, step_limit}

-- whether an interval shares an address with an object's extent: the greater base is below the lesser top
abbrev pub shares : ℕ → ℕ → Object → Bool
shares base top object = nat_lt (max base object.base) (min top (top_of_extent object))

-- whether it does so with the extent of an object of which this holds, but not of the one that is left out
abbrev pub meets : Run → Option ℕ → (Object → Bool) → ℕ → ℕ → Bool
meets run left_out asked base top =
    nat_lt 0 (
    count_below (λ number. not (is_owner number left_out)
    && option_map_or (λ object. asked object && shares base top object) (run.objects number) false) (run.count + 1)
    )

abbrev pub is_live : Object → Bool
is_live object = not object.freed

abbrev pub is_freed : Object → Bool
is_freed object = object.freed

-- why an interval can't be an extent: it shares an address with that of a live object; or with that of a freed one that a
-- place holds
abbrev pub extent_end : Asks → Run → Option ℕ → ℕ → ℕ → Option RunRefusal
extent_end asks run left_out base top =
    first_of ((meets run left_out is_live base top, Overlaps) ∷ (asks.held && meets run left_out is_freed base top, StillHeld) ∷ [])

-- why a number is that of no live object
abbrev pub number_end : Run → ℕ → Option RunRefusal
number_end run number =
    first_of (
    (not (nat_lt 0 number && nat_le number run.count), NoObject)
    ∷ (not (option_map_or is_live (run.objects number) false), AlreadyFreed)
    ∷ []
    )

-- why `object cN` is refused
abbrev pub object_end : Asks → Run → ℕ → Option RunRefusal
object_end asks run register =
    let w = (run.state register).word.0 in
    or_later (object_refusal run register) (or_later (extent_end asks run None (base_of w) (top_of w)) (step_limit run))

-- why an object's extent can't grow by the bounds of a word
abbrev pub growth_end : Asks → Run → ℕ → ℕ → Object → Option RunRefusal
growth_end asks run number w object =
    extent_end asks run (Some number) (min object.base (base_of w)) (max (top_of_extent object) (top_of w))

-- why `object cN K` is refused
abbrev pub widen_end : Asks → Run → ℕ → ℕ → Option RunRefusal
widen_end asks run register number =
    let w = (run.state register).word.0 in
    or_later (object_refusal run register) (
    or_later (number_end run number) (or_later (option_map_or (growth_end asks run number w) (run.objects number) None) (step_limit run))
    )

-- why `free cN` is refused
abbrev pub owner_end : Run → ℕ → Option RunRefusal
owner_end run register =
    if (run.state register).tag then or_later (option_map_or (number_end run) (run.owners register) (Some NoOwner)) (step_limit run) else Some NoCapability

-- whether one step more, which names this granule or none, passes a limit
abbrev pub passes_limit : Run → Option ℕ → Bool
passes_limit run granule = nat_le most_steps run.steps || passes_granule_limit (account_in run) granule

-- why a step that only runs have is refused
abbrev pub run_end : Asks → Run → RunStep → Option RunRefusal
run_end asks run (steps.Derive step) = derive_end run step
run_end asks run (steps.Exchange step) = exchange_end run step
run_end asks run (steps.Invoke step) = invoke_end run step
run_end asks run (steps.Drop place) = step_limit run
run_end asks run (steps.Fill granule word) = first_of ((passes_limit run (Some granule), Usual LimitPassed) ∷ [])
run_end asks run (steps.Object register) = object_end asks run register
run_end asks run (steps.Widen register number) = widen_end asks run register number
run_end asks run (steps.FreeOwner register) = owner_end run register
run_end asks run (steps.FreeNumber number) = or_later (number_end run number) (step_limit run)

-- whether a freed object owns the authority of an access
abbrev pub uses_freed : Run → Access → Bool
uses_freed run access =
    option_map_or (λ number. not (option_map_or is_live (run.objects number) false)) (run.owners access.authority) false

-- whether an access through an authority without owner touches a byte of a live object
abbrev pub is_unowned : Run → Access → Bool
is_unowned run access =
    is_none (run.owners access.authority) && meets run None is_live access.address (access.address + access.size)

-- the checks of what is asked of an access, after its own
abbrev pub asked_checks : Asks → Run → Option Access → List (Bool × RunRefusal)
asked_checks asks run access =
    (asks.used && option_map_or (uses_freed run) access false, OwnerFreed)
    ∷ (asks.owned && option_map_or (is_unowned run) access false, NotOwned) ∷ []

-- why a step of version 2 is refused: its row's checks; what is asked of its access; the recorded result; the limits
abbrev pub usual_end : Asks → Run → Step → Option RunRefusal
usual_end asks run step =
    let row = row_in (account_in run) step in
    first_of (
    map (λ check. (check.0, Usual check.1)) row.checks
    ++ asked_checks asks run row.access
    ++ (not (agrees row.writes row.records), Usual WrongResult)
    ∷ (passes_limit run (named_by row), Usual LimitPassed) ∷ []
    )

-- why a root is refused
abbrev pub root_end : Run → RunPlace → Word → Option RunRefusal
root_end run place word =
    first_of (
    (nat_lt 0 run.steps, Usual Misplaced)
    ∷ ((run.state (place_key place)).tag, Usual PlaceTaken)
    ∷ (not (is_sound word.0), Usual UnsoundRoot)
    ∷ (nat_le run.limits.roots run.roots || passes_granule_limit (account_in run) (granule_in place), Usual LimitPassed)
    ∷ []
    )

-- as many hart lines as 32 bits can count
abbrev pub most_hart_lines : ℕ
most_hart_lines = 4294967295

-- why a hart line is refused
abbrev pub hart_end : Run → Option RunRefusal
hart_end run = if nat_le most_hart_lines run.harts.lines then Some (Usual LimitPassed) else None

-- why a line is refused where the header was read, and the end line wasn't
abbrev pub line_end : Asks → Run → RunLine → Option RunRefusal
line_end asks run (lines.Root place word) = root_end run place word
line_end asks run (lines.Hart hart) = hart_end run
line_end asks run (lines.Step step) = usual_end asks run step
line_end asks run (lines.Run step) = run_end asks run step
line_end asks run (lines.End count) = if count == run.steps then None else Some (Usual WrongCount)
line_end asks run line = Some (Usual Misplaced)

-- how a step ends in a run that ends so in the machine without objects
abbrev pub usual_ended : StepEnd → RunEnd
usual_ended (step_ends.Refused refusal) = ends.Refused (Usual refusal)
usual_ended step_ends.NoMemory = ends.NoMemory

-- whether a step that only runs have may want memory: for an object, or for a granule that is named for the first time
abbrev pub run_wants : Run → RunStep → Bool
run_wants run (steps.Object register) = true
run_wants run (steps.Widen register number) = true
run_wants run (steps.Fill granule word) = is_new (account_in run) (Some granule)
run_wants run step = false

-- whether a step of version 2 does
abbrev pub usual_wants : Run → Step → Bool
usual_wants run step = is_new (account_in run) (named_by (row_in (account_in run) step))

-- whether a root does
abbrev pub root_wants : Run → RunPlace → Bool
root_wants run place = is_new (account_in run) (granule_in place)

-- whether a hart line does: for the registers of a hart that is named for the first time
abbrev pub hart_wants : Run → ℕ → Bool
hart_wants run hart = not (run.harts.is_named hart)

-- whether a line may want memory
abbrev pub line_wants : Run → RunLine → Bool
line_wants run (lines.Root place word) = root_wants run place
line_wants run (lines.Hart hart) = hart_wants run hart
line_wants run (lines.Step step) = usual_wants run step
line_wants run (lines.Run step) = run_wants run step
line_wants run line = false

-- the answer to a line that ends so, leads to this, and may want memory: after an error nothing has changed
abbrev pub Answers : Option RunRefusal → Run → Bool → Run → Result (Unit {0}) RunEnd → Run → Type 0
Answers end after wants old (Ok done) new = (end ≡ None) × (new ≡ after)
Answers end after wants old (Err (ends.Refused refusal)) new = (end ≡ Some refusal) × (new ≡ old)
Answers end after wants old (Err ends.NoMemory) new = (end ≡ None) × IsTrue wants × (new ≡ old)
