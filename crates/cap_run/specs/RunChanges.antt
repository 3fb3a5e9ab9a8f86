-- What each line makes of a run, where objects are told by their numbers (this profile's own).
use Rattle.std.specs.Prelude.{ℕ, ◌+◌, nat_lt, false, if◌then◌else◌, Option, Some, None, option_map, option_and_then}
use Rattle.cap_word.specs.declared.word.{Cap.Cap, Word.Word}
use Rattle.cap_bounds.specs.Bounds.{base_of, top_of}
use Rattle.cap_log.specs.declared.{kinds.Step.Step, lines.Mode.Mode, lines.Mode.TheVariants.{Strict, Clear}}
use Rattle.cap_machine.specs.declared.{limits.Limits.Limits, rules.Rules.{Rules, TheVariants.{TwoStrict, TwoClear}}}
use Rattle.cap_machine.specs.Accounts.{Account, naming, with_step}
use Rattle.cap_machine.specs.{Labels.untagged, Runs.parent_of, States.{State, granule_key, put, tagged, untagged_null}, Steps.row_of}
use Rattle.cap_objects.specs.{Counts.{Owners, owned_by}, declared.objects.Object.Object, Extents.Objects, Handed.{freed_in, handed_out, widened, with_held}}
use Rattle.cap_objects.specs.Indexes.{kept}
use Rattle.cap_run_log.specs.declared.lines.{RunPlace.RunPlace, RunRegister.TheVariants.Special, RunStep.RunStep}
use Rattle.cap_run_log.specs.declared.lines.RunLine.{RunLine}
use Rattle.cap_run_log.specs.declared.lines.RunLine.TheVariants as lines
use Rattle.cap_run_log.specs.declared.lines.RunPlace.TheVariants as places
use Rattle.cap_run_log.specs.declared.lines.RunStep.TheVariants as steps
use Rattle.cap_run.specs.{Harts.{came_from, harts_after, no_harts}, Owned.owner_for, Run.{Run, first_special, moment, register_key}, UsualSteps.disowned}

-- the key of a place
abbrev pub place_key : RunPlace → ℕ
place_key (places.General number) = number
place_key (places.Special number) = first_special + number
place_key (places.Granule number) = granule_key number

-- the granule that a place is
abbrev pub granule_in : RunPlace → Option ℕ
granule_in (places.Granule number) = Some number
granule_in place = None

-- what registers and granules hold, without special registers
abbrev pub main_of : State → State
main_of state key = if nat_lt key first_special then state key else untagged_null

-- an account that says nothing of origins
abbrev pub without_origins : Account → Account
without_origins account = record account { origin = λ key. None }

-- the account of a run, which the steps of version 2 see: no special register, no object
abbrev pub account_in : Run → Account
account_in run = record {
  rules = run.rules;
  limits = run.limits;
  state = main_of run.state;
  origin = λ key. None;
  roots = run.roots;
  steps = run.steps;
  is_named = run.is_named;
  granules = run.granules;
}

-- the present objects where places have these owners: those that are neither live nor held are gone
abbrev pub counted : Objects → Owners → Objects
counted objects owners number = option_and_then (λ object. kept (with_held object (owned_by owners number))) (objects number)

-- a run whose owners or objects a step changed, after that step
abbrev pub stepped : Run → Run
stepped run = record run { objects = counted run.objects run.owners; steps = run.steps + 1 }

-- a run in which a place has another owner, or none if what it holds has no tag or empty bounds
abbrev pub with_owner : Run → ℕ → Option ℕ → Run
with_owner run key owner = record run { owners = put run.owners key (owner_for (run.state key) owner) }

-- a run in which a place holds a capability with an owner
abbrev pub with_place : Run → ℕ → Cap → Option ℕ → Run
with_place run key cap owner = with_owner (record run { state = put run.state key cap }) key owner

-- a run in which a granule is named, or none
abbrev pub with_named : Run → Option ℕ → Run
with_named run granule = let named = naming (account_in run) granule in record run { is_named = named.is_named; granules = named.granules }

-- a run in which a number is that of this object
abbrev pub with_object : Run → ℕ → Option Object → Run
with_object run number object = record run { objects = put run.objects number object }

-- a run in which the object with a number was freed
abbrev pub with_freed : Run → Option ℕ → Run
with_freed run None = run
with_freed run (Some number) = stepped (with_object run number (option_map (freed_in (moment run)) (run.objects number)))

-- a run after a step that only runs have: what is written has the owner of the place that it is derived from
abbrev pub run_after : Run → RunStep → Run
run_after run (steps.Derive step) =
    stepped (with_place run (register_key step.target) step.result (run.owners (register_key step.source)))
run_after run (steps.Exchange step) =
    let key = register_key (Special step.special) in
    stepped (with_place (with_place run step.target step.result (run.owners key)) key step.special_result (run.owners step.source))
run_after run (steps.Invoke step) =
    stepped (with_place (with_place run first_special (tagged step.code_word) (run.owners step.code)) 31 (tagged step.datum_word) (run.owners step.datum))
run_after run (steps.Drop place) = stepped (with_place run (place_key place) (untagged (run.state (place_key place))) None)
run_after run (steps.Fill granule word) =
    stepped (with_place (with_named run (Some granule)) (granule_key granule) (record { tag = false; word = word }) None)
run_after run (steps.Object register) =
    let number = run.count + 1 in
    let w = (run.state register).word.0 in
    let object = handed_out number (moment run) (base_of w) (top_of w) in
    stepped (with_owner (record (with_object run number (Some object)) { count = number }) register (Some number))
run_after run (steps.Widen register number) =
    let w = (run.state register).word.0 in
    let object = option_map (λ o. widened o (base_of w) (top_of w)) (run.objects number) in
    stepped (with_owner (with_object run number object) register (Some number))
run_after run (steps.FreeOwner register) = with_freed run (run.owners register)
run_after run (steps.FreeNumber number) = with_freed run (Some number)

-- a run after a step of version 2: a place has the owner that its parent had, and a register that was written none if its
-- bounds are empty
abbrev pub usual_after : Run → Step → Run
usual_after run step =
    let old = account_in run in
    let new = with_step old step in
    let written = option_map (λ write. write.0) (row_of old.state step).writes in
    stepped (record run {
      state = λ key. if nat_lt key first_special then new.state key else run.state key;
      owners = disowned written new.state (λ key. option_and_then run.owners (parent_of old.state step new.state key));
      is_named = new.is_named;
      granules = new.granules;
    })

-- a run after one more root, which no object owns
abbrev pub root_after : Run → RunPlace → Word → Run
root_after run place word =
    record (with_named run (granule_in place)) { state = put run.state (place_key place) (tagged word); roots = run.roots + 1 }

-- a run after a hart line: what registers hold moves, with its owners
abbrev pub hart_after : Run → ℕ → Run
hart_after run hart = let from = came_from run.harts.current hart in record run {
  state = λ key. run.state (from key);
  owners = λ key. run.owners (from key);
  harts = harts_after run.harts hart;
}

-- the rules of a mode
abbrev pub rules_of : Mode → Rules
rules_of Strict = TwoStrict
rules_of Clear = TwoClear

-- a run after a line
abbrev pub line_after : Run → RunLine → Run
line_after run (lines.Mode mode) = record run { rules = rules_of mode }
line_after run (lines.Root place word) = root_after run place word
line_after run (lines.Hart hart) = hart_after run hart
line_after run (lines.Step step) = usual_after run step
line_after run (lines.Run step) = run_after run step
line_after run line = run

-- the limits of a run: as many roots, and as many distinct granules, as 32 bits can count
abbrev pub run_limits : Limits
run_limits = record { roots = 4294967295; granules = 4294967295 }

-- a run before any line: nothing has a tag, and no object was handed out
abbrev pub no_run : Run
no_run = record {
  state = λ key. untagged_null;
  owners = λ key. None;
  objects = λ number. None;
  count = 0;
  harts = no_harts;
  rules = TwoStrict;
  limits = run_limits;
  roots = 0;
  steps = 0;
  is_named = λ granule. false;
  granules = 0;
}
