-- The run that a machine's parts make up (this profile's own).
use Rattle.cap_machine.specs.{Helds.{Held, account_of, state_of}, Places.place_at, States.State}
use Rattle.cap_objects.specs.{declared.handouts.Handouts.Handouts, Counts.Owners, HandoutsIn.objects_of}
use Rattle.cap_run.specs.{declared.specials.Specials.Specials, Owned.object_by, Run.{Run, with_specials}, Specials.{cap_in, harts_in, label_in}}

abbrev pub run_state : Held → Specials → State
run_state held specials = with_specials (state_of held) (cap_in specials)

abbrev pub run_owners : Held → Specials → Owners
run_owners held specials =
    with_specials (λ key. object_by ((account_of held).origin key)) (λ number. object_by (place_at (label_in specials number)))

abbrev pub run_of : Held → Specials → Handouts → Run
run_of held specials handouts = let account = account_of held in record {
  state = run_state held specials;
  owners = run_owners held specials;
  objects = objects_of handouts;
  count = handouts.count;
  harts = harts_in specials;
  rules = account.rules;
  limits = account.limits;
  roots = account.roots;
  steps = account.steps;
  is_named = account.is_named;
  granules = account.granules;
}
