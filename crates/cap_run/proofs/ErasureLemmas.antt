-- Lines are allowed without those of objects, and lead to the same run without objects.
use Rattle.std.proofs.Common.{◌≡◌, ◌==◌, ◌&&◌, ◌||◌, ◌+◌, ◌-◌, ◌≤◌, ◌++◌, ◌∷◌, [], ℕ, Bool, true, false, not, nat_lt, nat_le, if◌then◌else◌, List, map, Option, Some, None, option_and_then, refl, sym, ap, subst, ◌∙◌, arith, inl, inr, eq-eqb, eqb-true, le-ltb, le-leb, leb-true}
use Rattle.std.proofs.Math.Path.{fun_ext}
use Rattle.std.proofs.lemmas.{Bool.{cases_Bool, false≢true, ltb-false}, Option.none-some}
use Rattle.std.specs.Option.{option_map_or}
use Rattle.cap_word.specs.declared.word.{Word.Word}
use Rattle.cap_bounds.specs.Bounds.{is_sound}
use Rattle.cap_ops.specs.{Checks.first_of, declared.refusal.Refusal.{Refusal, TheVariants.{LimitPassed, Misplaced, PlaceTaken, UnsoundRoot, WrongCount, WrongResult}}}
use Rattle.cap_ops.proofs.TestLemmas.{first_of-append_free, first_of-append_none, none_hold}
use Rattle.cap_log.specs.declared.{kinds.Step.Step, lines.Place.{Place, TheVariants.{Register, Granule}}}
use Rattle.cap_machine.specs.declared.limits.Limits.{Limits}
use Rattle.cap_machine.specs.Accounts.{Account, most_steps, named_by, naming, passes_granule_limit, row_in, with_step}
use Rattle.cap_machine.specs.{declared.rules.Rules.Rules, Runs.parent_of, States.{State, put}}
use Rattle.cap_machine.specs.Steps.{Access, agrees}
use Rattle.cap_objects.specs.{Counts.Owners, Extents.Objects}
use Rattle.cap_run_log.specs.declared.lines.{RunLine.RunLine, RunPlace.RunPlace, RunStep.RunStep}
use Rattle.cap_run_log.specs.declared.lines.RunLine.TheVariants as lines
use Rattle.cap_run_log.specs.declared.lines.RunPlace.TheVariants as places
use Rattle.cap_run_log.specs.declared.lines.RunStep.TheVariants as steps
use Rattle.cap_run_log.specs.RunLines.{IsRunLineInRange}
use Rattle.cap_run.specs.declared.{asks.Asks.Asks, ends.RunRefusal.RunRefusal}
use Rattle.cap_run.specs.declared.ends.RunRefusal.TheVariants.{NoCapability, NoOwner, NotOwned, OwnerFreed, Usual}
use Rattle.cap_run.specs.{Allowed.{AreAllowed, IsLineAllowed}, Descents.run_along, Erasure.{AllowsErased, erased_after, is_of_objects, object_lines}}
use Rattle.cap_run.specs.{Harts.Harts, Owned.owner_for, Run.Run, UsualSteps.disowned}
use Rattle.cap_run.specs.RunChanges.{account_in, granule_in, hart_after, line_after, no_run, place_key, root_after, run_after, usual_after, with_freed}
use Rattle.cap_run.specs.{RunChecks.{asked_checks, is_live, meets, number_end, passes_limit, root_end, run_end, usual_end}, RunSteps.{or_later, step_limit}}
use Rattle.cap_run.proofs.{ChoiceLemmas.last_checks, DescentLemmas.{along, along-fold}, MeetingLemmas.meets-which}

-- a run without objects, with so many steps
abbrev bare : Run → ℕ → Run
bare run steps_are = record run { owners = λ key. None; objects = λ number. None; count = 0; steps = steps_are }

no_owner : (owns : Bool) (owner : Option ℕ) → owner ≡ None → (if owns then owner else None) ≡ None
no_owner true owner none = none
no_owner false owner none = refl

put_none : (owners : Owners) (key : ℕ) (owner : Option ℕ) → ((other : ℕ) → owners other ≡ None) → owner ≡ None
    → (other : ℕ) → put owners key owner other ≡ None
put_none owners key owner none is other = elim (cases_Bool (key == other)) [
  | inl here ↦ ap (λ (b : Bool). if b then owner else owners other) here ∙ is
  | inr away ↦ ap (λ (b : Bool). if b then owner else owners other) away ∙ none other
]

pub disowned_none : (written : Option Place) (state : State) (owners : Owners) → ((key : ℕ) → owners key ≡ None)
    → (key : ℕ) → disowned written state owners key ≡ None
disowned_none None state owners none key = none key
disowned_none (Some (Granule granule)) state owners none key = none key
disowned_none (Some (Register number)) state owners none key =
    put_none owners number (owner_for (state number) (owners number)) none
    (no_owner _ (owners number) (none number)) key

pub then_none : (owners : Owners) (parent : Option ℕ) → ((key : ℕ) → owners key ≡ None) → option_and_then owners parent ≡ None
then_none owners None none = refl
then_none owners (Some key) none = none key

-- a limit that isn't passed isn't passed with fewer steps
few_steps : (steps_are many : ℕ) → steps_are ≤ many → nat_le most_steps many ≡ false → nat_le most_steps steps_are ≡ false
few_steps steps_are many less free = elim (cases_Bool (nat_le most_steps steps_are)) [
  | inl full ↦ absurd (false≢true (sym free ∙ le-leb most_steps many (let past = leb-true most_steps steps_are full in omega (arith, past, less))))
  | inr few ↦ few
]

module _ (run : Run) (steps_are : ℕ) (less : steps_are ≤ run.steps) where
  limit_bare : step_limit run ≡ None → step_limit (bare run steps_are) ≡ None
  limit_bare free = elim (cases_Bool (nat_le most_steps run.steps)) [
    | inl full ↦ absurd (none-some _ (sym free ∙ ap (λ (b : Bool). if b then Some (Usual LimitPassed) else None) full))
    | inr few ↦ ap (λ (b : Bool). if b then Some (Usual LimitPassed) else None) (few_steps steps_are run.steps less few)
  ]

  later_bare : (first : Option RunRefusal) → or_later first (step_limit run) ≡ None → or_later first (step_limit (bare run steps_are)) ≡ None
  later_bare None free = limit_bare free
  later_bare (Some refusal) free = free

  twice_bare : (first second : Option RunRefusal) → or_later first (or_later second (step_limit run)) ≡ None
      → or_later first (or_later second (step_limit (bare run steps_are))) ≡ None
  twice_bare None second free = later_bare second free
  twice_bare (Some refusal) second free = free

  passes_bare : (granule : Option ℕ) → passes_limit run granule ≡ false → passes_limit (bare run steps_are) granule ≡ false
  passes_bare granule free = elim (cases_Bool (nat_le most_steps run.steps)) [
    | inl full ↦ absurd (false≢true (sym free ∙ ap (λ (b : Bool). b || passes_granule_limit (account_in run) granule) full))
    | inr few ↦
        ap (λ (b : Bool). b || passes_granule_limit (account_in run) granule) (few_steps steps_are run.steps less few)
        ∙ sym (ap (λ (b : Bool). b || passes_granule_limit (account_in run) granule) few) ∙ free
  ]

-- no object meets anything
meets_nothing : (run : Run) (steps_are : ℕ) (asked : _) (base top : ℕ) → meets (bare run steps_are) None asked base top ≡ false
meets_nothing run steps_are asked base top = elim (cases_Bool (meets (bare run steps_are) None asked base top)) [
  | inl some ↦ let met = meets-which (bare run steps_are) None asked base top some in absurd (none-some met.1 met.2.there)
  | inr none ↦ none
]

-- a check that passes, and those after it
first_free : (test : Bool) (refusal : RunRefusal) (checks : List (Bool × RunRefusal)) → test ≡ false → first_of checks ≡ None
    → first_of ((test, refusal) ∷ checks) ≡ None
first_free test refusal checks passes free = ap (λ (b : Bool). if b then Some refusal else first_of checks) passes ∙ free

pub and_none : (b c : Bool) → c ≡ false → (b && c) ≡ false
and_none true c is = is
and_none false c is = refl

-- nothing that is asked of accesses refuses one
asked_nothing : (asks : Asks) (run : Run) (steps_are : ℕ) (access : Option Access) → first_of (asked_checks asks (bare run steps_are) access) ≡ None
asked_nothing asks run steps_are None =
    let last : List (Bool × RunRefusal) = [] in
    let second : List (Bool × RunRefusal) = (asks.owned && false, NotOwned) ∷ last in
    first_free (asks.used && false) OwnerFreed second (and_none asks.used false refl)
    (first_free (asks.owned && false) NotOwned last (and_none asks.owned false refl) refl)
asked_nothing asks run steps_are (Some access) =
    let last : List (Bool × RunRefusal) = [] in
    let met = meets (bare run steps_are) None is_live access.address (access.address + access.size) in
    let second : List (Bool × RunRefusal) = (asks.owned && met, NotOwned) ∷ last in
    first_free (asks.used && false) OwnerFreed second (and_none asks.used false refl)
    (first_free (asks.owned && met) NotOwned last
    (and_none asks.owned met (meets_nothing run steps_are is_live access.address (access.address + access.size))) refl)

root_bare : (run : Run) (steps_are : ℕ) (place : RunPlace) (word : Word) → steps_are ≤ run.steps → root_end run place word ≡ None
    → root_end (bare run steps_are) place word ≡ None
root_bare run steps_are place word less free =
    let limit = nat_le run.limits.roots run.roots || passes_granule_limit (account_in run) (granule_in place) in
    let rest : List (Bool × RunRefusal) =
    ((run.state (place_key place)).tag, Usual PlaceTaken) ∷ (not (is_sound word.0), Usual UnsoundRoot) ∷ (limit, Usual LimitPassed) ∷ [] in
    let first = (none_hold ((nat_lt 0 run.steps, Usual Misplaced) ∷ rest) free).0 in
    let none = ltb-false 0 run.steps first in
    first_free (nat_lt 0 steps_are) (Usual Misplaced) rest (le-ltb 0 steps_are (omega (arith, none, less)))
    (sym (ap (λ (b : Bool). if b then Some (Usual Misplaced) else first_of rest) first) ∙ free)

usual_bare : (asks other : Asks) (run : Run) (steps_are : ℕ) (step : Step) → steps_are ≤ run.steps → usual_end asks run step ≡ None
    → usual_end other (bare run steps_are) step ≡ None
usual_bare asks other run steps_are step less free =
    let row = row_in (account_in run) step in
    let own : List (Bool × RunRefusal) = map (λ (check : Bool × Refusal). (check.0, Usual check.1)) row.checks in
    let wrong = not (agrees row.writes row.records) in
    let split = first_of-append_free (own ++ asked_checks asks run row.access) (last_checks run step) free in
    let own_free = (first_of-append_free own (asked_checks asks run row.access) split.0).0 in
    let last = none_hold (last_checks run step) split.1 in
    let limit : List (Bool × RunRefusal) = (passes_limit (bare run steps_are) (named_by row), Usual LimitPassed) ∷ [] in
    let none : List (Bool × RunRefusal) = [] in
    let last_free = first_free wrong (Usual WrongResult) limit last.0
    (first_free (passes_limit (bare run steps_are) (named_by row)) (Usual LimitPassed) none (passes_bare run steps_are less (named_by row) last.1.0) refl) in
    let before = first_of-append_none own (asked_checks other (bare run steps_are) row.access) own_free ∙ asked_nothing other run steps_are row.access in
    first_of-append_none (own ++ asked_checks other (bare run steps_are) row.access) ((wrong, Usual WrongResult) ∷ limit) before ∙ last_free

run_bare : (asks other : Asks) (run : Run) (steps_are : ℕ) (step : RunStep) → is_of_objects step ≡ false → steps_are ≤ run.steps
    → run_end asks run step ≡ None → run_end other (bare run steps_are) step ≡ None
run_bare asks other run steps_are (steps.Derive step) plain less free = later_bare run steps_are less _ free
run_bare asks other run steps_are (steps.Exchange step) plain less free =
    twice_bare run steps_are less _ _ free
run_bare asks other run steps_are (steps.Invoke step) plain less free = later_bare run steps_are less _ free
run_bare asks other run steps_are (steps.Drop place) plain less free = limit_bare run steps_are less free
run_bare asks other run steps_are (steps.Fill granule word) plain less free =
    let none : List (Bool × RunRefusal) = [] in
    first_free (passes_limit (bare run steps_are) (Some granule)) (Usual LimitPassed) none
    (passes_bare run steps_are less (Some granule) (none_hold ((passes_limit run (Some granule), Usual LimitPassed) ∷ none) free).0) refl
run_bare asks other run steps_are step plain less free = absurd (false≢true (sym plain))

-- two runs of the same parts
abbrev run_with : State → Owners → Objects → ℕ → Harts → Rules → Limits → ℕ → ℕ → (ℕ → Bool) → ℕ → Run
run_with state_is owners_are objects_are count_is harts_are rules_are limits_are roots_are steps_are named granules_are = record {
  state = state_is;
  owners = owners_are;
  objects = objects_are;
  count = count_is;
  harts = harts_are;
  rules = rules_are;
  limits = limits_are;
  roots = roots_are;
  steps = steps_are;
  is_named = named;
  granules = granules_are;
}

-- a run is one without objects
as_bare : (run other : Run) (steps_are : ℕ) → other.state ≡ run.state → ((key : ℕ) → other.owners key ≡ None)
    → ((number : ℕ) → other.objects number ≡ None) → other.count ≡ 0 → other.rules ≡ run.rules → other.limits ≡ run.limits → other.roots ≡ run.roots
    → other.steps ≡ steps_are → other.is_named ≡ run.is_named → other.granules ≡ run.granules → other.harts ≡ run.harts → other ≡ bare run steps_are
as_bare run other steps_are state owners objects count rules limits roots steps_is named granules harts =
    let no_owners : other.owners ≡ (λ (key : ℕ). None) = fun_ext owners in
    let no_objects : other.objects ≡ (λ (number : ℕ). None) = fun_ext objects in
    let whole : run_with other.state other.owners other.objects other.count other.harts other.rules other.limits other.roots other.steps other.is_named other.granules
    ≡ run_with run.state (λ key. None) (λ number. None) 0 run.harts run.rules run.limits run.roots steps_are run.is_named run.granules = cc in
    whole

-- what a step that isn't of objects makes of a run without them
after_run : (run : Run) (steps_are : ℕ) (step : RunStep) → is_of_objects step ≡ false
    → run_after (bare run steps_are) step ≡ bare (run_after run step) (steps_are + 1)
after_run run steps_are (steps.Derive step) plain =
    as_bare (run_after run (steps.Derive step)) _ (steps_are + 1) refl (put_none _ _ _ (λ key. refl) (no_owner _ None refl)) (λ number. refl) refl refl refl refl refl refl refl refl
after_run run steps_are (steps.Exchange step) plain =
    as_bare (run_after run (steps.Exchange step)) _ (steps_are + 1) refl (put_none _ _ _ (put_none _ _ _ (λ key. refl) (no_owner _ None refl)) (no_owner _ None refl)) (λ number. refl) refl refl refl refl
    refl refl refl refl
after_run run steps_are (steps.Invoke step) plain =
    as_bare (run_after run (steps.Invoke step)) _ (steps_are + 1) refl (put_none _ _ _ (put_none _ _ _ (λ key. refl) (no_owner _ None refl)) (no_owner _ None refl)) (λ number. refl) refl refl refl refl
    refl refl refl refl
after_run run steps_are (steps.Drop place) plain =
    as_bare (run_after run (steps.Drop place)) _ (steps_are + 1) refl (put_none _ _ _ (λ key. refl) (no_owner _ None refl)) (λ number. refl) refl refl refl refl refl refl refl refl
after_run run steps_are (steps.Fill granule word) plain =
    as_bare (run_after run (steps.Fill granule word)) _ (steps_are + 1) refl (put_none _ _ _ (λ key. refl) (no_owner _ None refl)) (λ number. refl) refl refl refl refl refl refl refl refl
after_run run steps_are step plain = absurd (false≢true (sym plain))

-- naming a granule sees of an account which ones were named
naming_named : (one two : Account) (granule : Option ℕ) → one.is_named ≡ two.is_named → (naming one granule).is_named ≡ (naming two granule).is_named
naming_named one two None same = same
naming_named one two (Some granule) same = ap {B = ℕ → Bool} (λ (named : ℕ → Bool) (other : ℕ). granule == other || named other) same

naming_granules : (one two : Account) (granule : Option ℕ) → one.is_named ≡ two.is_named → one.granules ≡ two.granules
    → (naming one granule).granules ≡ (naming two granule).granules
naming_granules one two None same as_many = as_many
naming_granules one two (Some granule) same as_many =
    ap (λ (named : ℕ → Bool). if named granule then one.granules else one.granules + 1) same
    ∙ ap (λ (count : ℕ). if two.is_named granule then count else count + 1) as_many

after_usual : (run : Run) (steps_are : ℕ) (step : Step) → usual_after (bare run steps_are) step ≡ bare (usual_after run step) (steps_are + 1)
after_usual run steps_are step =
    let other = bare run steps_are in
    let old = account_in other in
    let row = row_in old step in
    as_bare (usual_after run step) (usual_after other step) (steps_are + 1) refl
    (disowned_none _ _ _ (λ key. then_none other.owners (parent_of old.state step (with_step old step).state key) (λ k. refl)))
    (λ number. refl) refl refl refl refl refl (naming_named (account_in other) (account_in run) (named_by row) refl)
    (naming_granules (account_in other) (account_in run) (named_by row) refl refl) refl

after_root : (run : Run) (steps_are : ℕ) (place : RunPlace) (word : Word)
    → root_after (bare run steps_are) place word ≡ bare (root_after run place word) steps_are
after_root run steps_are (places.General number) word = refl
after_root run steps_are (places.Special number) word = refl
after_root run steps_are (places.Granule number) word = refl

-- what an allowed step of objects leaves of a run without them
freed_bare : (run : Run) (owner : Option ℕ) (steps_are : ℕ) → bare (with_freed run owner) steps_are ≡ bare run steps_are
freed_bare run None steps_are = refl
freed_bare run (Some number) steps_are = refl

named_owner : (tag : Bool) (owner : Option ℕ) (end : ℕ → Option RunRefusal) (limit : Option RunRefusal)
    → (if tag then or_later (option_map_or end owner (Some NoOwner)) limit else Some NoCapability) ≡ None → (number : ℕ) × (owner ≡ Some number)
named_owner false owner end limit free = absurd (none-some NoCapability (sym free))
named_owner true None end limit free = absurd (none-some NoOwner (sym free))
named_owner true (Some number) end limit free = (number, refl)

object_step : (asks : Asks) (run : Run) (steps_are : ℕ) (step : RunStep) → is_of_objects step ≡ true → run_end asks run step ≡ None
    → (bare (run_after run step) steps_are ≡ bare run steps_are) × ((run_after run step).steps ≡ run.steps + 1)
object_step asks run steps_are (steps.Object register) of free = (refl, refl)
object_step asks run steps_are (steps.Widen register number) of free = (refl, refl)
object_step asks run steps_are (steps.FreeOwner register) of free =
    let owner = named_owner (run.state register).tag (run.owners register) (number_end run) (step_limit run) free in
    (freed_bare run (run.owners register) steps_are, ap (λ (o : Option ℕ). (with_freed run o).steps) owner.1)
object_step asks run steps_are (steps.FreeNumber number) of free = (refl, refl)
object_step asks run steps_are step of free = absurd (false≢true of)

plain_steps : (run : Run) (step : RunStep) → is_of_objects step ≡ false → (run_after run step).steps ≡ run.steps + 1
plain_steps run (steps.FreeOwner register) plain = absurd (false≢true (sym plain))
plain_steps run step plain = refl

-- lines are allowed without objects, and lead to a run but for its objects and so many steps
record LeadsBare (other : Asks) (run : Run) (steps_are : ℕ) (kept : List RunLine) (last : Run) (gone : ℕ) : Type 0 where
  pub left : ℕ
  pub allowed : AreAllowed other (bare run steps_are) kept
  pub leads : along (bare run steps_are) kept ≡ bare last left
  pub steps_is : left + gone ≡ last.steps

one_more : (other : Asks) (run after last : Run) (steps_are next gone : ℕ) (line : RunLine) (kept : List RunLine) → IsRunLineInRange line
    → IsLineAllowed other (bare run steps_are) line → line_after (bare run steps_are) line ≡ bare after next → LeadsBare other after next kept last gone
    → LeadsBare other run steps_are (line ∷ kept) last gone
one_more other run after last steps_are next gone line kept range allowed is rest = record {
  left = rest.left;
  allowed = (range, allowed, subst (λ (r : Run). AreAllowed other r kept) (sym is) rest.allowed);
  leads = ap (λ (r : Run). along r kept) is ∙ rest.leads;
  steps_is = rest.steps_is;
}

end_counts : (count steps_are gone all : ℕ) → steps_are + gone ≡ all → (if count == all then None else Some (Usual WrongCount)) ≡ None
    → (if count - gone == steps_are then None else Some (Usual WrongCount)) ≡ None
end_counts count steps_are gone all sums free = elim (cases_Bool (count == all)) [
  | inl is ↦
      let whole = eqb-true count all is in
      let less : count - gone ≡ steps_are = omega (arith, whole, sums) in
      ap (λ (b : Bool). if b then None else Some (Usual WrongCount)) (eq-eqb (count - gone) steps_are less)
  | inr isnt ↦ absurd (none-some (Usual WrongCount) (sym free ∙ ap (λ (b : Bool). if b then None else Some (Usual WrongCount)) isnt))
]

lead_bare : (asks other : Asks) (run : Run) (steps_are gone : ℕ) (read : List RunLine) → steps_are + gone ≡ run.steps → AreAllowed asks run read
    → LeadsBare other run steps_are (erased_after gone read) (along run read) (gone + object_lines read)
lead_bare asks other run steps_are gone [] sums allowed =
    record { left = steps_are; allowed = tt; leads = refl; steps_is = omega (arith, sums) }
lead_bare asks other run steps_are gone (lines.Version ∷ rest) sums allowed =
    one_more other run run _ steps_are steps_are _ lines.Version _ allowed.0 tt refl
    (lead_bare asks other run steps_are gone rest sums allowed.2)
lead_bare asks other run steps_are gone (lines.Plain version ∷ rest) sums allowed = absurd (none-some (Usual Misplaced) (sym allowed.1))
lead_bare asks other run steps_are gone (lines.Mode mode ∷ rest) sums allowed =
    one_more other run (line_after run (lines.Mode mode)) _ steps_are steps_are _ (lines.Mode mode) _ allowed.0 tt refl
    (lead_bare asks other (line_after run (lines.Mode mode)) steps_are gone rest sums allowed.2)
lead_bare asks other run steps_are gone (lines.Root place word ∷ rest) sums allowed =
    one_more other run (root_after run place word) _ steps_are steps_are _ (lines.Root place word) _ allowed.0
    (root_bare run steps_are place word (omega (arith, sums)) allowed.1) (after_root run steps_are place word)
    (lead_bare asks other (root_after run place word) steps_are gone rest sums allowed.2)
lead_bare asks other run steps_are gone (lines.Step step ∷ rest) sums allowed =
    one_more other run (usual_after run step) _ steps_are (steps_are + 1) _ (lines.Step step) _ allowed.0
    (usual_bare asks other run steps_are step (omega (arith, sums)) allowed.1) (after_usual run steps_are step)
    (lead_bare asks other (usual_after run step) (steps_are + 1) gone rest (omega (arith, sums)) allowed.2)
lead_bare asks other run steps_are gone (lines.Hart hart ∷ rest) sums allowed =
    one_more other run (hart_after run hart) _ steps_are steps_are _ (lines.Hart hart) _ allowed.0 allowed.1 refl
    (lead_bare asks other (hart_after run hart) steps_are gone rest sums allowed.2)
lead_bare asks other run steps_are gone (lines.End count ∷ rest) sums allowed =
    one_more other run run _ steps_are steps_are _ (lines.End (count - gone)) _ (let range = allowed.0 in omega (arith, range))
    (end_counts count steps_are gone run.steps sums allowed.1) refl
    (lead_bare asks other run steps_are gone rest sums allowed.2)
lead_bare asks other run steps_are gone (lines.Run step ∷ rest) sums allowed =
    let last = along (run_after run step) rest in
    let after : Bool → Type 0 = λ (of : Bool). LeadsBare other run steps_are
    (if of then erased_after (gone + 1) rest else lines.Run step ∷ erased_after gone rest) last (gone + ((if of then 1 else 0) + object_lines rest)) in
    elim (cases_Bool (is_of_objects step)) [
      | inl of ↦
          let made = object_step asks run steps_are step of allowed.1 in
          let steps_is = made.1 in
          let more = lead_bare asks other (run_after run step) steps_are (gone + 1) rest (omega (arith, sums, steps_is)) allowed.2 in
          let sum_is = more.steps_is in
          subst after (sym of) (record {
            left = more.left;
            allowed = subst (λ (r : Run). AreAllowed other r (erased_after (gone + 1) rest)) made.0 more.allowed;
            leads = ap (λ (r : Run). along r (erased_after (gone + 1) rest)) (sym made.0) ∙ more.leads;
            steps_is = omega (arith, sum_is);
          })
      | inr plain ↦
          let steps_is = plain_steps run step plain in
          let none_more : gone + object_lines rest ≡ gone + (0 + object_lines rest) = omega arith in
          subst after (sym plain) (
          one_more other run (run_after run step) last steps_are (steps_are + 1) (gone + (0 + object_lines rest)) (lines.Run step) (erased_after gone rest) allowed.0
          (run_bare asks other run steps_are step plain (omega (arith, sums)) allowed.1) (after_run run steps_are step plain)
          (subst (LeadsBare other (run_after run step) (steps_are + 1) (erased_after gone rest) last) none_more
          (lead_bare asks other (run_after run step) (steps_are + 1) gone rest (omega (arith, sums, steps_is)) allowed.2)))
    ]

pub erased_allowed : (asks other : Asks) (read : List RunLine) → AreAllowed asks no_run read → AllowsErased other read
erased_allowed asks other read allowed =
    let all = lead_bare asks other no_run 0 0 read refl allowed in
    let sums = all.steps_is in
    let left_is : all.left ≡ (run_along read).steps - object_lines read =
    let last = ap (λ (r : Run). r.steps) (along-fold no_run read) in omega (arith, sums, last) in (
      all.allowed,
      along-fold no_run (erased_after 0 read) ∙ all.leads ∙ ap (λ (r : Run). bare r all.left) (sym (along-fold no_run read))
          ∙ ap (bare (run_along read)) left_is,
    )
