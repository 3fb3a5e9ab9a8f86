-- Which checks never refuse as StillHeld.
use Rattle.std.proofs.Common.{◌&&◌, ◌||◌, ◌++◌, ◌∷◌, [], ℕ, Bool, true, false, not, if◌then◌else◌, is_some, nat_le, nat_lt, List, map, Option, Some, None, option_map}
use Rattle.std.specs.Option.{option_map_or}
use Rattle.cap_word.specs.declared.word.{Cap.Cap, Word.Word}
use Rattle.cap_bounds.specs.Bounds.{is_sound}
use Rattle.cap_ops.specs.{Checks.first_of, DerivedWords.{derive_checks, invoke_checks}}
use Rattle.cap_ops.specs.declared.refusal.Refusal.{Refusal, TheVariants.{LimitPassed, Misplaced, PlaceTaken, UnsoundRoot, WrongCount, WrongResult}}
use Rattle.cap_ops.specs.declared.derived_words.DeriveFault.{DeriveFault}
use Rattle.cap_ops.specs.declared.derived_words.DeriveFault.TheVariants as derive
use Rattle.cap_ops.specs.declared.derived_words.InvokeFault.{InvokeFault}
use Rattle.cap_ops.specs.declared.derived_words.InvokeFault.TheVariants as invoke
use Rattle.cap_log.specs.declared.kinds.Step.{Step}
use Rattle.cap_machine.specs.Accounts.{most_steps, named_by, passes_granule_limit, row_in}
use Rattle.cap_machine.specs.Steps.{agrees}
use Rattle.cap_run_log.specs.declared.lines.{Derive.Derive, Exchange.Exchange, Invoke.Invoke, RunPlace.RunPlace}
use Rattle.cap_run_log.specs.declared.lines.RunRegister.{RunRegister, TheVariants.{General, Special}}
use Rattle.cap_run.specs.declared.{asks.Asks.Asks, ends.RunRefusal.RunRefusal}
use Rattle.cap_run.specs.declared.ends.RunRefusal.TheVariants as refusals
use Rattle.cap_run.specs.{ObjectSteps.{is_capability, object_refusal}, Run.Run, RunChanges.{account_in, granule_in, place_key}}
use Rattle.cap_run.specs.RunChecks.{asked_checks, hart_end, is_live, is_unowned, most_hart_lines, number_end, owner_end, passes_limit, root_end, usual_end, uses_freed}
use Rattle.cap_run.specs.RunSteps.{derive_end, derive_refusal, derived_refusal, exchange_end, invoke_end, invoke_refusal, is_pcc, or_later, step_limit}
use Rattle.cap_run.proofs.ChoiceLemmas.{last_checks}

-- an end that isn't StillHeld
abbrev pub NotHeld : Option RunRefusal → Type 0
NotHeld (Some refusals.StillHeld) = ⊥
NotHeld end = Unit {0}

first : (test : Bool) (refusal : RunRefusal) (checks : List (Bool × RunRefusal)) → NotHeld (Some refusal) → NotHeld (first_of checks)
    → NotHeld (first_of ((test, refusal) ∷ checks))
first true refusal checks here rest = here
first false refusal checks here rest = rest

later : (before after : Option RunRefusal) → NotHeld before → NotHeld after → NotHeld (or_later before after)
later None after here rest = rest
later (Some refusal) after here rest = here

limit_if : (passed : Bool) → NotHeld (if passed then Some (refusals.Usual LimitPassed) else None)
limit_if true = tt
limit_if false = tt

pub limit_not : (run : Run) → NotHeld (step_limit run)
limit_not run = limit_if (nat_le most_steps run.steps)

pub hart_not : (run : Run) → NotHeld (hart_end run)
hart_not run = limit_if (nat_le most_hart_lines run.harts.lines)

derive_not : (fault : Option DeriveFault) → NotHeld (option_map derive_refusal fault)
derive_not None = tt
derive_not (Some derive.SourceUntagged) = tt
derive_not (Some derive.UnsoundResult) = tt
derive_not (Some derive.BeyondSource) = tt
derive_not (Some derive.SealChanged) = tt

derived_if : (tag : Bool) (fault : Option DeriveFault) → NotHeld (if tag then option_map derive_refusal fault else None)
derived_if true fault = derive_not fault
derived_if false fault = tt

derived_not : (target : RunRegister) (source result : Cap) → NotHeld (derived_refusal target source result)
derived_not target source result = derived_if result.tag (first_of (derive_checks source result.word.0 (is_pcc target)))

invoke_not : (fault : Option InvokeFault) → NotHeld (option_map invoke_refusal fault)
invoke_not None = tt
invoke_not (Some invoke.AuthorityUntagged) = tt
invoke_not (Some invoke.NotInvokable) = tt
invoke_not (Some invoke.WrongResult) = tt

pub derive_end_not : (run : Run) (step : Derive) → NotHeld (derive_end run step)
derive_end_not run step = later _ _ (derived_not step.target _ step.result) (limit_not run)

pub exchange_end_not : (run : Run) (step : Exchange) → NotHeld (exchange_end run step)
exchange_end_not run step =
    later _ _ (derived_not (General step.target) _ step.result)
    (later _ _ (derived_not (Special step.special) _ step.special_result) (limit_not run))

pub invoke_end_not : (run : Run) (step : Invoke) → NotHeld (invoke_end run step)
invoke_end_not run step =
    later _ _ (invoke_not (first_of (invoke_checks (run.state step.code) (run.state step.datum) step.code_word.0 step.datum_word.0))) (limit_not run)

pub fill_not : (passed : Bool) → NotHeld (first_of ((passed, refusals.Usual LimitPassed) ∷ []))
fill_not true = tt
fill_not false = tt

number_if : (one two : Bool) → NotHeld (first_of ((one, refusals.NoObject) ∷ (two, refusals.AlreadyFreed) ∷ []))
number_if true two = tt
number_if false true = tt
number_if false false = tt

pub number_not : (run : Run) (number : ℕ) → NotHeld (number_end run number)
number_not run number = number_if (not (nat_lt 0 number && nat_le number run.count)) (not (option_map_or is_live (run.objects number) false))

refusal_if : (capability : Bool) (owner : Option ℕ)
    → NotHeld (if capability then (if is_some owner then Some refusals.HasOwner else None) else Some refusals.NoCapability)
refusal_if true None = tt
refusal_if true (Some number) = tt
refusal_if false owner = tt

pub refusal_not : (run : Run) (register : ℕ) → NotHeld (object_refusal run register)
refusal_not run register = refusal_if (is_capability (run.state register)) (run.owners register)

owner_if : (run : Run) (tag : Bool) (owner : Option ℕ)
    → NotHeld (if tag then or_later (option_map_or (number_end run) owner (Some refusals.NoOwner)) (step_limit run) else Some refusals.NoCapability)
owner_if run false owner = tt
owner_if run true None = tt
owner_if run true (Some number) = later _ _ (number_not run number) (limit_not run)

pub owner_end_not : (run : Run) (register : ℕ) → NotHeld (owner_end run register)
owner_end_not run register = owner_if run (run.state register).tag (run.owners register)

pub free_not : (run : Run) (number : ℕ) → NotHeld (or_later (number_end run number) (step_limit run))
free_not run number = later _ _ (number_not run number) (limit_not run)

root_if : (one two three four : Bool)
    → NotHeld (first_of ((one, refusals.Usual Misplaced) ∷ (two, refusals.Usual PlaceTaken) ∷ (three, refusals.Usual UnsoundRoot) ∷ (four, refusals.Usual LimitPassed) ∷ []))
root_if true two three four = tt
root_if false true three four = tt
root_if false false true four = tt
root_if false false false true = tt
root_if false false false false = tt

pub root_not : (run : Run) (place : RunPlace) (word : Word) → NotHeld (root_end run place word)
root_not run place word =
    root_if (nat_lt 0 run.steps) (run.state (place_key place)).tag (not (is_sound word.0))
    (nat_le run.limits.roots run.roots || passes_granule_limit (account_in run) (granule_in place))

pub end_not : (is : Bool) → NotHeld (if is then None else Some (refusals.Usual WrongCount))
end_not true = tt
end_not false = tt

asked_if : (one two three four : Bool)
    → NotHeld (first_of ((one, refusals.OwnerFreed) ∷ (two, refusals.NotOwned) ∷ (three, refusals.Usual WrongResult) ∷ (four, refusals.Usual LimitPassed) ∷ []))
asked_if true two three four = tt
asked_if false true three four = tt
asked_if false false true four = tt
asked_if false false false true = tt
asked_if false false false false = tt

rows_not : (checks : List (Bool × Refusal)) (asked last : List (Bool × RunRefusal)) → NotHeld (first_of (asked ++ last))
    → NotHeld (first_of ((map (λ (check : Bool × Refusal). (check.0, refusals.Usual check.1)) checks ++ asked) ++ last))
rows_not [] asked last rest = rest
rows_not ((true, refusal) ∷ checks) asked last rest = tt
rows_not ((false, refusal) ∷ checks) asked last rest = rows_not checks asked last rest

pub usual_not : (asks : Asks) (run : Run) (step : Step) → NotHeld (usual_end asks run step)
usual_not asks run step =
    let row = row_in (account_in run) step in
    rows_not row.checks (asked_checks asks run row.access) (last_checks run step)
    (asked_if (asks.used && option_map_or (uses_freed run) row.access false) (asks.owned && option_map_or (is_unowned run) row.access false)
    (not (agrees row.writes row.records)) (passes_limit run (named_by row)))
