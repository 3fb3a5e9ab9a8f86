-- A step that sets bounds is refused for them exactly where the requested ones do not lie inside its source's.
use Rattle.std.specs.List.{AllByRecursion}
use Rattle.std.proofs.Common.{◌≡◌, ◌≢◌, ◌↔◌, ℕ, zero, suc, ℤ, ◌^◌, ◌<◌, Bool, true, false, List, [], ◌∷◌, Option}
use Rattle.std.proofs.Common.{if◌then◌else◌, ◌&&◌, inl, inr, is_some, refl, sym, ap, subst, ◌∙◌, Some, None, Result, Ok}
use Rattle.std.proofs.{Common.{Err, OnOk, slice_get, eq-eqb}, lemmas.Bool.{and_parts, false≢true}}
use Rattle.std.proofs.lemmas.Option.{none-some, same_Some}
use Rattle.cap_word.specs.declared.word.Cap.{Cap}
use Rattle.cap_ops.specs.declared.kinds.Kind.{Kind, TheVariants.{LoadData, StoreData, LoadCap as LoadCapability}}
use Rattle.cap_ops.specs.declared.{kinds.Kind.TheVariants.StoreCap as StoreCapability, refusal.Refusal.Refusal}
use Rattle.cap_ops.specs.{declared.refusal.Refusal.TheVariants.{BoundsEscape, WrongResult}, Accesses.access_checks}
use Rattle.cap_ops.specs.{Checks.first_of, Operations.{clear_result, set_bounds_checks, set_bounds_result}}
use Rattle.cap_ops.specs.Operations.{set_addr_checks, and_perm_checks, seal_checks, unseal_checks}
use Rattle.cap_ops.proofs.ClearLemmas.{untagged_where_beyond}
use Rattle.cap_ops.proofs.NarrowingLemmas.{BoundsEscape-source, first_escapes, escapes_first as escapes_beyond}
use Rattle.cap_ops.proofs.TestLemmas.{first_of-append, first_of-append_some}
use Rattle.cap_log.specs.declared.kinds.Step.{Step, TheVariants.{SetBounds, SetBoundsExact, SetAddr, AndPerm, LoadCap}}
use Rattle.cap_log.specs.declared.{kinds.Step.TheVariants.{StoreCap, Load, Store}, lines.Place.TheVariants.Register}
use Rattle.cap_log.specs.Lines.{IsStepInRange}
use Rattle.cap_machine.specs.declared.{ends.StepEnd.{StepEnd, TheVariants.{Refused, NoMemory}}, rules.Rules.Rules}
use Rattle.cap_machine.specs.{declared.rules.Rules.TheVariants.{One, TwoStrict, TwoClear}, Accounts.{Account, row_in}}
use Rattle.cap_machine.specs.{Accounts.step_checks, Escapes.{AsksBeyond, ClearsBeyond, ClearsExactly, Escapes}}
use Rattle.cap_machine.specs.{Steps.asked_by, Helds.{Held, AnswersStep, state_of, account_of, checks_by}}
use Rattle.cap_machine.specs.{Parents.{IsSoundState, StaysWithinParents}, Runs.{AreSound, IsRun, state_at}}
use Rattle.cap_machine.specs.States.{State, DeclaredRoot, put, start}
use Rattle.cap_machine.specs.Steps.{Access, Leads, Row, Written, clear_row, row_by, row_of, state_with}
use Rattle.cap_machine.proofs.{AuthorityLemmas.{one_back, start_sound}, MadeLemmas.{ending, row_by-written}}

no_last_test : (recorded limit : Bool) → first_of (ending recorded limit) ≡ Some BoundsEscape → ⊥
no_last_test true true h = cc
no_last_test true false h = cc
no_last_test false limit h = cc

-- the tests of a step begin with those of its operation
of_operation : (account : Account) (step : Step) → first_of (step_checks account step) ≡ Some BoundsEscape
    → first_of ((row_in account step).checks) ≡ Some BoundsEscape
of_operation account step h =
    elim (first_of-append (row_in account step).checks _ BoundsEscape h) [
      | inl found ↦ found
      | inr last ↦ absurd (no_last_test _ _ last.1)
    ]

answers : (old new : Held) (step : Step) (result : Result (Unit {0}) StepEnd) → AnswersStep old step result new
    → result ≡ Err (Refused BoundsEscape)
    → first_of (step_checks (account_of old) step) ≡ Some BoundsEscape
answers old new step (Ok done) ends h = cc
answers old new step (Err (Refused refusal)) ends h = let found = ends.0 in cc
answers old new step (Err NoMemory) ends h = cc

answered : (old new : Held) (step : Step) (result : Result (Unit {0}) StepEnd) → AnswersStep old step result new
    → first_of (step_checks (account_of old) step) ≡ Some BoundsEscape → result ≡ Err (Refused BoundsEscape)
answered old new step (Ok done) ends h = let free = ends.checks in cc
answered old new step (Err (Refused refusal)) ends h = let found = ends.0 in cc
answered old new step (Err NoMemory) ends h = let free = ends.0 in cc

-- the checks by any rules
refused_by : (rules : Rules) (checks : List (Bool × Refusal)) (refusal : Refusal)
    → (first_of (checks_by rules checks) ≡ Some refusal) ↔ ((rules ≢ TwoClear) × (first_of checks ≡ Some refusal))
refused_by One checks refusal = (λ h. (λ e. cc, h), λ p. p.1)
refused_by TwoStrict checks refusal = (λ h. (λ e. cc, h), λ p. p.1)
refused_by TwoClear checks refusal = (λ h. cc, λ p. absurd (p.0 refl))

-- what a step that sets bounds asks for
narrowed : (account : Account) (step : Step) (source length : ℕ) (exact : Bool)
    → (row_in account step).checks ≡ checks_by account.rules (set_bounds_checks (account.state source) length exact) → length < 2 ^ 64
    → IsSoundState account.state
    → (first_of (step_checks account step) ≡ Some BoundsEscape) ↔ ((account.rules ≢ TwoClear)
    × AsksBeyond account.state (Some (source, length)))
narrowed account step source length exact same fits sound =
    let by = refused_by account.rules (set_bounds_checks (account.state source) length exact) BoundsEscape in (
      λ h.
          let found = by.0 (sym (ap first_of same) ∙ of_operation account step h) in
          let is = BoundsEscape-source (account.state source) length exact found.1 in
          (found.0, (is.0, is.1, escapes_beyond (account.state source) length exact fits is.0 is.1 (sound source is.0) found.1)),
      λ beyond.
          let first = first_escapes (account.state source) length exact fits beyond.1.0 beyond.1.1 (sound source beyond.1.0) beyond.1.2 in
          first_of-append_some ((row_in account step).checks) _ BoundsEscape (ap first_of same ∙ by.1 (beyond.0, first)),
    )

-- whether a refusal is that of a test of an operation or of an access: its result is none, and its bounds only where it asks for some
abbrev is_own : Bool → Refusal → Bool
is_own asks BoundsEscape = asks
is_own asks WrongResult = false
is_own asks refusal = true

abbrev all_own : Bool → List (Bool × Refusal) → Bool
all_own asks [] = true
all_own asks (test ∷ checks) = is_own asks test.1 && all_own asks checks

first_own : (asks : Bool) (checks : List (Bool × Refusal)) (refusal : Refusal) → all_own asks checks ≡ true → first_of checks ≡ Some refusal
    → is_own asks refusal ≡ true
first_own asks [] refusal own h = absurd (none-some refusal h)
first_own asks ((true, other) ∷ checks) refusal own h =
    ap (is_own asks) (sym (same_Some _ _ h)) ∙ (and_parts (is_own asks other) (all_own asks checks) own).0
first_own asks ((false, other) ∷ checks) refusal own h =
    first_own asks checks refusal (and_parts (is_own asks other) (all_own asks checks) own).1 h

own_where : (asks tag : Bool) (checks : List (Bool × Refusal)) → all_own asks checks ≡ true → all_own asks (if tag then checks else []) ≡ true
own_where asks true checks own = own
own_where asks false checks own = refl

access_own : (authority : Cap) (kind : Kind) (offset : ℤ) (size : ℕ) → all_own false (access_checks authority kind offset size) ≡ true
unfolding access_checks
access_own authority LoadData offset size = refl
access_own authority StoreData offset size = refl
access_own authority LoadCapability offset size = refl
access_own authority (StoreCapability stored) offset size = refl

-- so it is in each row
row_own : (state : State) (step : Step) → all_own (is_some (asked_by step)) (row_of state step).checks ≡ true
unfolding set_bounds_checks set_addr_checks and_perm_checks seal_checks unseal_checks
row_own state (SetBounds step) = own_where true (state step.source).tag _ refl
row_own state (SetBoundsExact step) = own_where true (state step.source).tag _ refl
row_own state (SetAddr step) = own_where false (state step.source).tag _ refl
row_own state (AndPerm step) = own_where false (state step.source).tag _ refl
row_own state (LoadCap step) = access_own (state step.authority) LoadCapability step.offset 16
row_own state (StoreCap step) = access_own (state step.authority) (StoreCapability (state step.source)) step.offset 16
row_own state (Load step) = access_own (state step.authority) LoadData step.offset step.datum.size
row_own state (Store step) = access_own (state step.authority) StoreData step.offset step.datum.size
row_own state step = refl

own_by : (rules : Rules) (row : Row) (asks : Bool) → all_own asks row.checks ≡ true → all_own asks (row_by rules row).checks ≡ true
own_by One row asks own = own
own_by TwoStrict row asks own = own
own_by TwoClear row asks own = cleared_own row.access row own where
  cleared_own : (access : Option Access) (row : Row) → all_own asks row.checks ≡ true → all_own asks (clear_row access row).checks ≡ true
  cleared_own None row own = refl
  cleared_own (Some access) row own = own

refused_own : (account : Account) (step : Step) (refusal : Refusal) → first_of (row_in account step).checks ≡ Some refusal
    → is_own (is_some (asked_by step)) refusal ≡ true
refused_own account step refusal h =
    let row = row_of account.state step in
    first_own _ (row_in account step).checks refusal (own_by account.rules row (is_some (asked_by step)) (row_own account.state step)) h

-- no test of an operation or of an access is that of the result
pub never_wrong : (account : Account) (step : Step) → first_of (row_in account step).checks ≡ Some WrongResult → ⊥
never_wrong account step h = false≢true (refused_own account step WrongResult h)

never : (account : Account) (step : Step) → asked_by step ≡ None
    → (first_of (step_checks account step) ≡ Some BoundsEscape) ↔ ((account.rules ≢ TwoClear) × ⊥)
never account step none = (
  λ h. absurd (false≢true (sym (ap is_some none) ∙ refused_own account step BoundsEscape (of_operation account step h))),
  λ beyond. absurd beyond.1,
)

-- which steps are refused for their bounds, by the account before them
pub escapes_first : (account : Account) (step : Step) → IsStepInRange step → IsSoundState account.state
    → (first_of (step_checks account step) ≡ Some BoundsEscape) ↔ Escapes account.rules account.state step
escapes_first account (SetBounds step) range sound =
    narrowed account (SetBounds step) step.source step.number false
    (ap (λ (row : Row). row.checks) (row_by-written account.rules _ (Register step.target) _ (Some (Register step.source)) (Written step.result) None))
    range.2 sound
escapes_first account (SetBoundsExact step) range sound =
    narrowed account (SetBoundsExact step) step.source step.number true
    (ap (λ (row : Row). row.checks) (row_by-written account.rules _ (Register step.target) _ (Some (Register step.source)) (Written step.result) None))
    range.2 sound
escapes_first account step range sound = never account step refl

-- a step's answer for its bounds
pub escape_exact : (old new : Held) (step : Step) (result : Result (Unit {0}) StepEnd) → IsStepInRange step → IsSoundState (state_of old)
    → AnswersStep old step result new
    → (result ≡ Err (Refused BoundsEscape)) ↔ Escapes old.rules (state_of old) step
escape_exact old new step result range sound ends =
    let both = escapes_first (account_of old) step range sound in
    (λ h. both.0 (answers old new step result ends h), λ beyond. answered old new step result ends (both.1 beyond))

put_there : (state : State) (key : ℕ) (cap : Cap) → put state key cap key ≡ cap
put_there state key cap = ap (λ (b : Bool). if b then cap else state key) (eq-eqb key key refl)

-- the tag of new bounds in clear mode
pub clears : (rules : Rules) (old : State) (step : Step) (new : State) → IsStepInRange step → IsSoundState old → Leads rules old step new
    → ClearsBeyond rules old step new
clears rules old (SetBounds step) new range sound leads = λ mode held unsealed.
    let row = row_of old (SetBounds step) in
    let made = clear_result (set_bounds_checks (old step.source) step.number false) (set_bounds_result (old step.source) step.number) in
    let after : new ≡ put old step.target made = leads.after ∙ ap (λ (r : Rules). state_with old (row_by r row).writes) mode in
    let is : new step.target ≡ made = ap (λ (s : State). s step.target) after ∙ put_there old step.target made in
    untagged_where_beyond (old step.source) step.number false (new step.target) range.2 is refl held unsealed (sound step.source held)
clears rules old step new range sound leads = tt

pub clears_exactly : (old new : Held) (step : Step) (result : Result (Unit {0}) StepEnd) → IsStepInRange step → IsSoundState (state_of old)
    → AnswersStep old step result new
    → OnOk result (ClearsBeyond old.rules (state_of old) step (state_of new))
clears_exactly old new step (Ok done) range sound ends = clears old.rules (state_of old) step (state_of new) range sound ends.leads
clears_exactly old new step (Err end) range sound ends = tt

-- and along a run
clears_at : (rules : Rules) (state : State) (steps : List Step) (states : List State) (moment : ℕ) (step : Step)
    → AllByRecursion IsStepInRange steps → IsSoundState state → IsRun rules state steps states → slice_get steps moment ≡ Some step
    → ClearsBeyond rules (state_at state states moment) step (state_at state states (suc moment))
clears_at rules state [] states moment step ranges sound run is = absurd (none-some step is)
clears_at rules state (first ∷ steps) [] moment step ranges sound run is = absurd run
clears_at rules state (first ∷ steps) (next ∷ states) zero step ranges sound run is =
    subst (λ (s : Step). ClearsBeyond rules state s next) (same_Some first step is) (clears rules state first next ranges.0 sound run.0)
clears_at rules state (first ∷ steps) (next ∷ states) (suc moment) step ranges sound run is =
    let after : IsSoundState next = λ key held. (one_back rules state first next key ranges.0 sound run.0 held).1.sound in
    clears_at rules next steps states moment step ranges.1 after run.1 is

pub clears_along : (rules : Rules) (roots : List DeclaredRoot) (steps : List Step) (states : List State) → AreSound roots
    → AllByRecursion IsStepInRange steps → IsRun rules (start roots) steps states
    → ClearsExactly rules roots steps states
clears_along rules roots steps states sound ranges run moment step is =
    clears_at rules (start roots) steps states moment step ranges (start_sound roots sound) run is

-- what a step that is made leaves of authority
pub step_within : (old new : Held) (step : Step) (result : Result (Unit {0}) StepEnd) → IsStepInRange step → IsSoundState (state_of old)
    → AnswersStep old step result new
    → OnOk result (StaysWithinParents (state_of old) step (state_of new))
step_within old new step (Ok done) range sound ends =
    λ key held. one_back old.rules (state_of old) step (state_of new) key range sound ends.leads held
step_within old new step (Err end) range sound ends = tt
