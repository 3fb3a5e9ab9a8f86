-- Each access of a run lies inside the root that its authority descends from.
use Rattle.std.specs.List.{AllByRecursion}
use Rattle.std.proofs.Common.{◌≡◌, ℕ, ℤ, zero, suc, ◌<◌, true, List, [], ◌∷◌, length, sym, ap, subst, ◌∙◌, arith, Some}
use Rattle.std.proofs.{Common.{None, slice_get}, lemmas.{Bool.not-false, Option.{same_Some, none-some}}}
use Rattle.cap_word.specs.declared.word.Cap.{Cap}
use Rattle.cap_ops.specs.{declared.kinds.Kind.Kind, Accesses.{IsAllowed, access_checks, access_address, permission_for}}
use Rattle.cap_ops.specs.Checks.{first_of}
use Rattle.cap_ops.proofs.{AccessLemmas.IsAllowed-access, TestLemmas.none_hold}
use Rattle.cap_log.specs.{declared.kinds.Step.{Step, TheVariants.{LoadCap, StoreCap, Load, Store}}, Lines.IsStepInRange}
use Rattle.cap_machine.specs.{declared.rules.Rules.Rules, Runs.{IsRun, state_at, AccessesLieInside, AreSound}}
use Rattle.cap_machine.specs.{States.{State, DeclaredRoot, start}, Steps.{Access, Row, row_of, row_by}}
use Rattle.cap_machine.proofs.{AuthorityLemmas.one_root, StepLemmas.row_by-access}

-- an access that no test refuses has a tagged authority, and is allowed by it
pub record IsGranted (state : State) (access : Access) : Type 0 where
  pub tag : (state access.authority).tag ≡ true
  pub allowed : IsAllowed (state access.authority).word.0 access.address access.size access.permission

tag_tested : (authority : Cap) (kind : Kind) (offset : ℤ) (size : ℕ) → first_of (access_checks authority kind offset size) ≡ None
    → authority.tag ≡ true
unfolding access_checks
tag_tested authority kind offset size free = not-false authority.tag (none_hold (access_checks authority kind offset size) free).0

granted_to : (state : State) (register : ℕ) (kind : Kind) (offset : ℤ) (bytes : ℕ) (access : Access)
    → first_of (access_checks (state register) kind offset bytes) ≡ None
    → Some (record {
      authority = register;
      address = access_address (state register).word.0 offset;
      size = bytes;
      permission = permission_for kind;
    }) ≡ Some access
    → IsGranted state access
granted_to state register kind offset bytes access free is =
    subst (IsGranted state) (same_Some _ access is)
    (record {
      tag = tag_tested (state register) kind offset bytes free;
      allowed = IsAllowed-access
          (state register) kind offset bytes free;
    })

pub granted : (state : State) (step : Step) (access : Access) → first_of (row_of state step).checks ≡ None
    → (row_of state step).access ≡ Some access → IsGranted state access
granted state (LoadCap step) access free is = granted_to state step.authority Kind.LoadCap step.offset 16 access free is
granted state (StoreCap step) access free is =
    granted_to state step.authority (Kind.StoreCap (state step.source)) step.offset 16 access free is
granted state (Load step) access free is = granted_to state step.authority Kind.LoadData step.offset step.datum.size access free is
granted state (Store step) access free is = granted_to state step.authority Kind.StoreData step.offset step.datum.size access free is
granted state step access free is = absurd (none-some access is)

-- the step at a moment of a run leads from the state there
pub leads_at : (rules : Rules) (state : State) (steps : List Step) (states : List State) (moment : ℕ) (step : Step)
    → IsRun rules state steps states → slice_get steps moment ≡ Some step
    → first_of (row_by rules (row_of (state_at state states moment) step)).checks ≡ None
leads_at rules state [] states moment step run is = absurd (none-some step is)
leads_at rules state (first ∷ steps) [] moment step run is = absurd run
leads_at rules state (first ∷ steps) (next ∷ states) zero step run is =
    subst (λ (s : Step). first_of (row_by rules (row_of state s)).checks ≡ None) (same_Some first step is) run.0.allowed
leads_at rules state (first ∷ steps) (next ∷ states) (suc moment) step run is = leads_at rules next steps states moment step run.1 is

in_range : (steps : List Step) (moment : ℕ) (step : Step) → slice_get steps moment ≡ Some step → moment < length steps
in_range [] moment step is = absurd (none-some step is)
in_range (first ∷ steps) zero step is = omega arith
in_range (first ∷ steps) (suc moment) step is = let h = in_range steps moment step is in omega arith

-- each access lies inside its root
pub lie_inside : (rules : Rules) (roots : List DeclaredRoot) (steps : List Step) (states : List State) → AreSound roots
    → AllByRecursion IsStepInRange steps → IsRun rules (start roots) steps states
    → AccessesLieInside roots steps states
lie_inside rules roots steps states sound ranges run moment step access at is =
    let state = state_at (start roots) states moment in
    let free = ap (λ (row : Row). first_of row.checks) (sym (row_by-access rules (row_of state step) access is))
    ∙ leads_at rules (start roots) steps states moment step run at in
    let grant = granted state step access free is in
    let below = in_range steps moment step at in
    let root = one_root rules roots steps states sound ranges run moment (omega arith) access.authority grant.tag in
    let reach = root.2 in (
      root.0,
      root.1,
      record {
        inside = (omega (arith, reach.inside.0, grant.allowed.from), omega (arith, reach.inside.1, grant.allowed.until));
        permitted = reach.fewer access.permission grant.allowed.permits;
      },
    )
