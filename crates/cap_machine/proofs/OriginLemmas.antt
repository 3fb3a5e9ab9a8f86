-- What origins are, carried forward, is what descent is, followed back: so the account's are the places of roots.
use Rattle.std.specs.List.{AllByRecursion, IsDistinct}
use Rattle.std.proofs.Common.{◌≡◌, ℕ, zero, suc, ◌==◌, nat_eq, false, inl, inr, List, [], ◌∷◌, length, map, take, Some}
use Rattle.std.proofs.Common.{Contains, refl, sym, ap, subst, ◌∙◌, arith, eq-eqb, ne_eqb, take_all, option_and_then}
use Rattle.std.proofs.{Math.Path.fun_ext, lemmas.Bool.{cond-true, cond-false, eqb-false, Decides.eqb_tells}}
use Rattle.cap_log.specs.{declared.kinds.Step.Step, Lines.IsStepInRange}
use Rattle.cap_machine.specs.{declared.rules.Rules.Rules, Accounts.{Account, limits_of, no_account, with_root, with_step}}
use Rattle.cap_machine.specs.{Origins.{Origins, origins_after, origins_along}, RunAccounts.OriginsAreRoots}
use Rattle.cap_machine.specs.{RunAccounts.account_after, Runs.{AreSound, Descends, IsRun, last_of, state_at}}
use Rattle.cap_machine.specs.States.{State, DeclaredRoot, key_of, start, untagged_null}
use Rattle.cap_machine.proofs.AccountLemmas.{after_roots, after_steps, with_step-grows, after_roots-grows}
use Rattle.cap_machine.proofs.AuthorityLemmas.{one_root}

pub traced : (origins : Origins) (state : State) (steps : List Step) (states : List State) (key from : ℕ)
    → Descends state steps states key from
    → origins_along origins state steps states key ≡ origins from
traced origins state [] states key from back = ap origins back
traced origins state (step ∷ steps) [] key from back = absurd back
traced origins state (step ∷ steps) (next ∷ states) key from back =
    traced (origins_after origins state step next) next steps states key back.0 back.1 ∙ ap (option_and_then origins) back.2

-- the numbers of the roots' places
abbrev pub keys : List DeclaredRoot → List ℕ
keys roots = map (λ (root : DeclaredRoot). key_of root.place) roots

-- no root has this place
abbrev pub IsFree : ℕ → List DeclaredRoot → Type 0
IsFree key roots = AllByRecursion (λ (other : ℕ). nat_eq key other ≡ false) (keys roots)

-- roots leave every other place, and its origin, as they are
pub roots-free : (account : Account) (roots : List DeclaredRoot) (key : ℕ) → IsFree key roots
    → ((after_roots account roots).state key ≡ account.state key) × ((after_roots account roots).origin key ≡ account.origin key)
roots-free account [] key free = (refl, refl)
roots-free account (root ∷ roots) key free =
    let other : (key_of root.place == key) ≡ false = ne_eqb _ key (λ same. eqb-false key _ free.0 (sym same)) in
    let rest = roots-free (with_root account root.place root.word) roots key free.1 in
    (rest.0 ∙ cond-false _ _ _ other, rest.1 ∙ cond-false _ _ _ other)

-- roots at distinct places, put one after another, make the state that a run starts from
pub state-start : (account : Account) (roots : List DeclaredRoot) (key : ℕ) → IsDistinct nat_eq (keys roots)
    → account.state key ≡ untagged_null → (after_roots account roots).state key ≡ start roots key
unfolding IsDistinct
state-start account [] key distinct null = null
state-start account (root ∷ roots) key distinct null =
    let after = with_root account root.place root.word in
    elim (eqb_tells (key_of root.place) key) [
      | inl same ↦
          let free = subst (λ (k : ℕ). IsFree k roots) same.1 distinct.0 in
          (roots-free after roots key free).0 ∙ cond-true _ _ _ same.0 ∙ sym (cond-true _ _ _ same.0)
      | inr unlike ↦
          state-start after roots key distinct.1 (cond-false _ _ _ unlike.0 ∙ null) ∙ sym (cond-false _ _ _ unlike.0)
    ]

-- and each is its own origin
pub origin-root : (account : Account) (roots : List DeclaredRoot) (root : DeclaredRoot) → IsDistinct nat_eq (keys roots)
    → Contains roots root
    → (after_roots account roots).origin (key_of root.place) ≡ Some root.place
unfolding IsDistinct
origin-root account [] root distinct held = absurd (omega (arith, held.1))
origin-root account (first ∷ roots) root distinct (zero, below, same) =
    let after = with_root account first.place first.word in
    subst (λ (r : DeclaredRoot). (after_roots after roots).origin (key_of r.place) ≡ Some r.place) same
    ((roots-free after roots (key_of first.place) distinct.0).1 ∙ cond-true _ _ _ (eq-eqb (key_of first.place) _ refl))
origin-root account (first ∷ roots) root distinct (suc i, below, same) =
    origin-root (with_root account first.place first.word) roots root distinct.1 (i, omega (arith, below), same)

-- after roots at distinct places an account has the state that they make
pub roots_start : (rules : Rules) (roots : List DeclaredRoot) → IsDistinct nat_eq (keys roots)
    → (after_roots (no_account rules (limits_of rules)) roots).state ≡ start roots
roots_start rules roots distinct = fun_ext (λ key. state-start (no_account rules (limits_of rules)) roots key distinct refl)

-- the account after a run has its last state, and the origins along it
pub after_run : (account : Account) (steps : List Step) (states : List State) → IsRun account.rules account.state steps states
    → ((after_steps account steps).state ≡ last_of account.state states)
    × ((after_steps account steps).origin ≡ origins_along account.origin account.state steps states)
after_run account [] [] run = (refl, refl)
after_run account [] (next ∷ states) run = absurd run
after_run account (step ∷ steps) [] run = absurd run
after_run account (step ∷ steps) (next ∷ states) run =
    let after = with_step account step in
    let one = with_step-grows account step in
    let same : after.state ≡ next = sym run.0.after in
    let later = subst (λ (rules : Rules). IsRun rules after.state steps states) (sym one.rules_stay)
    (subst (λ (state : State). IsRun account.rules state steps states) (sym same) run.1) in
    let rest = after_run after steps states later in (
      rest.0 ∙ ap (λ (state : State). last_of state states) same,
      rest.1 ∙ ap (λ (state : State). origins_along (origins_after account.origin account.state step state) state steps states) same,
    )

-- a run from roots is one of the account after them
from_roots : (rules : Rules) (roots : List DeclaredRoot) (steps : List Step) (states : List State) → IsDistinct nat_eq (keys roots)
    → IsRun rules (start roots) steps states
    → IsRun (after_roots (no_account rules (limits_of rules)) roots).rules (after_roots (no_account rules (limits_of rules)) roots).state steps states
from_roots rules roots steps states distinct run =
    let rooted = after_roots (no_account rules (limits_of rules)) roots in
    let grown = after_roots-grows (no_account rules (limits_of rules)) roots in
    subst (λ (r : Rules). IsRun r rooted.state steps states) (sym grown.rules_stay)
    (subst (λ (s : State). IsRun rules s steps states) (sym (roots_start rules roots distinct)) run)

-- the last state of a run is that of the account after its roots and steps
pub last_after : (rules : Rules) (roots : List DeclaredRoot) (steps : List Step) (states : List State) → IsDistinct nat_eq (keys roots)
    → IsRun rules (start roots) steps states → last_of (start roots) states ≡ (account_after rules roots steps).state
last_after rules roots steps states distinct run =
    ap (λ (s : State). last_of s states) (sym (roots_start rules roots distinct))
    ∙ sym (after_run (after_roots (no_account rules (limits_of rules)) roots) steps states (from_roots rules roots steps states distinct run)).0

-- the last moment of a run
last_moment : (rules : Rules) (state : State) (steps : List Step) (states : List State) → IsRun rules state steps states
    → (state_at state states (length steps) ≡ last_of state states) × (length states ≡ length steps)
last_moment rules state [] [] run = (refl, refl)
last_moment rules state [] (next ∷ states) run = absurd run
last_moment rules state (step ∷ steps) [] run = absurd run
last_moment rules state (step ∷ steps) (next ∷ states) run = let rest = last_moment rules next steps states run.1 in (rest.0, ap suc rest.1)

-- so the origin of each tagged place is the place of the one root that it descends from
pub origins_found : (rules : Rules) (roots : List DeclaredRoot) (steps : List Step) (states : List State) → AreSound roots
    → IsDistinct nat_eq (keys roots)
    → AllByRecursion IsStepInRange steps → IsRun rules (start roots) steps states
    → OriginsAreRoots (account_after rules roots steps) roots steps states
origins_found rules roots steps states sound distinct ranges run key held =
    let rooted = after_roots (no_account rules (limits_of rules)) roots in
    let began = roots_start rules roots distinct in
    let after = after_run rooted steps states (from_roots rules roots steps states distinct run) in
    let last = last_moment rules (start roots) steps states run in
    let state_is = sym (last_after rules roots steps states distinct run) ∙ sym last.0 in
    let root = one_root rules roots steps states sound ranges run (length steps) (omega arith) key
    (ap (λ (s : State). (s key).tag) (sym state_is) ∙ held) in
    let descends = root.1 in
    let whole = subst (λ (l : List Step). Descends (start roots) l (take (length steps) states) key (key_of root.0.place))
    (take_all (length steps) steps (omega arith)) descends.descends in
    let back = subst (λ (l : List State). Descends (start roots) steps l key (key_of root.0.place))
    (take_all (length steps) states (omega (arith, last.1))) whole in (
      root.0,
      descends,
      ap (λ (o : Origins). o key) after.1
          ∙ ap (λ (s : State). origins_along rooted.origin s steps states key) began
          ∙ traced rooted.origin (start roots) steps states key (key_of root.0.place) back
          ∙ origin-root (no_account rules (limits_of rules)) roots root.0 distinct descends.declared,
    )
