-- Accounts: how they grow, and the roots and steps of which no test holds.
use Rattle.std.proofs.Common.{◌≡◌, ℕ, ◌+◌, ◌<◌, ◌≤◌, Bool, true, false, not, ◌&&◌, ◌||◌, nat_le, List, [], ◌∷◌, length}
use Rattle.std.proofs.Common.{Option, Some, None, refl, sym, ap, ◌∙◌, arith, if◌then◌else◌, fold}
use Rattle.std.proofs.lemmas.Bool.{false≢true, or_from, lt-leb}
use Rattle.cap_word.specs.declared.word.Word.{Word}
use Rattle.cap_bounds.specs.Bounds.{is_sound}
use Rattle.cap_ops.specs.Checks.{first_of}
use Rattle.cap_ops.proofs.TestLemmas.{NoneHold, first_of-append_none}
use Rattle.cap_log.specs.declared.{kinds.Step.Step, lines.Place.Place}
use Rattle.cap_machine.specs.{declared.rules.Rules.Rules, Accounts.{Account, limits_of, no_account}}
use Rattle.cap_machine.specs.Accounts.{most_steps, granule_of, named_by, row_in, passes_granule_limit, naming}
use Rattle.cap_machine.specs.{Accounts.{with_root, with_step, root_checks, step_checks}, RunAccounts.account_after}
use Rattle.cap_machine.specs.{States.{State, DeclaredRoot, key_of}, Steps.Leads}
use Rattle.cap_machine.proofs.{MadeLemmas.ending, StepLemmas.is_recorded}

-- the account after roots, and after steps
abbrev pub after_roots : Account → List DeclaredRoot → Account
after_roots account roots = fold (λ (before : Account) (root : DeclaredRoot). with_root before root.place root.word) account roots

abbrev pub after_steps : Account → List Step → Account
after_steps account steps = fold with_step account steps

-- an account grows into another by so many roots and steps: its rules and limits stay, and no granule that was named is taken away
pub record Grows (old new : Account) (roots steps : ℕ) : Type 0 where
  pub rules_stay : new.rules ≡ old.rules
  pub limits_stay : new.limits ≡ old.limits
  pub roots_are : new.roots ≡ old.roots + roots
  pub steps_are : new.steps ≡ old.steps + steps
  pub granules_stay : old.granules ≤ new.granules

one_more : (named : Bool) (granules : ℕ) → granules ≤ (if named then granules else granules + 1)
one_more true granules = omega arith
one_more false granules = omega arith

pub naming-grows : (account : Account) (granule : Option ℕ) → Grows account (naming account granule) 0 0
naming-grows account None =
    record { rules_stay = refl; limits_stay = refl; roots_are = omega arith; steps_are = omega arith; granules_stay = omega arith }
naming-grows account (Some granule) =
    let more = one_more (account.is_named granule) account.granules in
    record { rules_stay = refl; limits_stay = refl; roots_are = omega arith; steps_are = omega arith; granules_stay = more }

pub with_root-grows : (account : Account) (place : Place) (word : Word) → Grows account (with_root account place word) 1 0
with_root-grows account place word =
    let named = naming-grows account (granule_of place) in
    record { rules_stay = named.rules_stay; limits_stay = named.limits_stay; roots_are = refl; steps_are = named.steps_are; granules_stay = named.granules_stay }

pub with_step-grows : (account : Account) (step : Step) → Grows account (with_step account step) 0 1
with_step-grows account step =
    let named = naming-grows account (named_by (row_in account step)) in
    record { rules_stay = named.rules_stay; limits_stay = named.limits_stay; roots_are = named.roots_are; steps_are = refl; granules_stay = named.granules_stay }

-- and by roots and steps one after another
pub after_roots-grows : (account : Account) (roots : List DeclaredRoot) → Grows account (after_roots account roots) (length roots) 0
after_roots-grows account [] = record { rules_stay = refl; limits_stay = refl; roots_are = omega arith; steps_are = omega arith; granules_stay = omega arith }
after_roots-grows account (root ∷ roots) =
    let one = with_root-grows account root.place root.word in
    let rest = after_roots-grows (with_root account root.place root.word) roots in
    record { rules_stay = rest.rules_stay ∙ one.rules_stay; limits_stay = rest.limits_stay ∙ one.limits_stay; roots_are = omega arith; steps_are = omega arith; granules_stay = omega arith }

pub after_steps-grows : (account : Account) (steps : List Step) → Grows account (after_steps account steps) 0 (length steps)
after_steps-grows account [] = record { rules_stay = refl; limits_stay = refl; roots_are = omega arith; steps_are = omega arith; granules_stay = omega arith }
after_steps-grows account (step ∷ steps) =
    let one = with_step-grows account step in
    let rest = after_steps-grows (with_step account step) steps in
    record { rules_stay = rest.rules_stay ∙ one.rules_stay; limits_stay = rest.limits_stay ∙ one.limits_stay; roots_are = omega arith; steps_are = omega arith; granules_stay = omega arith }

pub account_after-grows : (rules_are : Rules) (roots : List DeclaredRoot) (steps : List Step)
    → Grows (no_account rules_are (limits_of rules_are)) (account_after rules_are roots steps) (length roots) (length steps)
account_after-grows rules_are roots steps =
    let first = after_roots-grows (no_account rules_are (limits_of rules_are)) roots in
    let rest = after_steps-grows (after_roots (no_account rules_are (limits_of rules_are)) roots) steps in
    let rules_stay = rest.rules_stay ∙ first.rules_stay in
    let limits_stay = rest.limits_stay ∙ first.limits_stay in
    record { rules_stay = rules_stay; limits_stay = limits_stay; roots_are = omega arith; steps_are = omega arith; granules_stay = omega arith }

not_passed : (named : Bool) (granules most : ℕ) → (if named then granules else granules + 1) ≤ most
    → (not named && nat_le most granules) ≡ false
not_passed true granules most few = refl
not_passed false granules most few = lt-leb most granules (omega arith)

-- where an account keeps to the limit with a granule named, naming it doesn't pass the limit
within : (account : Account) (granule : Option ℕ) → (naming account granule).granules ≤ account.limits.granules
    → passes_granule_limit account granule ≡ false
within account None few = refl
within account (Some granule) few = not_passed (account.is_named granule) account.granules account.limits.granules few

-- the first of tests of which none holds
pub first_of-none : {F : Type 0} (checks : List (Bool × F)) → NoneHold checks → first_of checks ≡ None
first_of-none [] free = refl
first_of-none ((true, found) ∷ checks) free = absurd (false≢true (sym free.0))
first_of-none ((false, found) ∷ checks) free = first_of-none checks free.1

-- no test holds of a sound root at a place without a tag, where the account with it keeps to the limits
pub root_free : (account : Account) (place : Place) (word : Word) → (account.state (key_of place)).tag ≡ false → is_sound word.0 ≡ true
    → account.roots < account.limits.roots → (naming account (granule_of place)).granules ≤ account.limits.granules
    → NoneHold (root_checks account place word)
root_free account place word untagged sound few_roots few_granules =
    let limit = or_from _ _ (lt-leb account.limits.roots account.roots few_roots) (within account (granule_of place) few_granules) in
    (untagged, (ap not sound, (limit, tt)))

-- no test holds of a step that leads on, where the account with it keeps to the limits
pub step_free : (account : Account) (step : Step) (next : State) → Leads account.rules account.state step next
    → account.steps < most_steps → (naming account (named_by (row_in account step))).granules ≤ account.limits.granules
    → first_of (step_checks account step) ≡ None
step_free account step next leads few_steps few_granules =
    let row = row_in account step in
    let limit = or_from _ _ (lt-leb most_steps account.steps few_steps) (within account (named_by row) few_granules) in
    first_of-append_none row.checks _ leads.allowed
    ∙ first_of-none (ending (is_recorded row) (nat_le most_steps account.steps || passes_granule_limit account (named_by row)))
    (ap not leads.recorded, (limit, tt))
