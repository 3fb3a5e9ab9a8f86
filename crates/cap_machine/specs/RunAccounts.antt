-- The account that roots and steps lead to, and its origins. All of it is this profile's own.
use Rattle.std.specs.Prelude.{◌≡◌, ℕ, List, length, Some, IsTrue, fold}
use Rattle.cap_log.specs.declared.kinds.Step.{Step}
use Rattle.cap_machine.specs.{declared.rules.Rules.Rules, Accounts.{Account, limits_of, no_account, with_root, with_step}}
use Rattle.cap_machine.specs.{Runs.DescendsFrom, States.{State, DeclaredRoot}}

-- the account after roots and steps
abbrev pub account_after : Rules → List DeclaredRoot → List Step → Account
account_after rules roots steps =
    fold with_step (fold (λ account root. with_root account root.place root.word) (no_account rules (limits_of rules)) roots) steps

-- after a run the account has at each tagged place the place of the one root that it descends from
abbrev pub OriginsAreRoots : Account → List DeclaredRoot → List Step → List State → Type 0
OriginsAreRoots account roots steps states =
    (key : ℕ) → IsTrue (account.state key).tag
    → (root : DeclaredRoot) × DescendsFrom roots steps states (length steps) key root × (account.origin key ≡ Some root.place)
