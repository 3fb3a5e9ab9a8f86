use Rattle.std.proofs.{Common.{◌==◌, ◌<◌, ◌∙◌, ℕ, Option, ap, sym, subst, arith}, Math.Path.fun_ext}
use Rattle.cap_machine.specs.{Accounts.Account, Helds.{account_of, state_of}, Places.place_at, States.put}
use Rattle.cap_run.specs.{Owned.object_by, Run.{first_special, register_key, with_specials}}
use Rattle.cap_run.specs.Specials.{cap_in, label_in}
use Rattle.cap_run_log.specs.{declared.lines.RunRegister.RunRegister, RunLines.IsRunRegister}
use Rattle.cap_run.proofs.PlaceLemmas.{choice_under, with-main, with-special}
use Rattle.cap_run.proofs.puts.put_at.Goals as goal

pub returns-in-General-clause-state : goal.returns-in-General-clause-state
returns-in-General-clause-state g c =
    let n = c.in-General.number in
    let main = state_of c.args.machine.now in
    let special = cap_in c.args.specials.now in
    let low : n < first_special = let f = subst (IsRunRegister 1) c.in-General.is c.requires.target in omega (arith, f.1) in
    ap (λ (a : Account). with_specials a.state special) c.put_labelled.ensures.account
    ∙ fun_ext (with-main main special n c.args.cap low)
    ∙ ap (λ (r : RunRegister). put (with_specials main special) (register_key r) c.args.cap) (sym c.in-General.is)

pub returns-in-General-clause-owners : goal.returns-in-General-clause-owners
returns-in-General-clause-owners g c other =
    let n = c.in-General.number in
    let owner = object_by (place_at c.args.label) in
    let origin = λ (a : Account) (key : ℕ). object_by (a.origin key) in
    let main = origin (account_of c.args.machine.now) in
    let special : ℕ → Option ℕ = λ number. object_by (place_at (label_in c.args.specials.now number)) in
    let low : n < first_special = let f = subst (IsRunRegister 1) c.in-General.is c.requires.target in omega (arith, f.1) in
    ap (λ (a : Account). with_specials (origin a) special other) c.put_labelled.ensures.account
    ∙ ap (λ (m : ℕ → Option ℕ). with_specials m special other) (fun_ext (λ k. choice_under object_by (n == k) (place_at c.args.label) ((account_of c.args.machine.now).origin k)))
    ∙ with-main main special n owner low other
    ∙ ap (λ (r : RunRegister). put (with_specials main special) (register_key r) owner other) (sym c.in-General.is)

pub returns-in-Special-clause-state : goal.returns-in-Special-clause-state
returns-in-Special-clause-state g c =
    let n = c.in-Special.number in
    let main = state_of c.args.machine.now in
    let special = cap_in c.args.specials.now in
    ap (with_specials main) c.put.ensures.caps
    ∙ fun_ext (with-special main special n c.args.cap)
    ∙ ap (λ (r : RunRegister). put (with_specials main special) (register_key r) c.args.cap) (sym c.in-Special.is)

pub returns-in-Special-clause-owners : goal.returns-in-Special-clause-owners
returns-in-Special-clause-owners g c other =
    let n = c.in-Special.number in
    let owner = object_by (place_at c.args.label) in
    let main : ℕ → Option ℕ = λ key. object_by ((account_of c.args.machine.now).origin key) in
    let special : ℕ → Option ℕ = λ number. object_by (place_at (label_in c.args.specials.now number)) in
    ap (λ (l : ℕ → ℕ). with_specials main (λ number. object_by (place_at (l number))) other) c.put.ensures.labels
    ∙ ap (λ (s : ℕ → Option ℕ). with_specials main s other) (fun_ext (λ k. choice_under (λ l. object_by (place_at l)) (n == k) c.args.label (label_in c.args.specials.now k)))
    ∙ with-special main special n owner other
    ∙ ap (λ (r : RunRegister). put (with_specials main special) (register_key r) owner other) (sym c.in-Special.is)
