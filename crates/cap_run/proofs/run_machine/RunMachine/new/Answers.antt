use Rattle.std.proofs.{Common.{ℕ, None, ap, sym, arith, ◌∙◌, option_and_then}, Math.Path.fun_ext}
use Rattle.std.proofs.lemmas.Option.{none-some}
use Rattle.cap_machine.specs.{Accounts.Account, Helds.{account_of, state_of}, Places.place_at, States.untagged_null}
use Rattle.cap_objects.specs.{Counts.{is_owner, most_places}, Handed.held_of, HandoutsIn.objects_of}
use Rattle.cap_objects.proofs.BelowLemmas.{below-none}
use Rattle.cap_run.specs.{Numbers.{number_at, numbered_run}, Owned.object_by, RunChanges.no_run, RunOf.run_owners, Specials.{cap_in, label_in}}
use Rattle.cap_run.proofs.{RunNumberLemmas.{index_in, nowhere, run-is}, PlaceLemmas.{specials-all}}
use Rattle.cap_run.proofs.run_machine.RunMachine.new.Goals as goal

pub returns-clause-run : goal.returns-clause-run
returns-clause-run g c =
    let held = c.with_limits.result in
    let specials = c.new.result in
    let account = c.with_limits.ensures.account in
    let none = specials-all (λ key. object_by ((account_of held).origin key)) (λ number. object_by (place_at (label_in specials number))) None
    (λ key. ap (λ (a : Account). object_by (a.origin key)) account)
    (λ number. ap (λ (n : ℕ). object_by (place_at n)) (c.new.ensures.labels number)) in
    run-is (numbered_run held specials c.new-2.result) no_run
    (fun_ext (specials-all (state_of held) (cap_in specials) untagged_null (λ key. ap (λ (a : Account). a.state key) account) c.new.ensures.caps))
    (fun_ext (λ key. ap (option_and_then (number_at (objects_of c.new-2.result))) (none key)))
    (fun_ext (λ n. nowhere (objects_of c.new-2.result) c.new-2.ensures.empty (index_in c.new-2.result n)))
    c.new-2.ensures.count (ap (λ (a : Account). a.rules) account) (ap (λ (a : Account). a.limits) account) (ap (λ (a : Account). a.roots) account) (ap (λ (a : Account). a.steps) account)
    (ap (λ (a : Account). a.is_named) account) (ap (λ (a : Account). a.granules) account) c.new.ensures.harts

pub invariant_of-result : goal.invariant_of-result
invariant_of-result g c =
    let none = specials-all (λ key. object_by ((account_of c.with_limits.result).origin key)) (λ number. object_by (place_at (label_in c.new.result number))) None
    (λ key. ap (λ (a : Account). object_by (a.origin key)) c.with_limits.ensures.account)
    (λ number. ap (λ (n : ℕ). object_by (place_at n)) (c.new.ensures.labels number)) in
    record {
      counted = λ slot. ap held_of (c.new-2.ensures.empty slot)
          ∙ sym (below-none (λ key. is_owner slot (run_owners c.with_limits.result c.new.result key)) most_places (λ key. ap (is_owner slot) (none key)));
      within = λ key slot object owned there. absurd (none-some slot (sym (none key) ∙ owned));
      few = omega (arith, c.new-2.ensures.count);
      asked = c.new-2.ensures.keeps;
    }
