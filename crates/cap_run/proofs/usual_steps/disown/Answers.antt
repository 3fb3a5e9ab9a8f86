use Rattle.std.proofs.{Common.{◌≡◌, ◌==◌, ◌∙◌, ◌&&◌, ◌≤◌, ℕ, Bool, IsTrue, true, false, not, arith, refl, subst, Option, Some, None, if◌then◌else◌, ap, sym}, lemmas.Bool.{and_right, cond-false}, Math.Path.fun_ext}
use Rattle.cap_word.specs.declared.word.Cap.{Cap}
use Rattle.cap_log.specs.declared.lines.Place.{Place}
use Rattle.cap_machine.specs.{Accounts.Account, Helds.{account_of, state_of}, Places.{IsCoded, place_at}}
use Rattle.cap_run.specs.{Owned.{is_empty, object_by, owner_for}, UsualSteps.{disowned, main_owners}}
use Rattle.cap_run.proofs.{ObjectLemmas.put-same, PlaceLemmas.choice_under}
use Rattle.cap_run.proofs.usual_steps.disown.Goals as goal

tagged_by : (tag : Bool) (label : ℕ) → IsCoded tag label → 32 ≤ label → IsTrue tag
tagged_by true label coded high = refl
tagged_by false label coded high = absurd (let none = coded.0.1 refl in omega (arith, none, high))

-- empty bounds have no owner
empty-unowned : (cap : Cap) (owner : Option ℕ) → is_empty cap.word.0 ≡ true → owner_for cap owner ≡ None
empty-unowned cap owner is =
    cond-false (cap.tag && not (is_empty cap.word.0)) owner None (and_right cap.tag (not (is_empty cap.word.0)) (ap not is))

pub returns-then-is_empty-clause-state : goal.returns-then-is_empty-clause-state
returns-then-is_empty-clause-state g c =
    ap (λ (a : Account). a.state) c.put_labelled.ensures.account
    ∙ fun_ext (put-same (state_of c.args.machine.now) c.in-Some-Register.number c.register-cap.result c.register-cap.ensures.holds)

pub returns-then-is_empty-clause-owners : goal.returns-then-is_empty-clause-owners
returns-then-is_empty-clause-owners g c key =
    let n = c.in-Some-Register.number in
    let owners = main_owners c.args.machine.now in
    let place = rw c.in-Some-Register.is at c.in-Some-Register.field-0-is in
    let written = c.in-Some-Register.is ∙ ap Some place in
    let tagged = tagged_by c.register-cap.result.tag c.label.result (subst (λ (k : Cap). IsCoded k.tag c.label.result) (sym c.register-cap.ensures.holds) c.label.ensures.coded) (omega (arith, c.if-label-ge32.true)) in
    let sound = c.register-cap.ensures.sound tagged in
    let empty = sym (c.is_empty.ensures.value sound) ∙ c.if-is_empty.true in
    let none = ap (λ (cap : Cap). owner_for cap (owners n)) (sym c.register-cap.ensures.holds) ∙ empty-unowned c.register-cap.result (owners n) empty in
    ap (λ (a : Account). object_by (a.origin key)) c.put_labelled.ensures.account
    ∙ choice_under object_by (n == key) (place_at 1) ((account_of c.args.machine.now).origin key)
    ∙ ap (λ (o : Option ℕ). if n == key then o else owners key) (sym none)
    ∙ ap (λ (w : Option Place). disowned w (state_of c.args.machine.now) owners key) (sym written)
