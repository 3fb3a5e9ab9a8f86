use Rattle.std.proofs.Common.{[], ℕ, List, Bor, Option, Ok, refl, subst}
use Rattle.cap_judge.specs.Readings.{TakesOne}
use Rattle.cap_judge.proofs.TurnLemmas.{makes_more, makes_none, makes_one}
use Rattle.cap_judge.proofs.steps.take_steps.Goals as goal

pub steps-init : goal.steps-init
steps-init g c = record { taken = ([], refl, makes_none c.args.machine.now) }

pub steps-preserved : goal.steps-preserved
steps-preserved g c =
    let first = c.args.machine.now in
    let middle = c.take_usual-end.new.machine in
    let so_far = c.steps.invariant.taken in
    let usual = c.take_usual-end.ensures.taken in
    let here = c.take_usual-end.result.0.now in
    let on = makes_more first c.steps.machine middle c.args.bytes.now so_far.0 c.steps.rest.now usual.0 here
    so_far.1 so_far.2 usual.1 usual.2 in
    let taken = subst (λ (t : Option (Bor (List ℕ))). TakesOne middle here (Ok t) c.take_rare.new.machine)
    c.in-Ok-Some.field-0-is c.in-Ok-Some.ensures in
    record {
      taken = makes_one first middle c.take_rare.new.machine c.args.bytes.now on.0 here c.in-Ok-Some.behind.now on.1 on.2 taken;
    }

pub returns-in-Some-clause-taken : goal.returns-in-Some-clause-taken
returns-in-Some-clause-taken g c =
    let so_far = c.steps.invariant.taken in
    let usual = c.take_usual-end.ensures.taken in
    makes_more c.args.machine.now c.steps.machine c.take_usual-end.new.machine c.args.bytes.now
    so_far.0 c.steps.rest.now
    usual.0 c.take_usual-end.result.0.now so_far.1 so_far.2 usual.1 usual.2

pub returns-in-Ok-None-clause-taken : goal.returns-in-Ok-None-clause-taken
returns-in-Ok-None-clause-taken g c =
    let middle = c.take_usual-end.new.machine in
    let so_far = c.steps.invariant.taken in
    let usual = c.take_usual-end.ensures.taken in
    let new = c.take_rare.new.machine in
    let same = subst (λ (t : Option (Bor (List ℕ))). TakesOne middle c.take_usual-end.result.0.now (Ok t) new) c.in-Ok-None.field-0-is
    c.in-Ok-None.ensures in
    rw same
    (makes_more c.args.machine.now c.steps.machine middle c.args.bytes.now so_far.0 c.steps.rest.now
    usual.0 c.take_usual-end.result.0.now so_far.1 so_far.2 usual.1 usual.2)

pub returns-in-Err-clause-taken : goal.returns-in-Err-clause-taken
returns-in-Err-clause-taken g c =
    let so_far = c.steps.invariant.taken in
    let usual = c.take_usual-end.ensures.taken in
    rw c.in-Err.ensures.1
    (makes_more c.args.machine.now c.steps.machine c.take_usual-end.new.machine c.args.bytes.now
    so_far.0 c.steps.rest.now
    usual.0 c.take_usual-end.result.0.now so_far.1 so_far.2 usual.1 usual.2)
