use Rattle.std.proofs.Common.{◌≡◌, ◌+◌, ◌-◌, ℕ, List, take, refl, subst, ◌∙◌, arith}
use Rattle.cap_run_judge.specs.{OwnerLists.{numbered_line}}
use Rattle.cap_run_judge.proofs.{OwnerLemmas.{no_lines, one_more, skip_lines, stopped}, RunReportLemmas.{listed, object_told, object_untold}}
use Rattle.cap_run_judge.proofs.owners.push_objects.Goals as goal
use Rattle.cap_run.specs.Machines.{run_in}

pub loop-object-init : goal.loop-object-init
loop-object-init g c = record {
  taken = subst (λ text. g.K.Sink.took c.args.sink.now c.args.sink.now text) (no_lines (numbered_line (run_in c.args.machine.now)) 1)
      (g.met.K.Sink.nothing c.args.sink.now);
  counted = refl;
  some = omega arith;
  few = omega arith;
}

pub returns-in-Err-clause-err : goal.returns-in-Err-clause-err
returns-in-Err-clause-err g c =
    let run = run_in c.args.machine.now in
    let line : ℕ → List ℕ = numbered_line run in
    let from = c.loop-object.from in
    let number = c.in-Some.object.number in
    let next = c.in-Some.ensures.some in
    let least = next.1 in
    let some = c.loop-object.invariant.some in
    let there = listed c.args.machine.now.objects number c.in-Some.object next.0 in
    let few = there.few in
    let here : number ≡ 1 + (number - 1) = omega (arith, least, some) in
    let part = c.in-Err.ensures.err in
    let before = subst (λ text. g.K.Sink.took c.args.sink.now c.loop-object.sink text)
    (skip_lines line 1 (from - 1) (number - 1) (omega (arith, least, some)) (λ k more less. object_untold run k
    (next.2 k (omega (arith, more, some)) (omega (arith, less, least, some))))) c.loop-object.invariant.taken in
    let told = object_told run number c.roots-roots.result c.in-Some.object c.roots-roots.ensures.value next.0 in
    let now = subst (λ text. g.K.Sink.took c.loop-object.sink c.push_object.new.sink (take part.0 text)) told part.1 in
    let m = stopped line 1 (number - 1) number run.count part.0 here (omega (arith, few, least, some)) in (
      m.0,
      subst (λ text. g.K.Sink.took c.args.sink.now c.push_object.new.sink text) m.1
          (g.met.K.Sink.joined c.args.sink.now c.loop-object.sink c.push_object.new.sink _ _ before now),
    )

pub returns-then-object-last-clause-ok : goal.returns-then-object-last-clause-ok
returns-then-object-last-clause-ok g c =
    let run = run_in c.args.machine.now in
    let line : ℕ → List ℕ = numbered_line run in
    let from = c.loop-object.from in
    let number = c.in-Some.object.number in
    let next = c.in-Some.ensures.some in
    let least = next.1 in
    let some = c.loop-object.invariant.some in
    let there = listed c.args.machine.now.objects number c.in-Some.object next.0 in
    let few = there.few in
    let last = c.count-last.ensures.value in
    let reached = c.if-object-last.true in
    let here : number ≡ 1 + (number - 1) = omega (arith, least, some) in
    let whole : run.count ≡ (number - 1) + 1 = omega (arith, least, some, few, last, reached) in
    let before = subst (λ text. g.K.Sink.took c.args.sink.now c.loop-object.sink text)
    (skip_lines line 1 (from - 1) (number - 1) (omega (arith, least, some)) (λ k more less. object_untold run k
    (next.2 k (omega (arith, more, some)) (omega (arith, less, least, some))))) c.loop-object.invariant.taken in
    let told = object_told run number c.roots-roots.result c.in-Some.object c.roots-roots.ensures.value next.0 in
    let now = subst (λ text. g.K.Sink.took c.loop-object.sink c.push_object.new.sink text) told
    c.in_default-push_object.ensures.ok in
    subst (λ text. g.K.Sink.took c.args.sink.now c.push_object.new.sink text)
    (one_more line 1 (number - 1) number run.count here whole)
    (g.met.K.Sink.joined c.args.sink.now c.loop-object.sink c.push_object.new.sink _ _ before now)

pub loop-object-smaller : goal.loop-object-smaller
loop-object-smaller g c =
    let next = c.in-Some.ensures.some in
    let least = next.1 in
    let there = listed c.args.machine.now.objects c.in-Some.object.number c.in-Some.object next.0 in
    let few = there.few in
    omega (arith, least, few)

pub loop-object-preserved : goal.loop-object-preserved
loop-object-preserved g c =
    let run = run_in c.args.machine.now in
    let line : ℕ → List ℕ = numbered_line run in
    let from = c.loop-object.from in
    let number = c.in-Some.object.number in
    let next = c.in-Some.ensures.some in
    let least = next.1 in
    let some = c.loop-object.invariant.some in
    let there = listed c.args.machine.now.objects number c.in-Some.object next.0 in
    let few = there.few in
    let here : number ≡ 1 + (number - 1) = omega (arith, least, some) in
    let more : number + 1 - 1 ≡ (number - 1) + 1 = omega (arith, least, some) in
    let before = subst (λ text. g.K.Sink.took c.args.sink.now c.loop-object.sink text)
    (skip_lines line 1 (from - 1) (number - 1) (omega (arith, least, some)) (λ k more less. object_untold run k
    (next.2 k (omega (arith, more, some)) (omega (arith, less, least, some))))) c.loop-object.invariant.taken in
    let told = object_told run number c.roots-roots.result c.in-Some.object c.roots-roots.ensures.value next.0 in
    let now = subst (λ text. g.K.Sink.took c.loop-object.sink c.push_object.new.sink text) told
    c.in_default-push_object.ensures.ok in
    record {
      taken = subst (λ text. g.K.Sink.took c.args.sink.now c.push_object.new.sink text)
          (one_more line 1 (number - 1) number (number + 1 - 1) here more)
          (g.met.K.Sink.joined c.args.sink.now c.loop-object.sink c.push_object.new.sink _ _ before now);
      counted = c.in_default-push_object.ensures.counted ∙ c.loop-object.invariant.counted;
      some = omega arith;
      few = omega (arith, few);
    }

pub returns-clause-ok : goal.returns-clause-ok
returns-clause-ok g c =
    let run = run_in c.args.machine.now in
    let line : ℕ → List ℕ = numbered_line run in
    let from = c.loop-object.from in
    let some = c.loop-object.invariant.some in
    let few = c.loop-object.invariant.few in
    subst (λ text. g.K.Sink.took c.args.sink.now c.loop-object.sink text)
    (skip_lines line 1 (from - 1) run.count (omega (arith, some, few)) (λ k more less. object_untold run k
    (c.in_default.ensures.none k (omega (arith, more, some))))) c.loop-object.invariant.taken
