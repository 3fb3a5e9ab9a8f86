use Rattle.std.proofs.Common.{◌+◌, MatchOption, Option, arith, subst, sym}
use Rattle.cap_objects.specs.declared.objects.Object.{Object}
use Rattle.cap_run_report.specs.ObjectParts.{IsLeastMet, MeetsNone}
use Rattle.cap_run_report.proofs.ObjectLemmas.{all_found, found_more, least_left, none_left}
use Rattle.cap_run_report.proofs.object_parts.least_met.Goals as goal
use Rattle.cap_run.specs.Machines.{run_in}

pub loop-object-preserved : goal.loop-object-preserved
loop-object-preserved g c =
    let run = run_in c.args.machine.now in
    let a = c.args in
    let next = c.in-Some.ensures.some in
    let last = c.count-last.ensures.value in
    let before = c.if-object-last.false in
    let below = c.in-Some.object.number + 1 in
    record {
      least = subst
          (λ (o : Option Object). MatchOption o (MeetsNone run a.left_out a.freed a.base a.top below) (IsLeastMet run a.left_out a.freed a.base a.top below))
          (sym c.lesser-found.ensures)
          (found_more run a.left_out a.freed a.base a.top c.loop-object.from c.in-Some.object next.0 next.1 next.2 c.loop-object.found c.is_met.result
          c.is_met.ensures c.loop-object.invariant.least);
      few = omega (arith, last, before);
    }

pub returns-then-object-last-clause-some : goal.returns-then-object-last-clause-some
returns-then-object-last-clause-some g c =
    let run = run_in c.args.machine.now in
    let a = c.args in
    let next = c.in-Some.ensures.some in
    let last = c.count-last.ensures.value in
    let reached = c.if-object-last.true in
    let below = c.in-Some.object.number + 1 in
    all_found run a.left_out a.freed a.base a.top below (run.count + 1) _ (omega (arith, last, reached))
    (subst (λ (o : Option Object). MatchOption o (MeetsNone run a.left_out a.freed a.base a.top below) (IsLeastMet run a.left_out a.freed a.base a.top below))
    (sym c.lesser-found.ensures)
    (found_more run a.left_out a.freed a.base a.top c.loop-object.from c.in-Some.object next.0 next.1 next.2 c.loop-object.found c.is_met.result
    c.is_met.ensures c.loop-object.invariant.least))

pub loop-object-init : goal.loop-object-init
loop-object-init g c = record { least = λ other it below. absurd (omega (arith, below)); few = omega arith }

pub returns-clause-some : goal.returns-clause-some
returns-clause-some g c =
    let a = c.args in
    let run = run_in a.machine.now in
    least_left run a.left_out a.freed a.base a.top c.loop-object.from (run.count + 1) c.in_default.ensures.none c.loop-object.found c.loop-object.invariant.least

pub returns-clause-none : goal.returns-clause-none
returns-clause-none g c =
    let a = c.args in
    let run = run_in a.machine.now in
    none_left run a.left_out a.freed a.base a.top c.loop-object.from (run.count + 1) c.in_default.ensures.none c.loop-object.found c.loop-object.invariant.least
