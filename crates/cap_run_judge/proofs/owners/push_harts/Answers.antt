use Rattle.std.proofs.Common.{◌≡◌, ◌<◌, ◌+◌, ℕ, List, take, refl, subst, ◌∙◌, arith, rules}
use Rattle.std.proofs.lemmas.Bool.{Decides.nat_tests}
use Rattle.cap_run_judge.specs.OwnerLists.{lines_from, register_lines}
use Rattle.cap_run_judge.proofs.{OwnerLemmas.{no_lines, one_more, skip_lines, stopped}, RunReportLemmas.hart_untold}
use Rattle.cap_run_judge.proofs.owners.push_harts.Goals as goal
use Rattle.cap_run.specs.Machines.{run_in}

pub loop-hart-init : goal.loop-hart-init
loop-hart-init g c = record {
  taken = subst (λ text. g.K.Sink.took c.args.sink.now c.args.sink.now text) (no_lines (register_lines (run_in c.args.machine.now)) 0)
      (g.met.K.Sink.nothing c.args.sink.now);
  counted = refl;
  inside = omega arith;
}

pub returns-in-Err-clause-err : goal.returns-in-Err-clause-err
returns-in-Err-clause-err g c =
    let run = run_in c.args.machine.now in
    let hart = c.in-Some.hart in
    let next = c.in-Some.ensures.some in
    let here : hart ≡ 0 + hart = omega arith in
    let part = c.in-Err.ensures.err in
    let before = subst (λ text. g.K.Sink.took c.args.sink.now c.loop-hart.sink text)
    (skip_lines (register_lines run) 0 c.loop-hart.from hart next.0 (λ k more less. hart_untold run k
    (λ register few. next.1 k register (omega (arith, more)) (omega (arith, less)) few))) c.loop-hart.invariant.taken in
    let m = stopped (register_lines run) 0 hart hart 65536 part.0 here (omega arith) in (
      m.0,
      subst (λ text. g.K.Sink.took c.args.sink.now c.push_registers.new.sink text) m.1
          (g.met.K.Sink.joined c.args.sink.now c.loop-hart.sink c.push_registers.new.sink (lines_from (register_lines run) 0 hart)
          (take part.0 (register_lines run hart)) before part.1),
    )

pub returns-then-hart-clause-ok : goal.returns-then-hart-clause-ok
returns-then-hart-clause-ok g c =
    let run = run_in c.args.machine.now in
    let hart = c.in-Some.hart in
    let next = c.in-Some.ensures.some in
    let here : hart ≡ 0 + hart = omega arith in
    let before = subst (λ text. g.K.Sink.took c.args.sink.now c.loop-hart.sink text)
    (skip_lines (register_lines run) 0 c.loop-hart.from hart next.0 (λ k more less. hart_untold run k
    (λ register few. next.1 k register (omega (arith, more)) (omega (arith, less)) few))) c.loop-hart.invariant.taken in
    let last = c.if-hart.true in
    let whole : 65536 ≡ hart + 1 = omega (arith, last) in
    subst (λ text. g.K.Sink.took c.args.sink.now c.push_registers.new.sink text)
    (one_more (register_lines run) 0 hart hart 65536 here whole)
    (g.met.K.Sink.joined c.args.sink.now c.loop-hart.sink c.push_registers.new.sink (lines_from (register_lines run) 0 hart)
    (register_lines run hart) before c.in_default-push_registers.ensures.ok)

pub loop-hart-preserved : goal.loop-hart-preserved
loop-hart-preserved g c =
    let run = run_in c.args.machine.now in
    let hart = c.in-Some.hart in
    let next = c.in-Some.ensures.some in
    let here : hart ≡ 0 + hart = omega arith in
    let before = subst (λ text. g.K.Sink.took c.args.sink.now c.loop-hart.sink text)
    (skip_lines (register_lines run) 0 c.loop-hart.from hart next.0 (λ k more less. hart_untold run k
    (λ register few. next.1 k register (omega (arith, more)) (omega (arith, less)) few))) c.loop-hart.invariant.taken in
    record {
      taken = subst (λ text. g.K.Sink.took c.args.sink.now c.push_registers.new.sink text)
          (one_more (register_lines run) 0 hart hart (hart + 1) here refl)
          (g.met.K.Sink.joined c.args.sink.now c.loop-hart.sink c.push_registers.new.sink (lines_from (register_lines run) 0 hart)
          (register_lines run hart) before c.in_default-push_registers.ensures.ok);
      counted = c.in_default-push_registers.ensures.counted ∙ c.loop-hart.invariant.counted;
      inside = let other = c.if-hart.false in let low : hart < 65536 = search rules in grind (arith, nat_tests, other, low);
    }

pub returns-clause-ok : goal.returns-clause-ok
returns-clause-ok g c =
    let run = run_in c.args.machine.now in
    let few = c.loop-hart.invariant.inside in
    subst (λ text. g.K.Sink.took c.args.sink.now c.loop-hart.sink text)
    (skip_lines (register_lines run) 0 c.loop-hart.from 65536 (omega (arith, few)) (λ k more less. hart_untold run k
    (λ register few. c.in_default.ensures.none k register (omega (arith, more)) (omega (arith, less)) few))) c.loop-hart.invariant.taken
