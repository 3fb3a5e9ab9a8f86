use Rattle.std.proofs.Common.{◌≡◌, ◌+◌, ◌-◌, ℕ, List, take, refl, subst, ◌∙◌, arith}
use Rattle.cap_run.specs.HartPlaces.{place_numbered}
use Rattle.cap_run_log.specs.declared.lines.RunPlace.{RunPlace}
use Rattle.cap_run_judge.specs.{OwnerLists.{lines_from, place_line}}
use Rattle.cap_run_judge.proofs.OwnerLemmas.{no_lines, one_more, stopped}
use Rattle.cap_run_judge.proofs.owners.push_registers.Goals as goal
use Rattle.cap_run.specs.Machines.{run_in}

pub loop-number-init : goal.loop-number-init
loop-number-init g c = record {
  taken = subst (λ text. g.K.Sink.took c.args.sink.now c.args.sink.now text)
      (no_lines (λ number. place_line (run_in c.args.machine.now) c.args.hart (place_numbered number)) 1) (g.met.K.Sink.nothing c.args.sink.now);
  counted = refl;
}

pub returns-in-Err-clause-err : goal.returns-in-Err-clause-err
returns-in-Err-clause-err g c =
    let run = run_in c.args.machine.now in
    let line : ℕ → List ℕ = λ number. place_line run c.args.hart (place_numbered number) in
    let number = c.loop-number.number in
    let least = c.loop-number.auto.number in
    let less = c.loop-number-test.true in
    let here : number ≡ 1 + (number - 1) = omega arith in
    let part = c.in-Err.ensures.err in
    let m = stopped line 1 (number - 1) number 63 part.0 here (omega arith) in (
      m.0,
      subst (λ text. g.K.Sink.took c.args.sink.now c.push_owner.new.sink text) m.1
          (g.met.K.Sink.joined c.args.sink.now c.loop-number.sink c.push_owner.new.sink (lines_from line 1 (number - 1)) (take part.0 (line number))
          c.loop-number.invariant.taken
          (subst (λ (place : RunPlace). g.K.Sink.took c.loop-number.sink c.push_owner.new.sink (take part.0 (place_line run c.args.hart place)))
          c.place_numbered.ensures.value part.1)),
    )

pub loop-number-preserved : goal.loop-number-preserved
loop-number-preserved g c =
    let run = run_in c.args.machine.now in
    let line : ℕ → List ℕ = λ number. place_line run c.args.hart (place_numbered number) in
    let number = c.loop-number.number in
    let least = c.loop-number.auto.number in
    let here : number ≡ 1 + (number - 1) = omega arith in
    let more : number + 1 - 1 ≡ (number - 1) + 1 = omega arith in
    record {
      taken = subst (λ text. g.K.Sink.took c.args.sink.now c.push_owner.new.sink text)
          (one_more line 1 (number - 1) number (number + 1 - 1) here more)
          (g.met.K.Sink.joined c.args.sink.now c.loop-number.sink c.push_owner.new.sink (lines_from line 1 (number - 1)) (line number)
          c.loop-number.invariant.taken
          (subst (λ (place : RunPlace). g.K.Sink.took c.loop-number.sink c.push_owner.new.sink (place_line run c.args.hart place))
          c.place_numbered.ensures.value c.in_default.ensures.ok));
      counted = c.in_default.ensures.counted ∙ c.loop-number.invariant.counted;
    }
