use Rattle.std.proofs.Common.{◌≡◌, ◌+◌, ◌-◌, refl, subst, ◌∙◌, arith}
use Rattle.cap_machine.specs.Helds.{account_of}
use Rattle.cap_judge.proofs.OriginLemmas.{no_lines, one_more, stopped}
use Rattle.cap_judge.proofs.origins.push_registers.Goals as goal

pub loop-number-init : goal.loop-number-init
loop-number-init g c = record {
  taken = subst (λ text. g.K.Sink.took c.args.sink.now c.args.sink.now text)
      (no_lines (account_of c.args.machine.now).origin 1) (g.met.K.Sink.nothing c.args.sink.now);
  counted = refl;
}

pub returns-in-Err-clause-err : goal.returns-in-Err-clause-err
returns-in-Err-clause-err g c =
    let origins = (account_of c.args.machine.now).origin in
    let number = c.loop-number.number in
    let least = c.loop-number.auto.number in
    let less = c.loop-number-test.true in
    let here : number ≡ 1 + (number - 1) = omega arith in
    let part = c.in-Err.ensures.err in
    let m = stopped origins 1 (number - 1) number 31 part.0 here (omega arith) in (
      m.0,
      subst (λ text. g.K.Sink.took c.args.sink.now c.push_place.new.sink text) m.1
          (g.met.K.Sink.joined c.args.sink.now c.loop-number.sink c.push_place.new.sink _ _ c.loop-number.invariant.taken part.1),
    )

pub loop-number-preserved : goal.loop-number-preserved
loop-number-preserved g c =
    let origins = (account_of c.args.machine.now).origin in
    let number = c.loop-number.number in
    let least = c.loop-number.auto.number in
    let here : number ≡ 1 + (number - 1) = omega arith in
    let more : number + 1 - 1 ≡ (number - 1) + 1 = omega arith in
    record {
      taken = subst (λ text. g.K.Sink.took c.args.sink.now c.push_place.new.sink text)
          (one_more origins 1 (number - 1) number (number + 1 - 1) here more)
          (g.met.K.Sink.joined c.args.sink.now c.loop-number.sink c.push_place.new.sink _ _
          c.loop-number.invariant.taken c.in_default.ensures.ok);
      counted = c.in_default.ensures.counted ∙ c.loop-number.invariant.counted;
    }
