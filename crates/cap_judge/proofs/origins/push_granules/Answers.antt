use Rattle.std.proofs.Common.{◌≡◌, ◌+◌, ◌^◌, refl, subst, ◌∙◌, arith}
use Rattle.cap_machine.specs.Helds.{account_of}
use Rattle.cap_judge.proofs.OriginLemmas.{no_lines, one_more, stopped, skip_granules, skip_rest}
use Rattle.cap_judge.proofs.origins.push_granules.Goals as goal

pub loop-granule-init : goal.loop-granule-init
loop-granule-init g c = record {
  taken = subst (λ text. g.K.Sink.took c.args.sink.now c.args.sink.now text)
      (no_lines (account_of c.args.machine.now).origin 32) (g.met.K.Sink.nothing c.args.sink.now);
  counted = refl;
  inside = omega arith;
}

pub returns-in-Err-clause-err : goal.returns-in-Err-clause-err
returns-in-Err-clause-err g c =
    let origins = (account_of c.args.machine.now).origin in
    let granule = c.in-Some.granule in
    let held = c.args.machine.now in
    let next = c.in-Some.ensures.next in
    let below = c.in-Some.ensures.in_memory in
    let here : granule + 32 ≡ 32 + granule = omega arith in
    let part = c.in-Err.ensures.err in
    let before = subst (λ text. g.K.Sink.took c.args.sink.now c.loop-granule.sink text)
    (skip_granules held c.loop-granule.from granule next.0 next.2) c.loop-granule.invariant.taken in
    let m = stopped origins 32 granule (granule + 32) (2 ^ 60) part.0 here below in (
      m.0,
      subst (λ text. g.K.Sink.took c.args.sink.now c.push_place.new.sink text) m.1
          (g.met.K.Sink.joined c.args.sink.now c.loop-granule.sink c.push_place.new.sink _ _ before part.1),
    )

pub loop-granule-preserved : goal.loop-granule-preserved
loop-granule-preserved g c =
    let origins = (account_of c.args.machine.now).origin in
    let granule = c.in-Some.granule in
    let held = c.args.machine.now in
    let next = c.in-Some.ensures.next in
    let below = c.in-Some.ensures.in_memory in
    let here : granule + 32 ≡ 32 + granule = omega arith in
    let before = subst (λ text. g.K.Sink.took c.args.sink.now c.loop-granule.sink text)
    (skip_granules held c.loop-granule.from granule next.0 next.2) c.loop-granule.invariant.taken in
    record {
      taken = subst (λ text. g.K.Sink.took c.args.sink.now c.push_place.new.sink text)
          (one_more origins 32 granule (granule + 32) (granule + 1) here refl)
          (g.met.K.Sink.joined c.args.sink.now c.loop-granule.sink c.push_place.new.sink _ _ before c.in_default-push_place.ensures.ok);
      counted = c.in_default-push_place.ensures.counted ∙ c.loop-granule.invariant.counted;
      inside = omega arith;
    }

pub returns-clause-ok : goal.returns-clause-ok
returns-clause-ok g c =
    subst (λ text. g.K.Sink.took c.args.sink.now c.loop-granule.sink text)
    (skip_rest c.args.machine.now c.loop-granule.from (2 ^ 60)
    c.loop-granule.invariant.inside c.in_default.ensures.next) c.loop-granule.invariant.taken
