use Rattle.std.proofs.Common.{◌≡◌, ◌+◌, ◌^◌, ℕ, List, refl, subst, ◌∙◌, arith}
use Rattle.cap_run_log.specs.declared.lines.RunPlace.TheVariants.{Granule}
use Rattle.cap_run_judge.specs.{OwnerLists.place_line}
use Rattle.cap_run_judge.proofs.{OwnerLemmas.{no_lines, one_more, skip_lines, stopped}, RunReportLemmas.granule_untold}
use Rattle.cap_run_judge.proofs.owners.push_granules.Goals as goal
use Rattle.cap_run.specs.Machines.{run_in}

pub loop-granule-init : goal.loop-granule-init
loop-granule-init g c = record {
  taken = subst (λ text. g.K.Sink.took c.args.sink.now c.args.sink.now text)
      (no_lines (λ granule. place_line (run_in c.args.machine.now) 0 (Granule granule)) 0) (g.met.K.Sink.nothing c.args.sink.now);
  counted = refl;
  inside = omega arith;
}

pub returns-in-Err-clause-err : goal.returns-in-Err-clause-err
returns-in-Err-clause-err g c =
    let run = run_in c.args.machine.now in
    let line : ℕ → List ℕ = λ granule. place_line run 0 (Granule granule) in
    let granule = c.in-Some.granule in
    let next = c.in-Some.ensures.some in
    let here : granule ≡ 0 + granule = omega arith in
    let part = c.in-Err.ensures.err in
    let before = subst (λ text. g.K.Sink.took c.args.sink.now c.loop-granule.sink text)
    (skip_lines line 0 c.loop-granule.from granule next.0 (λ k more less. granule_untold run k
    (next.2 k (omega (arith, more)) (omega (arith, less))))) c.loop-granule.invariant.taken in
    let m = stopped line 0 granule granule (2 ^ 60) part.0 here next.1 in (
      m.0,
      subst (λ text. g.K.Sink.took c.args.sink.now c.push_owner.new.sink text) m.1
          (g.met.K.Sink.joined c.args.sink.now c.loop-granule.sink c.push_owner.new.sink _ _ before part.1),
    )

pub loop-granule-preserved : goal.loop-granule-preserved
loop-granule-preserved g c =
    let run = run_in c.args.machine.now in
    let line : ℕ → List ℕ = λ granule. place_line run 0 (Granule granule) in
    let granule = c.in-Some.granule in
    let next = c.in-Some.ensures.some in
    let here : granule ≡ 0 + granule = omega arith in
    let below = next.1 in
    let before = subst (λ text. g.K.Sink.took c.args.sink.now c.loop-granule.sink text)
    (skip_lines line 0 c.loop-granule.from granule next.0 (λ k more less. granule_untold run k
    (next.2 k (omega (arith, more)) (omega (arith, less))))) c.loop-granule.invariant.taken in
    record {
      taken = subst (λ text. g.K.Sink.took c.args.sink.now c.push_owner.new.sink text)
          (one_more line 0 granule granule (granule + 1) here refl)
          (g.met.K.Sink.joined c.args.sink.now c.loop-granule.sink c.push_owner.new.sink _ _ before c.in_default-push_owner.ensures.ok);
      counted = c.in_default-push_owner.ensures.counted ∙ c.loop-granule.invariant.counted;
      inside = omega (arith, below);
    }

pub returns-clause-ok : goal.returns-clause-ok
returns-clause-ok g c =
    let run = run_in c.args.machine.now in
    let line : ℕ → List ℕ = λ granule. place_line run 0 (Granule granule) in
    let inside = c.loop-granule.invariant.inside in
    subst (λ text. g.K.Sink.took c.args.sink.now c.loop-granule.sink text)
    (skip_lines line 0 c.loop-granule.from (2 ^ 60) inside (λ k more less. granule_untold run k
    (c.in_default.ensures.none k (omega (arith, more)) (omega (arith, less))))) c.loop-granule.invariant.taken
