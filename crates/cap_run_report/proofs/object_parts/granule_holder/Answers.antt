use Rattle.std.proofs.Common.{◌≡◌, ℕ, inl, inr, ap, refl, sym, subst, ◌∙◌, arith}
use Rattle.std.proofs.lemmas.{Bool.cases_lt, Option.none-some}
use Rattle.cap_machine.specs.States.{granule_key}
use Rattle.cap_run.specs.Machines.{run_in}
use Rattle.cap_run_judge.proofs.RunReportLemmas.{granule_in}
use Rattle.cap_run_report.proofs.object_parts.granule_holder.Goals as goal

pub loop-granule-preserved : goal.loop-granule-preserved
loop-granule-preserved g c =
    let run = run_in c.args.machine.now in
    let next = c.in-Some.ensures.some in
    let inside = next.1 in
    record {
      none = λ n below owned. elim (cases_lt n c.loop-granule.from) [
        | inl before ↦ c.loop-granule.invariant.none n before owned
        | inr behind ↦ elim (cases_lt n c.in-Some.granule) [
          | inl skipped ↦ none-some c.args.number (sym (next.2 n behind skipped) ∙ owned)
          | inr here ↦
              let same : n ≡ c.in-Some.granule = omega (arith, below, here) in
              c.owns.ensures.no c.if-owns.false
              (ap run.owners (granule_in run.harts c.hart-hart.result c.in-Some.granule ∙ ap granule_key (sym same)) ∙ owned)
        ]
      ];
      inside = omega (arith, inside);
    }

pub loop-granule-init : goal.loop-granule-init
loop-granule-init g c = record { none = λ n below owned. absurd (omega (arith, below)); inside = omega arith }

pub loop-granule-smaller : goal.loop-granule-smaller
loop-granule-smaller g c = omega (arith, c.in-Some.ensures.some.0, c.in-Some.ensures.some.1)

pub owns-requires : goal.owns-requires
owns-requires g c = c.in-Some.ensures.some.1

pub returns-then-owns-clause-some : goal.returns-then-owns-clause-some
returns-then-owns-clause-some g c = inr (
  c.in-Some.granule,
  refl,
  c.hart-hart.ensures.value,
  c.owns.ensures.yes c.if-owns.true,
  c.requires,
  λ n below owned. elim (cases_lt n c.loop-granule.from) [
    | inl before ↦ c.loop-granule.invariant.none n before owned
    | inr behind ↦ none-some c.args.number (sym (c.in-Some.ensures.some.2 n behind below) ∙ owned)
  ],
)

pub returns-then-owns-clause-place : goal.returns-then-owns-clause-place
returns-then-owns-clause-place g c = c.in-Some.ensures.some.1

pub returns-clause-none : goal.returns-clause-none
returns-clause-none g c = (
  c.requires,
  λ n below owned. elim (cases_lt n c.loop-granule.from) [
    | inl before ↦ c.loop-granule.invariant.none n before owned
    | inr behind ↦ none-some c.args.number (sym (c.in_default.ensures.none n behind below) ∙ owned)
  ],
)
