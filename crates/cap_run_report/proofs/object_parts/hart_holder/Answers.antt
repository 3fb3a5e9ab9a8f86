use Rattle.std.proofs.Common.{◌≡◌, ◌<◌, ◌+◌, ℕ, inl, inr, ap, sym, subst, ◌∙◌, arith, rules}
use Rattle.std.proofs.lemmas.{Bool.{cases_lt, Decides.nat_tests}, Option.none-some}
use Rattle.cap_run.specs.Machines.{run_in}
use Rattle.cap_run_report.specs.ObjectParts.{OwnsNone}
use Rattle.cap_run_report.proofs.object_parts.hart_holder.Goals as goal

pub loop-hart-init : goal.loop-hart-init
loop-hart-init g c = record { none = λ hart below. absurd (omega (arith, below)); inside = omega arith }

pub loop-hart-preserved : goal.loop-hart-preserved
loop-hart-preserved g c =
    let hart = c.in-Some.hart in
    let next = c.in-Some.ensures.some in
    record {
      none = λ n below. elim (cases_lt n c.loop-hart.from) [
        | inl before ↦ c.loop-hart.invariant.none n before
        | inr behind ↦ elim (cases_lt n hart) [
          | inl skipped ↦ λ register least few owned. none-some c.args.number (sym (next.1 n register behind skipped few) ∙ owned)
          | inr here ↦
              let same : n ≡ hart = omega (arith, below, here) in
              subst (λ (k : ℕ). OwnsNone (run_in c.args.machine.now) c.args.number k 64) (sym same) c.in_default-register_holder.ensures.none
        ]
      ];
      inside = let other = c.if-hart.false in let low : hart < 65536 = search rules in grind (arith, nat_tests, other, low);
    }

pub returns-in-Some-register_holder-clause-some : goal.returns-in-Some-register_holder-clause-some
returns-in-Some-register_holder-clause-some g c = inl (
  c.in-Some-register_holder.ensures.some,
  λ n below. elim (cases_lt n c.loop-hart.from) [
    | inl before ↦ c.loop-hart.invariant.none n before
    | inr behind ↦ λ register least few owned. none-some c.args.number (sym (c.in-Some.ensures.some.1 n register behind below few) ∙ owned)
  ],
)

pub returns-then-hart-clause-none : goal.returns-then-hart-clause-none
returns-then-hart-clause-none g c = λ n below. elim (cases_lt n c.loop-hart.from) [
  | inl before ↦ c.loop-hart.invariant.none n before
  | inr behind ↦ elim (cases_lt n c.in-Some.hart) [
    | inl skipped ↦ λ register least few owned. none-some c.args.number (sym (c.in-Some.ensures.some.1 n register behind skipped few) ∙ owned)
    | inr here ↦
        let last = c.if-hart.true in
        let same : n ≡ c.in-Some.hart = omega (arith, below, here, last) in
        subst (λ (k : ℕ). OwnsNone (run_in c.args.machine.now) c.args.number k 64) (sym same) c.in_default-register_holder.ensures.none
  ]
]

pub returns-clause-none : goal.returns-clause-none
returns-clause-none g c = λ n below. elim (cases_lt n c.loop-hart.from) [
  | inl before ↦ c.loop-hart.invariant.none n before
  | inr behind ↦ λ register least few owned. none-some c.args.number (sym (c.in_default.ensures.none n register behind below few) ∙ owned)
]
