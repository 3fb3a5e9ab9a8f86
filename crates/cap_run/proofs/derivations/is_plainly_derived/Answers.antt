use Rattle.std.proofs.Common.{◌≡◌, ◌∙◌, Bool, None, not, true, false, eqb-true, refl, subst, sym}
use Rattle.std.proofs.lemmas.Bool.{false≢true}
use Rattle.cap_ops.specs.{Checks.first_of, DerivedWords.derive_checks}
use Rattle.cap_run.proofs.DerivationLemmas.{moved_passes, opened_passes, same_passes}
use Rattle.cap_run.proofs.derivations.is_plainly_derived.Goals.{then-opens, else-opens}
use Rattle.cap_run.proofs.derivations.is_plainly_derived.Goals as goal

was_true : (b : Bool) → not b ≡ false → b ≡ true
was_true true is = refl
was_true false is = absurd (false≢true (sym is))

pub returns-then-object_type-eq-UNSEALED_TYPE-clause-checks : goal.returns-then-object_type-eq-UNSEALED_TYPE-clause-checks
returns-then-object_type-eq-UNSEALED_TYPE-clause-checks g c is =
    let tagged = was_true _ c.if-not-source.false in
    (moved_passes c.args.source c.args.word c.args.opens tagged (c.requires.sound tagged) (c.is_moved.ensures is)).0

pub returns-then-object_type-eq-UNSEALED_TYPE-clause-within : goal.returns-then-object_type-eq-UNSEALED_TYPE-clause-within
returns-then-object_type-eq-UNSEALED_TYPE-clause-within g c is =
    let tagged = was_true _ c.if-not-source.false in
    (moved_passes c.args.source c.args.word c.args.opens tagged (c.requires.sound tagged) (c.is_moved.ensures is)).1

pub returns-then-is_open_sentry-clause-checks : goal.returns-then-is_open_sentry-clause-checks
returns-then-is_open_sentry-clause-checks g c _ = elim c.if-opens.branch [
  | then-opens w ↦
      let tagged = was_true _ c.if-not-source.false in
      let opened = w.is_open_sentry.ensures (sym w.value-is ∙ c.if-is_open_sentry.true) in
      subst (λ (opens : Bool). first_of (derive_checks c.args.source c.args.word.0 opens) ≡ None) (sym w.if-opens.true)
      (opened_passes c.args.source c.args.word tagged (c.requires.sound tagged) opened).0
  | else-opens w ↦ absurd (false≢true (sym w.if-opens.false ∙ sym w.value-is ∙ c.if-is_open_sentry.true))
]

pub returns-then-is_open_sentry-clause-within : goal.returns-then-is_open_sentry-clause-within
returns-then-is_open_sentry-clause-within g c _ = elim c.if-opens.branch [
  | then-opens w ↦
      let tagged = was_true _ c.if-not-source.false in
      let opened = w.is_open_sentry.ensures (sym w.value-is ∙ c.if-is_open_sentry.true) in
      (opened_passes c.args.source c.args.word tagged (c.requires.sound tagged) opened).1
  | else-opens w ↦ absurd (false≢true (sym w.if-opens.false ∙ sym w.value-is ∙ c.if-is_open_sentry.true))
]

pub returns-else-is_open_sentry-clause-checks : goal.returns-else-is_open_sentry-clause-checks
returns-else-is_open_sentry-clause-checks g c is =
    let tagged = was_true _ c.if-not-source.false in
    (same_passes c.args.source c.args.word c.args.opens tagged (c.requires.sound tagged) (eqb-true _ _ is)).0
