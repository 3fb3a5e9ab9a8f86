use Rattle.std.proofs.Common.{◌≡◌, ℕ, inl, inr, ap, sym, subst, ◌∙◌, arith}
use Rattle.std.proofs.lemmas.Bool.{cases_lt}
use Rattle.cap_run_log.specs.declared.lines.RunPlace.{RunPlace}
use Rattle.cap_run.specs.{HartPlaces.place_numbered, Machines.run_in}
use Rattle.cap_run_report.specs.ObjectParts.{Owns}
use Rattle.cap_run_report.proofs.object_parts.register_holder.Goals as goal

pub loop-register-init : goal.loop-register-init
loop-register-init g c = λ n least below owned. absurd (omega (arith, least, below))

pub loop-register-preserved : goal.loop-register-preserved
loop-register-preserved g c = λ n least below owned. elim (cases_lt n c.loop-register.register) [
  | inl before ↦ c.loop-register.invariant n least before owned
  | inr here ↦
      let same : n ≡ c.loop-register.register = omega (arith, below, here) in
      c.owns.ensures.no c.if-owns.false
      (subst (λ (place : RunPlace). Owns (run_in c.args.machine.now) c.args.number c.args.hart place)
      (ap place_numbered same ∙ sym c.place_numbered-place.ensures.value) owned)
]

pub returns-then-owns-clause-some : goal.returns-then-owns-clause-some
returns-then-owns-clause-some g c =
    (c.loop-register.register, c.place_numbered-place.ensures.value, c.owns.ensures.yes c.if-owns.true, c.loop-register.invariant)

pub returns-clause-none : goal.returns-clause-none
returns-clause-none g c = λ n least below owned. c.loop-register.invariant n least (omega (arith, below)) owned
