use Rattle.std.proofs.Common.{Option, ap, refl, sym, ◌∙◌}
use Rattle.cap_run.specs.declared.ends.RunRefusal.{RunRefusal}
use Rattle.cap_run.specs.{Numbers.numbered_run, Run.register_key, RunOf.{run_owners, run_state}, RunSteps.{derived_refusal, or_later, step_limit}}
use Rattle.cap_run.proofs.{EndLemmas.neither, RunNumberLemmas.writes-numbered}
use Rattle.cap_run.proofs.run_machine.RunMachine.derive_apart.Goals as goal

pub returns-in-Some-clause-outcome : goal.returns-in-Some-clause-outcome
returns-in-Some-clause-outcome g c =
    let s = c.args.self.now in
    let limit = step_limit (numbered_run s.machine s.specials s.objects) in
    (ap (λ (r : Option RunRefusal). or_later r limit) (sym c.refusal_of_derived.ensures.value ∙ c.in-Some.is), refl)

pub returns-clause-outcome : goal.returns-clause-outcome
returns-clause-outcome g c =
    let s = c.args.self.now in
    let n = c.write.new.self in
    let key = register_key c.args.source in (
      neither (derived_refusal c.args.target (run_state s.machine s.specials key) c.args.recorded) (step_limit (numbered_run s.machine s.specials s.objects))
          (sym c.refusal_of_derived.ensures.value ∙ c.in_default.is) (sym c.step_limit.ensures.value ∙ c.in_default-step_limit.is),
      writes-numbered s.machine n.machine s.specials n.specials s.objects n.objects n.specials.registers.sized.1 n.counted s.objects.kept.numbered n.objects.kept.numbered
          (register_key c.args.target) (run_owners s.machine s.specials key) c.args.recorded c.write.ensures.writes,
    )
