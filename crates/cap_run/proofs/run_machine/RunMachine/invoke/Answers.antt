use Rattle.std.proofs.Common.{sym, refl, ◌∙◌}
use Rattle.cap_machine.specs.States.{tagged}
use Rattle.cap_run.specs.{Numbers.numbered_run, Run.first_special, RunOf.{run_owners, run_state}, RunSteps.{invoked_refusal, step_limit}}
use Rattle.cap_run.proofs.{EndLemmas.{first, neither}, RunNumberLemmas.both-numbered}
use Rattle.cap_run.proofs.run_machine.RunMachine.invoke.Goals as goal

pub returns-clause-outcome : goal.returns-clause-outcome
returns-clause-outcome g c =
    let s = c.args.self.now in
    let n = c.write_both.new.self in
    let step = c.args.invoke in
    let state = run_state s.machine s.specials in
    let owners = run_owners s.machine s.specials in
    let one = rw c.number.ensures.number at c.register.ensures.value in
    let two = rw c.number-2.ensures.number at c.register-2.ensures.value in
    let value = rw (one, two) at c.invoked_refusal.ensures.value in
    let writes = rw (c.number.ensures.number, c.number-2.ensures.number) at c.write_both.ensures.writes in (
      neither (invoked_refusal (state step.code) (state step.datum) step.code_word step.datum_word)
          (step_limit (numbered_run s.machine s.specials s.objects)) (sym value ∙ c.in_default.is)
          (sym c.step_limit.ensures.value ∙ c.in_default-step_limit.is),
      both-numbered s.machine n.machine s.specials n.specials s.objects n.objects n.specials.registers.sized.1 n.counted s.objects.kept.numbered n.objects.kept.numbered
          first_special 31 (owners step.code) (owners step.datum) (tagged step.code_word) (tagged step.datum_word) writes,
    )

pub returns-in-Some-clause-outcome : goal.returns-in-Some-clause-outcome
returns-in-Some-clause-outcome g c =
    let one = rw c.number.ensures.number at c.register.ensures.value in
    let two = rw c.number-2.ensures.number at c.register-2.ensures.value in
    let value = rw (one, two) at c.invoked_refusal.ensures.value in
    (first _ _ c.in-Some.refusal (sym value ∙ c.in-Some.is), refl)
