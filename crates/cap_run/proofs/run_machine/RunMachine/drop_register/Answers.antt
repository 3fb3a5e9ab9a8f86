use Rattle.std.proofs.Common.{None, ap, sym, ◌∙◌}
use Rattle.cap_word.specs.declared.word.Cap.{Cap}
use Rattle.cap_machine.specs.Labels.{untagged}
use Rattle.cap_run.specs.{Numbers.numbered_run, Run.{register_key}, RunChanges.{stepped, with_place}}
use Rattle.cap_run.proofs.RunNumberLemmas.{writes-numbered}
use Rattle.cap_run.proofs.run_machine.RunMachine.drop_register.Goals as goal

pub returns-clause-outcome : goal.returns-clause-outcome
returns-clause-outcome g c =
    let s = c.args.self.now in
    let n = c.write.new.self in
    let key = register_key c.args.register in (
      sym c.step_limit.ensures.value ∙ c.in_default.is,
      writes-numbered s.machine n.machine s.specials n.specials s.objects n.objects n.specials.registers.sized.1 n.counted s.objects.kept.numbered n.objects.kept.numbered
          key None (untagged c.register.result) c.write.ensures.writes
          ∙ ap (λ (k : Cap). stepped (with_place (numbered_run s.machine s.specials s.objects) key (untagged k) None)) c.register.ensures.value,
    )
