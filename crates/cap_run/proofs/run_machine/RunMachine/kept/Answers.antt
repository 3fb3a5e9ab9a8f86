use Rattle.std.proofs.Common.{Bool, subst}
use Rattle.cap_run.specs.{Numbers.numbered_run, Safety.IsSafe}
use Rattle.cap_run.proofs.{SafetyLemmas.safe-kept, RunNumberLemmas.safe-numbered}
use Rattle.cap_run.proofs.run_machine.RunMachine.kept.Goals as goal

pub returns : goal.returns
returns g c =
    let s = c.args.self.now in
    record {
      safe = subst (λ (held : Bool). IsSafe held (numbered_run s.machine s.specials s.objects)) s.asked
          (safe-numbered s.machine s.specials s.objects s.specials.registers.sized.1 s.counted s.objects.kept.numbered s.objects.keeps
          (safe-kept s.machine s.specials s.objects s.specials.registers.sized.1 s.counted s.within c.kept.ensures.kept));
    }
