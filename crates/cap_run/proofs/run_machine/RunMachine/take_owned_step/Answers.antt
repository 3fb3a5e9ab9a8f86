use Rattle.std.proofs.Common.{List, ℕ, sym, subst}
use Rattle.cap_run.specs.{Machines.run_in, StepLines.TakesStep}
use Rattle.cap_run.proofs.run_machine.RunMachine.take_owned_step.Goals as goal

pub returns : goal.returns
returns g c =
    let s = c.args.self.now in
    subst (λ (bytes : List ℕ). TakesStep s.asks (run_in s) bytes c.by_head.result c.by_head.new.on.asks (run_in c.by_head.new.on))
    (sym c.in-Some.ensures.some.1) c.by_head.ensures.done
