use Rattle.std.proofs.Common.{Some, None}
use Rattle.std.proofs.lemmas.Bool.{cond-false}
use Rattle.cap_run.specs.{Numbers.numbered_run, RunChecks.passes_limit}
use Rattle.cap_run.proofs.RunNumberLemmas.{fills-numbered}
use Rattle.cap_run.proofs.run_machine.RunMachine.filled.Goals as goal

pub returns-in-Ok-clause-outcome : goal.returns-in-Ok-clause-outcome
returns-in-Ok-clause-outcome g c =
    let s = c.args.self.now in
    let n = c.fill.new.self in (
      cond-false (passes_limit (numbered_run s.machine s.specials s.objects) (Some c.args.granule)) _ None c.in-Ok.ensures.outcome.0,
      fills-numbered s.machine n.machine s.specials n.specials s.objects n.objects n.specials.registers.sized.1 n.counted s.objects.kept.numbered n.objects.kept.numbered
          c.args.granule _ c.in-Ok.ensures.outcome.1,
    )
