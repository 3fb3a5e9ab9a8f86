use Rattle.cap_run.proofs.UsualNumberLemmas.{account-is}
use Rattle.cap_run.proofs.run_machine.RunMachine.machine.Goals as goal

pub returns : goal.returns
returns g c =
    let s = c.args.self.now in
    record { account = account-is s.machine s.specials s.objects c.kept.ensures.stored }
