use Rattle.std.proofs.Common.{refl}
use Rattle.cap_run.proofs.RootLemmas.{count-root}
use Rattle.cap_run.proofs.roots.count_root.Goals as goal

pub returns : goal.returns
returns g c = record {
  outcome = count-root c.args.machine.now c.put_labelled.new.self c.declare_labelled-counted.new.self c.put_labelled-2.new.self _ c.register-held.result
      c.label-label.result c.args.word refl c.put_labelled.ensures.account c.put_labelled-2.ensures.account c.register-held.ensures.holds
      c.label-label.ensures.label c.declare_labelled-counted.result c.declare_labelled-counted.ensures.outcome;
}
