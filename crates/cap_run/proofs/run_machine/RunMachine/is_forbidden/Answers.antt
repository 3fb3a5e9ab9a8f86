use Rattle.std.proofs.Common.{◌&&◌, Bool, ap, sym, ◌∙◌}
use Rattle.std.proofs.lemmas.Option.{same_Some}
use Rattle.cap_objects.specs.declared.objects.Object.{Object}
use Rattle.cap_run.proofs.run_machine.RunMachine.is_forbidden.Goals as goal

pub returns-then-self : goal.returns-then-self
returns-then-self g c object there =
    ap (λ (o : Object). o.freed) (same_Some c.object.result object (sym c.object.ensures.there ∙ there))
    ∙ sym (ap (λ (b : Bool). b && object.freed) c.if-self.true)
