use Rattle.std.proofs.{Common.arith, Math.Path.fun_ext}
use Rattle.cap_machine.specs.States.{untagged_null}
use Rattle.cap_machine.specs.Registers as registers
use Rattle.cap_run.proofs.SwitchLemmas.{told-put}
use Rattle.cap_run.proofs.specials.Specials.put.Goals as goal

pub returns-clause-caps : goal.returns-clause-caps
returns-clause-caps c =
    let low = c.requires.range in
    fun_ext (told-put registers.cap_in untagged_null c.args.self.now c.put.new.self c.args.number c.args.cap (omega (arith, low)) c.put.ensures.caps)

pub returns-clause-labels : goal.returns-clause-labels
returns-clause-labels c =
    let low = c.requires.range in
    fun_ext (told-put registers.label_in 0 c.args.self.now c.put.new.self c.args.number c.args.label (omega (arith, low)) c.put.ensures.labels)
