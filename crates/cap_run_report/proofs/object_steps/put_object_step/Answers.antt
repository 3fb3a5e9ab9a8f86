use Rattle.std.proofs.Common.{◌++◌, refl}
use Rattle.std.specs.Prelude.{codes}
use Rattle.cap_streams.specs.Written.{◌⨾◌}
use Rattle.cap_run_log.specs.declared.lines.RunRegister.TheVariants.{General}
use Rattle.cap_run_report.specs.CapParts.{owned_lines, register_lines}
use Rattle.cap_run_report.proofs.object_steps.put_object_step.Goals as goal
use Rattle.cap_run.specs.Machines.{run_in}

pub returns-clause-written : goal.returns-clause-written
returns-clause-written g c =
    let run = run_in c.args.machine.now in
    let life = c.put_life.ensures.written in
    let owned = rw c.register_owner.ensures.value at c.put_owned-at.ensures.written in (
      register_lines (codes "register") run (General c.args.register) ++ (owned_lines (run.owners c.args.register) ++ life.0),
      (life.0, life.1, refl),
      c.put_register-at.ensures.written ⨾ (owned ⨾ life.2),
    )
