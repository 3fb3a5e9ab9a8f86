use Rattle.std.proofs.Common.{ℕ, ◌++◌, refl, subst}
use Rattle.cap_streams.specs.Written.{Writes, ◌⨾◌}
use Rattle.cap_run_judge.specs.{OwnerLists.object_line}
use Rattle.cap_run_report.specs.ObjectParts.{freed_line}
use Rattle.cap_run_report.proofs.object_parts.put_object.Goals as goal
use Rattle.cap_run.specs.Machines.{run_in}

pub returns-clause-written : goal.returns-clause-written
returns-clause-written g c =
    let run = run_in c.args.machine.now in
    let holder = c.put_holder.ensures.written in
    let line = subst
    (λ (r : ℕ). Writes c.args.at (object_line r c.args.object) c.args.buffer.now c.put-at.new.buffer c.put-at.result)
    c.roots-roots.ensures.value (rw c.object_text-length.ensures.line at c.put-at.ensures.written) in
    let freed = subst
    (λ (r : ℕ). Writes c.put-at.result (freed_line r c.args.object) c.put-at.new.buffer c.put_freed_line-at.new.buffer
    c.put_freed_line-at.result)
    c.roots-roots.ensures.value c.put_freed_line-at.ensures.written in (
      object_line run.roots c.args.object ++ (freed_line run.roots c.args.object ++ holder.0),
      (holder.0, holder.1, refl),
      line ⨾ (freed ⨾ holder.2),
    )
