use Rattle.std.proofs.Common.{ℕ, Bool, [], ◌++◌, inl, inr, refl, subst, sym}
use Rattle.cap_streams.specs.Written.{Writes, Writes-nothing, ◌⨾◌}
use Rattle.cap_run_report.specs.RunSentences.{HasHolderText, object_text}
use Rattle.cap_run_report.proofs.run_sentences.put_met_text.Goals as goal
use Rattle.cap_run.specs.Machines.{run_in}

pub returns-then-freed-clause-written : goal.returns-then-freed-clause-written
returns-then-freed-clause-written g c =
    let run = run_in c.args.machine.now in
    let object = c.in-Some.object in
    let holder = c.put_holder_text.ensures.written in
    let text = subst
    (λ (r : ℕ). Writes c.args.at (object_text r object) c.args.buffer.now c.put_object_text-at.new.buffer c.put_object_text-at.result)
    c.roots.ensures.value c.put_object_text-at.ensures.written in
    let told = subst (λ (b : Bool). HasHolderText run b object holder.0) (sym c.if-freed.true) holder.1 in (
      object_text run.roots object ++ holder.0,
      inl (object, c.in-Some.ensures.some, holder.0, told, refl),
      text ⨾ holder.2,
    )

pub returns-in-None-clause-written : goal.returns-in-None-clause-written
returns-in-None-clause-written g c = ([], inr (c.in-None.ensures.none, refl), Writes-nothing)
