use Rattle.std.proofs.Common.{ℕ, [], ◌++◌, Option, refl, subst, ap, ◌∙◌, arith}
use Rattle.cap_streams.specs.Written.{Writes-nothing, ◌⨾◌}
use Rattle.cap_texts.specs.TextLines.{says_line}
use Rattle.cap_run_log.specs.declared.lines.RunPlace.TheVariants.{General}
use Rattle.cap_run_report.specs.{StepParts.AreOwningLines}
use Rattle.cap_run_report.proofs.StepLemmas.{reached_other}
use Rattle.cap_run_report.proofs.step_parts.put_access.Goals as goal
use Rattle.cap_run.specs.Machines.{run_in}

pub returns-in-OwnerFreed-clause-written : goal.returns-in-OwnerFreed-clause-written
returns-in-OwnerFreed-clause-written g c =
    let run = run_in c.args.machine.now in
    let told = c.put_owning.ensures.written in
    let owner = c.register_owner-owner.ensures.value ∙ ap run.owners c.number-register.ensures.number in
    rw (c.in-Some.is, c.in-OwnerFreed.is) (
      told.0,
      subst (λ (o : Option ℕ). AreOwningLines run o (General c.in-Some.access.authority) told.0) owner
          (subst (λ (n : ℕ). AreOwningLines run c.register_owner-owner.result (General n) told.0) c.number-register.ensures.number told.1),
      told.2,
    )

pub returns-in-NotOwned-clause-written : goal.returns-in-NotOwned-clause-written
unfolding says_line
returns-in-NotOwned-clause-written g c =
    let run = run_in c.args.machine.now in
    let access = c.in-Some.access in
    let lines = c.put_met-at.ensures.written in
    let text = c.put_touched_text-at.ensures.written in
    rw (c.in-Some.is, c.in-NotOwned.is) (
      lines.0 ++ says_line text.0,
      (lines.0, rw (c.from.ensures, c.from-in-NotOwned.ensures) at lines.1, text.0, rw (c.number-register.ensures.number, c.from.ensures, c.from-in-NotOwned.ensures) at text.1, refl),
      lines.2 ⨾ (c.put-at.ensures.written ⨾ text.2 ⨾ c.put.ensures.written),
    )

pub returns-in_default-refusal : goal.returns-in_default-refusal
returns-in_default-refusal g c =
    let other = c.in_default-refusal in
    let none = reached_other (run_in c.args.machine.now) c.in-Some.access c.args.refusal other.not-OwnerFreed other.not-NotOwned in
    record { written = rw c.in-Some.is ([], none, Writes-nothing); fits = omega arith }

pub returns-in_default-clause-written : goal.returns-in_default-clause-written
returns-in_default-clause-written g c = rw c.in_default.is ([], refl, Writes-nothing)
