use Rattle.std.proofs.Common.{ℕ, [], Option, refl, subst, sym, arith}
use Rattle.cap_streams.specs.Written.{Writes, Writes-nothing, ◌⨾◌}
use Rattle.cap_word.specs.declared.word.Cap.{Cap}
use Rattle.cap_texts.specs.TextLines.{says_line}
use Rattle.cap_run_log.specs.declared.lines.RunPlace.TheVariants.{General}
use Rattle.cap_run.specs.declared.ends.RunRefusal.{RunRefusal}
use Rattle.cap_run_report.specs.{RunSentences.unowned_text, StepParts.{AreDeadLines, AreLifeLines, AreOwningLines}}
use Rattle.cap_run_report.proofs.StepLemmas.{life_other}
use Rattle.cap_run_report.proofs.object_steps.put_life.Goals as goal
use Rattle.cap_run.specs.Machines.{run_in}

pub returns-in-AlreadyFreed-clause-written : goal.returns-in-AlreadyFreed-clause-written
returns-in-AlreadyFreed-clause-written g c =
    let told = c.put_dead.ensures.written in (
      told.0,
      subst (λ (r : RunRefusal). AreLifeLines (run_in c.args.machine.now) c.args.register c.args.number r told.0) (sym c.in-AlreadyFreed.is)
          (subst (λ (o : Option ℕ). AreDeadLines (run_in c.args.machine.now) o told.0) c.meant.ensures told.1),
      told.2,
    )

pub returns-in-HasOwner-clause-written : goal.returns-in-HasOwner-clause-written
returns-in-HasOwner-clause-written g c =
    let run = run_in c.args.machine.now in
    let told = c.put_owning.ensures.written in (
      told.0,
      subst (λ (r : RunRefusal). AreLifeLines run c.args.register c.args.number r told.0) (sym c.in-HasOwner.is)
          (subst (λ (o : Option ℕ). AreOwningLines run o (General c.args.register) told.0) c.register_owner-owner.ensures.value told.1),
      told.2,
    )

pub returns-in-NoOwner-clause-written : goal.returns-in-NoOwner-clause-written
unfolding says_line
returns-in-NoOwner-clause-written g c =
    let run = run_in c.args.machine.now in (
      says_line (unowned_text (General c.args.register) (run.state c.args.register)),
      subst (λ (r : RunRefusal). AreLifeLines run c.args.register c.args.number r (says_line (unowned_text (General c.args.register) (run.state c.args.register))))
          (sym c.in-NoOwner.is) refl,
      subst
          (λ (cap : Cap). Writes c.args.at (says_line (unowned_text (General c.args.register) cap)) c.args.buffer.now c.put-in-NoOwner.new.buffer c.put-in-NoOwner.result)
          c.register-held.ensures.value
          (c.put-at-in-NoOwner.ensures.written ⨾ c.put_unowned_text-at.ensures.written ⨾ c.put-in-NoOwner.ensures.written),
    )

pub returns-in_default : goal.returns-in_default
returns-in_default g c =
    let other = c.in_default in
    record {
      written = (
        [],
        life_other (run_in c.args.machine.now) c.args.register c.args.number c.args.refusal other.not-HasOwner other.not-AlreadyFreed other.not-NoObject
            other.not-Overlaps other.not-StillHeld other.not-NoCapability other.not-NoOwner,
        Writes-nothing,
      );
      fits = omega arith;
    }

pub returns-in-Overlaps-clause-written : goal.returns-in-Overlaps-clause-written
returns-in-Overlaps-clause-written g c = rw c.in-Overlaps.is c.put_asked.ensures.written
