use Rattle.std.proofs.Common.{◌++◌, subst, sym, ap, arith}
use Rattle.cap_streams.specs.Written.{Writes, ◌⨾◌}
use Rattle.cap_machine.specs.{Accounts.Account, Helds.account_of, Shown.shown_of}
use Rattle.cap_machine.specs.declared.shown.Shown.{Shown}
use Rattle.cap_report.specs.{Parts.lines_of_parts, StepLines.{asked_parts, step_lines}}
use Rattle.cap_run.specs.{declared.ends.RunRefusal.RunRefusal, RunChanges.without_origins}
use Rattle.cap_run_report.specs.StepParts.{AreAccessLines, AreUsualLines}
use Rattle.cap_run_report.proofs.StepLemmas.{usual_told}
use Rattle.cap_run_report.proofs.step_parts.put_usual.Goals as goal
use Rattle.cap_run.specs.Machines.{run_in}

pub returns-in-Usual-clause-written : goal.returns-in-Usual-clause-written
returns-in-Usual-clause-written g c =
    let run = run_in c.args.machine.now in
    let step = c.args.step.now in
    let refusal = c.in-Usual.refusal in
    let account = without_origins (account_of c.machine-main.result.now) in (
      step_lines account step refusal,
      subst (λ (r : RunRefusal). AreUsualLines run step r (step_lines account step refusal)) (sym c.in-Usual.is)
          (ap (λ (a : Account). step_lines a step refusal) (sym c.machine-main.ensures.account)),
      c.put_step_lines.ensures.written,
    )

pub returns-in_default : goal.returns-in_default
returns-in_default g c =
    let run = run_in c.args.machine.now in
    let step = c.args.step.now in
    let account = without_origins (account_of c.machine-main.result.now) in
    let access = c.put_access.ensures.written in
    let asked = subst
    (λ (s : Shown). Writes c.args.at (lines_of_parts (asked_parts account s)) c.args.buffer.now c.put_asked-at.new.buffer c.put_asked-at.result)
    c.shown-shown.ensures.shown c.put_asked-at.ensures.written in
    let are = subst (λ (s : Shown). AreAccessLines run s.access c.args.refusal access.0) c.shown-shown.ensures.shown access.1 in
    record {
      written = (
        lines_of_parts (asked_parts account (shown_of account.state step)) ++ access.0,
        usual_told run step c.args.refusal access.0 account c.machine-main.ensures.account c.in_default.not-Usual are,
        asked ⨾ access.2,
      );
      fits = omega (arith, c.put_asked-at.ensures.fits, c.put_access.ensures.fits);
    }
