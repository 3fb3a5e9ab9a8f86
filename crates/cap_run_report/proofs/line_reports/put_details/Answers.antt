use Rattle.std.proofs.Common.{subst, sym}
use Rattle.cap_run.specs.declared.ends.RunRefusal.{RunRefusal}
use Rattle.cap_run_report.specs.LineReports.{AreRunDetails}
use Rattle.cap_run_report.proofs.StepLemmas.{run_details}
use Rattle.cap_run_report.proofs.line_reports.put_details.Goals as goal
use Rattle.cap_run.specs.Machines.{run_in}

pub returns-in-Usual-clause-written : goal.returns-in-Usual-clause-written
returns-in-Usual-clause-written g c =
    let told = c.put_usual_details.ensures.written in
    (told.0, subst (λ (r : RunRefusal). AreRunDetails (run_in c.args.machine.now) c.args.line c.args.text.now r told.0) (sym c.in-Usual.is) told.1, told.2)

pub returns-in_default-clause-written : goal.returns-in_default-clause-written
returns-in_default-clause-written g c =
    let told = c.put_line_details.ensures.written in (
      told.0,
      run_details (run_in c.args.machine.now) c.args.line c.args.text.now c.args.refusal told.0 c.in_default.not-Usual told.1,
      told.2,
    )
