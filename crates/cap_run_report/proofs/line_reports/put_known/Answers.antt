use Rattle.std.proofs.Common.{refl, subst, sym}
use Rattle.cap_run_log.specs.declared.lines.RunLine.{RunLine}
use Rattle.cap_run_report.specs.{LineReports.{AreKnownLines, root_lines}}
use Rattle.cap_run_report.proofs.line_reports.put_known.Goals as goal
use Rattle.cap_run.specs.Machines.{run_in}

pub returns-in-Root-clause-written : goal.returns-in-Root-clause-written
returns-in-Root-clause-written g c =
    let run = run_in c.args.machine.now in
    let told = root_lines run c.in-Root.place c.in-Root.word c.args.refusal in
    (told, subst (λ (line : RunLine). AreKnownLines run line c.args.refusal told) (sym c.in-Root.is) refl, c.put_root.ensures.written)

pub returns-in-Step-clause-written : goal.returns-in-Step-clause-written
returns-in-Step-clause-written g c =
    let told = c.put_usual.ensures.written in
    (told.0, subst (λ (line : RunLine). AreKnownLines (run_in c.args.machine.now) line c.args.refusal told.0) (sym c.in-Step.is) told.1, told.2)

pub returns-in-Run-clause-written : goal.returns-in-Run-clause-written
returns-in-Run-clause-written g c =
    let told = c.put_run_step.ensures.written in
    (told.0, subst (λ (line : RunLine). AreKnownLines (run_in c.args.machine.now) line c.args.refusal told.0) (sym c.in-Run.is) told.1, told.2)
