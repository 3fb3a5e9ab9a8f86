use Rattle.std.proofs.Common.{◌≡◌, ◌∙◌, ap, sym, Some}
use Rattle.capcheck_judge.proofs.RunTakingLemmas.{held_taken}
use Rattle.capcheck_judge.proofs.run_reports.capcheck_run_judge_end_report.Goals as goal

pub returns-in-Some-clause-report : goal.returns-in-Some-clause-report
returns-in-Some-clause-report c = λ asks bytes holds.
    let is : c.args.judge.now.judge ≡ Some c.deref.result.now = c.in-Some.ensures.taken ∙ ap Some (sym c.deref.ensures) in
    c.write_run_end_report-length.ensures asks bytes (held_taken c.args.judge.now.judge asks bytes holds c.deref.result.now is)
