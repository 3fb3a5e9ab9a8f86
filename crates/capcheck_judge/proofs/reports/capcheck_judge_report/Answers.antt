use Rattle.std.proofs.Common.{◌≡◌, ◌∙◌, ap, sym, Some}
use Rattle.capcheck_judge.proofs.HandleLemmas.{held_taken}
use Rattle.capcheck_judge.proofs.reports.capcheck_judge_report.Goals as goal

pub returns-in-Some-clause-report : goal.returns-in-Some-clause-report
returns-in-Some-clause-report c = λ bytes holds.
    let is : c.args.judge.now.judge ≡ Some c.deref.result.now = c.in-Some.ensures.taken ∙ ap Some (sym c.deref.ensures) in
    c.write_report-length.ensures bytes (held_taken c.args.judge.now.judge bytes holds c.deref.result.now is)
