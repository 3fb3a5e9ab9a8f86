use Rattle.std.proofs.{Common.{Err, ap, refl, subst, ◌∙◌}, lemmas.Result.err_from_is_err_and}
use Rattle.cap_streams.specs.{FaultLines.bytes_of, declared.judging.judge_faults.JudgeToFault.TheVariants.{Pull, Push}}
use Rattle.cap_run_judge.specs.{Judgings.JudgedBy, OwnerLists.run_report_text, Reports.TellsRun}
use Rattle.cap_run_judge.proofs.RunReportLemmas.{are_numbered, fault_counted, leads, no_pull, no_push, none_counted, none_pulled, push_counted, pushed_nothing}
use Rattle.cap_run_judge.proofs.output.judge_run_to.Goals as goal
use Rattle.cap_run.specs.Machines.{run_in}

pub returns-in_err-verdict-clause-reported : goal.returns-in_err-verdict-clause-reported
returns-in_err-verdict-clause-reported g c =
    let end = c.judge_run_keeping-answer.result in
    let by = subst (λ r. JudgedBy c.args.asks g.S.Source.gave g.S.Source.ended c.args.source.now c.judge_run_keeping-answer.new.source r
    (run_in end.machine) (bytes_of end.fault)) c.in_err-verdict.was c.judge_run_keeping-answer.ensures.judged in
    let failed = err_from_is_err_and c.from_residual.result c.from_residual.ensures.1 in
    let ended = g.S.Source.ended c.judge_run_keeping-answer.new.source in
    rw (failed.1, failed.2) (record {
      given = by.judged.given;
      gives = by.judged.gives;
      report = pushed_nothing c.args.asks (TellsRun c.args.asks c.args.owners by.judged.given ended) by.judged.given ended (g.K.Sink.took c.args.sink.now c.args.sink.now) _
          by.judged.answer (g.met.K.Sink.nothing c.args.sink.now);
    })

pub returns-clause-reported : goal.returns-clause-reported
returns-clause-reported g c =
    let end = c.judge_run_keeping-answer.result in
    let machine = end.machine in
    let verdict = c.in_ok-verdict.verdict in
    let by = subst (λ r. JudgedBy c.args.asks g.S.Source.gave g.S.Source.ended c.args.source.now c.judge_run_keeping-answer.new.source r
    (run_in machine) (bytes_of end.fault)) c.in_ok-verdict.was c.judge_run_keeping-answer.ensures.judged in
    record {
      given = by.judged.given;
      gives = by.judged.gives;
      report = (
        by.judged.answer,
        run_report_text c.args.owners (run_in machine) verdict,
        (
          run_in machine,
          leads c.args.asks by.judged.given _ (run_in machine) (bytes_of end.fault) verdict
              (are_numbered machine.machine machine.specials machine.objects machine.asks.held c.kept.ensures.safe) by.stops,
          refl,
        ),
        c.in_ok-push_run_report.ensures.ok,
      );
    }

pub returns-in_err-push_run_report-clause-reported : goal.returns-in_err-push_run_report-clause-reported
returns-in_err-push_run_report-clause-reported g c =
    let end = c.judge_run_keeping-answer.result in
    let machine = end.machine in
    let verdict = c.in_ok-verdict.verdict in
    let by = subst (λ r. JudgedBy c.args.asks g.S.Source.gave g.S.Source.ended c.args.source.now c.judge_run_keeping-answer.new.source r
    (run_in machine) (bytes_of end.fault)) c.in_ok-verdict.was c.judge_run_keeping-answer.ensures.judged in
    let part = c.in_err-push_run_report.ensures.err in
    let failed = err_from_is_err_and c.from_residual-in_err-push_run_report.result c.from_residual-in_err-push_run_report.ensures.1 in
    rw (failed.1, failed.2) (record {
      given = by.judged.given;
      gives = by.judged.gives;
      report = (
        verdict,
        by.judged.answer,
        run_report_text c.args.owners (run_in machine) verdict,
        (
          run_in machine,
          leads c.args.asks by.judged.given _ (run_in machine) (bytes_of end.fault) verdict
              (are_numbered machine.machine machine.specials machine.objects machine.asks.held c.kept.ensures.safe) by.stops,
          refl,
        ),
        part.0,
        part.1,
      );
    })

pub returns-in_err-verdict-clause-pulls_counted : goal.returns-in_err-verdict-clause-pulls_counted
returns-in_err-verdict-clause-pulls_counted g c =
    let failed = err_from_is_err_and c.from_residual.result c.from_residual.ensures.1 in
    fault_counted c.in_err-verdict.field-0.0 c.judge_run_keeping-answer.result.answer c.from_residual.result (g.S.Source.faults c.args.source.now)
    (g.S.Source.faults c.judge_run_keeping-answer.new.source) c.in_err-verdict.was (failed.1 ∙ ap Err failed.2) c.judge_run_keeping-answer.ensures.counted

pub returns-in_err-verdict-clause-pushes_counted : goal.returns-in_err-verdict-clause-pushes_counted
returns-in_err-verdict-clause-pushes_counted g c =
    let failed = err_from_is_err_and c.from_residual.result c.from_residual.ensures.1 in
    no_push c.in_err-verdict.field-0.0 c.from_residual.result (g.K.Sink.faults c.args.sink.now) (failed.1 ∙ ap Err failed.2)

pub returns-in_err-push_run_report-clause-pulls_counted : goal.returns-in_err-push_run_report-clause-pulls_counted
returns-in_err-push_run_report-clause-pulls_counted g c =
    let before = g.S.Source.faults c.args.source.now in
    let after = g.S.Source.faults c.judge_run_keeping-answer.new.source in
    let result = c.from_residual-in_err-push_run_report.result in
    let failed = err_from_is_err_and result c.from_residual-in_err-push_run_report.ensures.1 in
    no_pull result before after (failed.1 ∙ ap Err failed.2)
    (none_pulled c.in_ok-verdict.verdict c.judge_run_keeping-answer.result.answer before after c.in_ok-verdict.was c.judge_run_keeping-answer.ensures.counted)

pub returns-in_err-push_run_report-clause-pushes_counted : goal.returns-in_err-push_run_report-clause-pushes_counted
returns-in_err-push_run_report-clause-pushes_counted g c =
    let result = c.from_residual-in_err-push_run_report.result in
    let failed = err_from_is_err_and result c.from_residual-in_err-push_run_report.ensures.1 in
    push_counted result (g.K.Sink.faults c.args.sink.now) (g.K.Sink.faults c.push_run_report.new.sink) (failed.1 ∙ ap Err failed.2)
    c.in_err-push_run_report.ensures.counted

pub returns-clause-pulls_counted : goal.returns-clause-pulls_counted
returns-clause-pulls_counted g c =
    let before = g.S.Source.faults c.args.source.now in
    let after = g.S.Source.faults c.judge_run_keeping-answer.new.source in
    none_counted Pull c.in_ok-verdict.verdict before after
    (none_pulled c.in_ok-verdict.verdict c.judge_run_keeping-answer.result.answer before after c.in_ok-verdict.was c.judge_run_keeping-answer.ensures.counted)

pub returns-clause-pushes_counted : goal.returns-clause-pushes_counted
returns-clause-pushes_counted g c =
    none_counted Push c.in_ok-verdict.verdict (g.K.Sink.faults c.args.sink.now) (g.K.Sink.faults c.push_run_report.new.sink)
    c.in_ok-push_run_report.ensures.counted
