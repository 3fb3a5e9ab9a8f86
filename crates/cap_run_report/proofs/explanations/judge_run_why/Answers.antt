use Rattle.std.proofs.{Common.{Err, ap, subst, ◌∙◌}, lemmas.Result.err_from_is_err_and}
use Rattle.cap_streams.specs.{FaultLines.bytes_of, declared.judging.judge_faults.JudgeToFault.TheVariants.{Pull, Push}}
use Rattle.cap_run_judge.specs.{Judgings.JudgedBy}
use Rattle.cap_run_judge.proofs.RunReportLemmas.{are_numbered, fault_counted, no_pull, no_push, none_counted, none_pulled, push_counted, pushed_nothing}
use Rattle.cap_run_report.specs.Answers.{ExplainsRun}
use Rattle.cap_run_report.proofs.WhyLemmas.{told}
use Rattle.cap_run_report.proofs.explanations.judge_run_why.Goals as goal
use Rattle.cap_run.specs.Machines.{run_in}

pub returns-clause-explained : goal.returns-clause-explained
returns-clause-explained g c =
    let end = c.judge_run_keeping-answer.result in
    let machine = end.machine in
    let by = subst (λ r. JudgedBy c.args.asks g.S.Source.gave g.S.Source.ended c.args.source.now c.judge_run_keeping-answer.new.source r
    (run_in machine) (bytes_of end.fault)) c.in_ok-verdict.was c.judge_run_keeping-answer.ensures.judged in
    let why = c.in_ok-push_why.ensures.ok in
    let are = are_numbered machine.machine machine.specials machine.objects machine.asks.held c.kept.ensures.safe in
    record {
      given = by.judged.given;
      gives = by.judged.gives;
      report = (
        by.judged.answer,
        why.0,
        told c.args.asks c.args.owners by.judged.given _ (run_in machine) (bytes_of end.fault) c.in_ok-verdict.verdict why.0 are by.stops why.1,
        why.2,
      );
    }

pub returns-in_err-push_why-clause-explained : goal.returns-in_err-push_why-clause-explained
returns-in_err-push_why-clause-explained g c =
    let end = c.judge_run_keeping-answer.result in
    let machine = end.machine in
    let by = subst (λ r. JudgedBy c.args.asks g.S.Source.gave g.S.Source.ended c.args.source.now c.judge_run_keeping-answer.new.source r
    (run_in machine) (bytes_of end.fault)) c.in_ok-verdict.was c.judge_run_keeping-answer.ensures.judged in
    let why = c.in_err-push_why.ensures.err in
    let are = are_numbered machine.machine machine.specials machine.objects machine.asks.held c.kept.ensures.safe in
    let failed = err_from_is_err_and c.from_residual-in_err-push_why.result c.from_residual-in_err-push_why.ensures.1 in
    rw (failed.1, failed.2) (record {
      given = by.judged.given;
      gives = by.judged.gives;
      report = (
        c.in_ok-verdict.verdict,
        by.judged.answer,
        why.0,
        told c.args.asks c.args.owners by.judged.given _ (run_in machine) (bytes_of end.fault) c.in_ok-verdict.verdict why.0 are by.stops why.1,
        why.2,
        why.3,
      );
    })

pub returns-in_err-verdict-clause-explained : goal.returns-in_err-verdict-clause-explained
returns-in_err-verdict-clause-explained g c =
    let end = c.judge_run_keeping-answer.result in
    let by = subst (λ r. JudgedBy c.args.asks g.S.Source.gave g.S.Source.ended c.args.source.now c.judge_run_keeping-answer.new.source r
    (run_in end.machine) (bytes_of end.fault)) c.in_err-verdict.was c.judge_run_keeping-answer.ensures.judged in
    let failed = err_from_is_err_and c.from_residual.result c.from_residual.ensures.1 in
    let ended = g.S.Source.ended c.judge_run_keeping-answer.new.source in
    rw (failed.1, failed.2) (record {
      given = by.judged.given;
      gives = by.judged.gives;
      report = pushed_nothing c.args.asks (ExplainsRun c.args.asks c.args.owners by.judged.given ended) by.judged.given ended (g.K.Sink.took c.args.sink.now c.args.sink.now) _
          by.judged.answer (g.met.K.Sink.nothing c.args.sink.now);
    })

pub returns-in_err-verdict-clause-pulls_counted : goal.returns-in_err-verdict-clause-pulls_counted
returns-in_err-verdict-clause-pulls_counted g c =
    let failed = err_from_is_err_and c.from_residual.result c.from_residual.ensures.1 in
    fault_counted c.in_err-verdict.field-0.0 c.judge_run_keeping-answer.result.answer c.from_residual.result (g.S.Source.faults c.args.source.now)
    (g.S.Source.faults c.judge_run_keeping-answer.new.source) c.in_err-verdict.was (failed.1 ∙ ap Err failed.2) c.judge_run_keeping-answer.ensures.counted

pub returns-in_err-verdict-clause-pushes_counted : goal.returns-in_err-verdict-clause-pushes_counted
returns-in_err-verdict-clause-pushes_counted g c =
    let failed = err_from_is_err_and c.from_residual.result c.from_residual.ensures.1 in
    no_push c.in_err-verdict.field-0.0 c.from_residual.result (g.K.Sink.faults c.args.sink.now) (failed.1 ∙ ap Err failed.2)

pub returns-in_err-push_why-clause-pulls_counted : goal.returns-in_err-push_why-clause-pulls_counted
returns-in_err-push_why-clause-pulls_counted g c =
    let before = g.S.Source.faults c.args.source.now in
    let after = g.S.Source.faults c.judge_run_keeping-answer.new.source in
    let result = c.from_residual-in_err-push_why.result in
    let failed = err_from_is_err_and result c.from_residual-in_err-push_why.ensures.1 in
    no_pull result before after (failed.1 ∙ ap Err failed.2)
    (none_pulled c.in_ok-verdict.verdict c.judge_run_keeping-answer.result.answer before after c.in_ok-verdict.was c.judge_run_keeping-answer.ensures.counted)

pub returns-in_err-push_why-clause-pushes_counted : goal.returns-in_err-push_why-clause-pushes_counted
returns-in_err-push_why-clause-pushes_counted g c =
    let result = c.from_residual-in_err-push_why.result in
    let failed = err_from_is_err_and result c.from_residual-in_err-push_why.ensures.1 in
    push_counted result (g.K.Sink.faults c.args.sink.now) (g.K.Sink.faults c.push_why.new.sink) (failed.1 ∙ ap Err failed.2)
    c.in_err-push_why.ensures.counted

pub returns-clause-pulls_counted : goal.returns-clause-pulls_counted
returns-clause-pulls_counted g c =
    let before = g.S.Source.faults c.args.source.now in
    let after = g.S.Source.faults c.judge_run_keeping-answer.new.source in
    none_counted Pull c.in_ok-verdict.verdict before after
    (none_pulled c.in_ok-verdict.verdict c.judge_run_keeping-answer.result.answer before after c.in_ok-verdict.was c.judge_run_keeping-answer.ensures.counted)

pub returns-clause-pushes_counted : goal.returns-clause-pushes_counted
returns-clause-pushes_counted g c =
    none_counted Push c.in_ok-verdict.verdict (g.K.Sink.faults c.args.sink.now) (g.K.Sink.faults c.push_why.new.sink) c.in_ok-push_why.ensures.counted
