use Rattle.std.proofs.{Common.subst, lemmas.Result.err_from_is_err_and}
use Rattle.cap_streams.specs.FaultLines.{bytes_of}
use Rattle.cap_judge.specs.Judgings.{IsAnswerOf}
use Rattle.cap_judge.proofs.ReportLemmas.{pushed_nothing}
use Rattle.cap_report.specs.Whys.{Explains}
use Rattle.cap_report.proofs.WhyLemmas.{told_of}
use Rattle.cap_report.proofs.explanations.push_judging.Goals as goal

pub returns-in_err-verdict-clause-explained : goal.returns-in_err-verdict-clause-explained
returns-in_err-verdict-clause-explained g c = λ bytes ended answers leads stops.
    let failed = err_from_is_err_and c.from_residual.result c.from_residual.ensures.1 in
    rw (failed.1, failed.2) (pushed_nothing (Explains c.args.origins bytes ended) bytes ended (g.K.Sink.took c.args.sink.now c.args.sink.now) _
    (subst (IsAnswerOf bytes ended) c.in_err-verdict.was answers) (g.met.K.Sink.nothing c.args.sink.now))

pub returns-clause-explained : goal.returns-clause-explained
returns-clause-explained g c = λ bytes ended answers leads stops.
    let judging = c.args.judging.now in
    let why = c.in_ok-push_why.ensures.ok in
    let both = told_of c.args.origins bytes ended judging.machine (bytes_of judging.fault) judging.answer c.in_ok-verdict.verdict why.0
    c.in_ok-verdict.was (record { coded = c.kept.ensures.kept.coded; zero_is = c.kept.ensures.kept.zero; stored = c.kept.ensures.stored })
    answers leads stops why.1 in
    (both.0, why.0, both.1, why.2)

pub returns-in_err-push_why-clause-explained : goal.returns-in_err-push_why-clause-explained
returns-in_err-push_why-clause-explained g c = λ bytes ended answers leads stops.
    let judging = c.args.judging.now in
    let why = c.in_err-push_why.ensures.err in
    let both = told_of c.args.origins bytes ended judging.machine (bytes_of judging.fault) judging.answer c.in_ok-verdict.verdict why.0
    c.in_ok-verdict.was (record { coded = c.kept.ensures.kept.coded; zero_is = c.kept.ensures.kept.zero; stored = c.kept.ensures.stored })
    answers leads stops why.1 in
    let failed = err_from_is_err_and c.from_residual-in_err-push_why.result c.from_residual-in_err-push_why.ensures.1 in
    rw (failed.1, failed.2) (c.in_ok-verdict.verdict, both.0, why.0, both.1, why.2, why.3)
