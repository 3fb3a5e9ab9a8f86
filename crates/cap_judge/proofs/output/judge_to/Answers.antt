use Rattle.std.specs.FinMap.{len, len-empty}
use Rattle.std.proofs.{Common.{ap, false, subst, ◌∙◌, nat_cmp, rules}, lemmas.Result.err_from_is_err_and}
use Rattle.tagmem.specs.Granules.{Entry}
use Rattle.cap_judge.specs.{Judgings.Judged, Reports.Tells}
use Rattle.cap_judge.proofs.ReportLemmas.{pushed_nothing}
use Rattle.cap_judge.proofs.output.judge_to.Goals as goal

pub judge_in-requires : goal.judge_in-requires
judge_in-requires g c = ap len c.new.ensures.empty ∙ len-empty nat_cmp Entry

-- the goals that say what the sink has: named, so that a text pushed too early is refused at once
pub returns-in_err-verdict-clause-reported : goal.returns-in_err-verdict-clause-reported
returns-in_err-verdict-clause-reported g c =
    let judged = subst (Judged g.S.Source.gave g.S.Source.ended c.args.source.now c.judge_in.new.source) c.in_err-verdict.was
    c.judge_in.ensures.judged in
    let failed = err_from_is_err_and c.from_residual.result c.from_residual.ensures.1 in
    rw (failed.1, failed.2) (record {
      given = judged.given;
      gives = judged.gives;
      report = pushed_nothing (Tells false judged.given) _ _ (g.K.Sink.took c.args.sink.now c.args.sink.now) _ judged.answer (g.met.K.Sink.nothing c.args.sink.now);
    })

pub returns-in_err-verdict-clause-pushes_counted : goal.returns-in_err-verdict-clause-pushes_counted
returns-in_err-verdict-clause-pushes_counted g c = search rules

pub returns-in_err-push_verdict-clause-reported : goal.returns-in_err-push_verdict-clause-reported
returns-in_err-push_verdict-clause-reported g c = search rules

pub returns-clause-reported : goal.returns-clause-reported
returns-clause-reported g c = search rules

pub returns-clause-pushes_counted : goal.returns-clause-pushes_counted
returns-clause-pushes_counted g c = search rules
