use Rattle.std.specs.FinMap.{len, len-empty}
use Rattle.std.proofs.{Common.{ap, subst, true, ◌∙◌, nat_cmp, arith, refl, ℕ, Result, Err}, lemmas.Result.err_from_is_err_and}
use Rattle.cap_streams.specs.{FaultLines.{bytes_of, told_fault}, Streams.CountsOnly}
use Rattle.cap_streams.specs.declared.judging.judge_faults.{JudgeFault.JudgeFault, JudgeToFault.JudgeToFault}
use Rattle.tagmem.specs.Granules.{Entry}
use Rattle.cap_judge.specs.{Judgings.JudgedBy, OriginLists.report_text, Reports.Tells}
use Rattle.cap_judge.proofs.{EscapeLaws.named, ReportLemmas.{IsHeld, pushed_nothing, tells}}
use Rattle.cap_judge.proofs.output.judge_origins.Goals as goal

pub judge_keeping-answer-requires : goal.judge_keeping-answer-requires
judge_keeping-answer-requires g c = ap len c.new.ensures.empty ∙ len-empty nat_cmp Entry

pub returns-in_err-verdict-clause-reported : goal.returns-in_err-verdict-clause-reported
returns-in_err-verdict-clause-reported g c =
    let by = subst (λ r. JudgedBy g.S.Source.gave g.S.Source.ended c.args.source.now c.judge_keeping-answer.new.source r
    c.judge_keeping-answer.result.machine (bytes_of c.judge_keeping-answer.result.fault)) c.in_err-verdict.was
    c.judge_keeping-answer.ensures.judged in
    let failed = err_from_is_err_and c.from_residual.result c.from_residual.ensures.1 in
    rw (failed.1, failed.2) (record {
      given = by.judged.given;
      gives = by.judged.gives;
      report = pushed_nothing (Tells true by.judged.given) _ _ (g.K.Sink.took c.args.sink.now c.args.sink.now) _ by.judged.answer (g.met.K.Sink.nothing c.args.sink.now);
    })

pub returns-clause-reported : goal.returns-clause-reported
returns-clause-reported g c =
    let held = c.judge_keeping-answer.result.machine in
    let is : IsHeld held = record {
      coded = c.kept.ensures.kept.coded;
      zero_is = c.kept.ensures.kept.zero;
      stored = c.kept.ensures.stored;
    } in
    let by = subst (λ r. JudgedBy g.S.Source.gave g.S.Source.ended c.args.source.now c.judge_keeping-answer.new.source r held
    (bytes_of c.judge_keeping-answer.result.fault)) c.in_ok-verdict.was c.judge_keeping-answer.ensures.judged in
    record {
      given = by.judged.given;
      gives = by.judged.gives;
      report = (
        by.judged.answer,
        report_text held c.in_ok-verdict.verdict,
        tells by.judged.given held c.in_ok-verdict.verdict is by.leads,
        c.in_ok-push_report.ensures.ok,
      );
    }

pub returns-in_err-push_report-clause-reported : goal.returns-in_err-push_report-clause-reported
returns-in_err-push_report-clause-reported g c =
    let held = c.judge_keeping-answer.result.machine in
    let is : IsHeld held = record {
      coded = c.kept.ensures.kept.coded;
      zero_is = c.kept.ensures.kept.zero;
      stored = c.kept.ensures.stored;
    } in
    let by = subst (λ r. JudgedBy g.S.Source.gave g.S.Source.ended c.args.source.now c.judge_keeping-answer.new.source r held
    (bytes_of c.judge_keeping-answer.result.fault)) c.in_ok-verdict.was c.judge_keeping-answer.ensures.judged in
    let part = c.in_err-push_report.ensures.err in
    let failed = err_from_is_err_and c.from_residual-in_err-push_report.result c.from_residual-in_err-push_report.ensures.1 in
    rw (failed.1, failed.2) (record {
      given = by.judged.given;
      gives = by.judged.gives;
      report = (
        c.in_ok-verdict.verdict,
        by.judged.answer,
        report_text held c.in_ok-verdict.verdict,
        tells by.judged.given held c.in_ok-verdict.verdict is by.leads,
        part.0,
        part.1,
      );
    })

pub returns-clause-escape : goal.returns-clause-escape
returns-clause-escape g c = named c.in_ok-verdict.verdict

-- a fault of the judging is counted as the fault that is told of it
counted_told : {A B : Type 0} (fault : JudgeFault) (before after : ℕ)
    → CountsOnly {R = Result A JudgeFault} (Err JudgeFault.Pull) before after (Err fault)
    → CountsOnly {R = Result B JudgeToFault} (Err JudgeToFault.Pull) before after (Err (told_fault fault))
counted_told JudgeFault.Pull before after counted = (λ differs. absurd (differs refl), λ _. counted.1 refl)
counted_told JudgeFault.NoMemory before after counted = (λ _. counted.0 (λ same. grind arith), λ same. grind arith)

pub returns-in_err-verdict-clause-pulls_counted : goal.returns-in_err-verdict-clause-pulls_counted
returns-in_err-verdict-clause-pulls_counted g c =
    let failed = err_from_is_err_and c.from_residual.result c.from_residual.ensures.1 in
    let before = g.S.Source.faults c.args.source.now in
    let after = g.S.Source.faults c.judge_keeping-answer.new.source in
    rw (failed.1, failed.2) (counted_told c.in_err-verdict.field-0.0 before after
    (subst (CountsOnly (Err JudgeFault.Pull) before after) c.in_err-verdict.was c.judge_keeping-answer.ensures.counted))
