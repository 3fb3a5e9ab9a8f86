use Rattle.std.proofs.{Common.{Result, subst}, lemmas.Result.err_from_is_err_and}
use Rattle.cap_streams.specs.{declared.judging.judge_faults.JudgeFault.JudgeFault, FaultLines.bytes_of}
use Rattle.cap_heap.specs.{declared.verdict.HeapVerdict.HeapVerdict, Judgings.JudgedBy}
use Rattle.cap_heap.proofs.ToldLemmas.{told, broken}
use Rattle.cap_heap.proofs.output.judge_heap_to.Goals as goal

pub returns-clause-told : goal.returns-clause-told
returns-clause-told g c =
    let kept = c.judge_lines-answer in
    let judged = subst (λ (r : Result HeapVerdict JudgeFault). JudgedBy g.S.Source.gave g.S.Source.ended c.args.source.now
    kept.new.source r kept.new.progress (bytes_of kept.result.1)) c.in_ok-verdict.was kept.ensures.judged in
    told c.args.report c.args.why judged _ c.put_text-end.ensures.text c.in_ok-push_all.ensures.ok

pub returns-in_err-push_all-clause-told : goal.returns-in_err-push_all-clause-told
returns-in_err-push_all-clause-told g c =
    let kept = c.judge_lines-answer in
    let judged = subst (λ (r : Result HeapVerdict JudgeFault). JudgedBy g.S.Source.gave g.S.Source.ended c.args.source.now
    kept.new.source r kept.new.progress (bytes_of kept.result.1)) c.in_ok-verdict.was kept.ensures.judged in
    let failed = err_from_is_err_and c.from_residual-in_err-push_all.result c.from_residual-in_err-push_all.ensures.1 in
    let pushed = c.in_err-push_all.ensures.err in
    rw (failed.1, failed.2) (broken c.args.report c.args.why judged _ c.put_text-end.ensures.text pushed.0 pushed.1)
