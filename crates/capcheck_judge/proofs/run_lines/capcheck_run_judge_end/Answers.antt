use Rattle.std.proofs.Common.{◌≢◌, ◌∙◌, ap, arith, sym, Some}
use Rattle.std.proofs.lemmas.List.Elements.{All-nil}
use Rattle.capcheck_judge.proofs.RunTakingLemmas.{answered_end}
use Rattle.capcheck_judge.proofs.run_lines.capcheck_run_judge_end.Goals as goal

pub returns-in-Some-clause-verdict : goal.returns-in-Some-clause-verdict
returns-in-Some-clause-verdict c = λ asks bytes.
    let end = c.end-verdict.ensures.verdict (omega arith, All-nil (λ b. b ≢ 10)) in
    answered_end c.args.judge.now.judge c.deref.result.now asks bytes c.end-verdict.result end.0 c.run_numbers_of.result
    (c.in-Some.ensures.taken ∙ ap Some (sym c.deref.ensures)) end.1 c.run_numbers_of.ensures.value
