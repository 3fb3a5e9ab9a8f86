use Rattle.std.proofs.Common.{◌≡◌, ◌∙◌, ap, sym, Some}
use Rattle.capcheck_judge.proofs.HandleLemmas.{text_handed}
use Rattle.capcheck_judge.proofs.lines.capcheck_judge_line.Goals as goal

pub returns-in-Some-clause-handed : goal.returns-in-Some-clause-handed
returns-in-Some-clause-handed c =
    let is : c.args.judge.now.judge ≡ Some c.deref_mut.result.now = c.in-Some.ensures.taken ∙ ap Some (sym c.deref_mut.ensures.value) in
    text_handed c.args.line.now c.args.judge.now.judge c.put.new.self.judge c.deref_mut.result.now c.take_line-state.new.judge
    c.take_line-state.result is c.put.ensures c.take_line-state.ensures.answers c.take_line-state.ensures.takes
