use Rattle.std.proofs.Common.{◌≡◌, ◌∙◌, ap, subst, sym, Some}
use Rattle.capcheck_judge.specs.Handles.{HandsOverLines}
use Rattle.capcheck_judge.proofs.TakingLemmas.{took_lines}
use Rattle.capcheck_judge.proofs.lines.capcheck_judge_lines.Goals as goal

pub returns-in-Some : goal.returns-in-Some
returns-in-Some c =
    let is : c.args.judge.now.judge ≡ Some c.deref_mut.result.now = c.in-Some.ensures.taken ∙ ap Some (sym c.deref_mut.ensures.value) in
    record {
      handed = subst (HandsOverLines c.args.bytes.now c.args.judge.now.judge c.put.new.self.judge) (sym c.lines_taken.ensures)
          (took_lines c.args.bytes.now c.args.judge.now.judge _ c.deref_mut.result.now c.take-taken.new.self c.take-taken.result is c.put.ensures
          c.take-taken.ensures.count c.take-taken.ensures.stops);
    }
