use Rattle.std.proofs.Common.{◌≡◌, ◌∙◌, ap, subst, sym, Some}
use Rattle.capcheck_judge.specs.RunHandles.{HandsOverRunLines}
use Rattle.capcheck_judge.proofs.RunTakingLemmas.{took_run_lines}
use Rattle.capcheck_judge.proofs.run_lines.capcheck_run_judge_lines.Goals as goal

pub returns-in-Some : goal.returns-in-Some
returns-in-Some c =
    let is : c.args.judge.now.judge ≡ Some c.deref_mut.result.now = c.in-Some.ensures.taken ∙ ap Some (sym c.deref_mut.ensures.value) in
    record {
      handed = subst (HandsOverRunLines c.args.bytes.now c.args.judge.now.judge c.put.new.self.judge) (sym c.lines_taken.ensures)
          (took_run_lines c.args.bytes.now c.args.judge.now.judge _ c.deref_mut.result.now c.take-taken.new.self c.take-taken.result is c.put.ensures
          c.take-taken.ensures.count c.take-taken.ensures.stops);
    }
