use Rattle.std.proofs.Common.{◌≡◌, ◌∙◌, ap, inl, subst, sym, Some}
use Rattle.cap_run.specs.Run.{Run}
use Rattle.cap_run_judge.specs.Readings.{stage_of}
use Rattle.capcheck_judge.specs.{RunHandles.{RunJudgeIn, run_behind}, RunPlaces.IsNextTold}
use Rattle.capcheck_judge.proofs.RunTakingLemmas.{one_held}
use Rattle.capcheck_judge.proofs.run_places.capcheck_run_judge_next_object.Goals as goal
use Rattle.cap_run.specs.Machines.{run_in}

pub returns-in-Some-next-clause-next : goal.returns-in-Some-next-clause-next
returns-in-Some-next-clause-next c = λ asks bytes holds.
    let held = c.args.judge.now.judge in
    let judge = c.deref.result.now in
    let is : held ≡ Some judge = c.in-Some.ensures.taken ∙ ap Some (sym c.deref.ensures) in
    let same : run_in c.machine.result.now ≡ run_behind holds =
    ap (λ m. run_in m) c.machine.ensures.held ∙ ap (λ (j : RunJudgeIn). (stage_of j).state.run) (one_held held asks bytes holds judge is) in
    let some = c.in-Some-next.ensures.some in
    subst (λ (r : Run). IsNextTold r c.args.from c.in-Some-next.object.number) same (inl (c.in-Some-next.object, some.0, some.1, some.2))
