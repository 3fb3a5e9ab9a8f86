use Rattle.std.proofs.Common.{◌≡◌, ◌∙◌, ap, subst, sym, Some}
use Rattle.cap_run.specs.Run.{Run}
use Rattle.cap_run_judge.specs.Readings.{stage_of}
use Rattle.capcheck_judge.specs.{RunHandles.{RunJudgeIn, run_behind}, RunPlaces.IsHolderTold}
use Rattle.capcheck_judge.proofs.{RunStepLemmas.holder_told, RunTakingLemmas.one_held}
use Rattle.capcheck_judge.proofs.run_places.capcheck_run_judge_holder.Goals as goal
use Rattle.cap_run.specs.Machines.{run_in}

pub returns-in-Some-clause-holder : goal.returns-in-Some-clause-holder
returns-in-Some-clause-holder c = λ asks bytes holds.
    let held = c.args.judge.now.judge in
    let judge = c.deref.result.now in
    let is : held ≡ Some judge = c.in-Some.ensures.taken ∙ ap Some (sym c.deref.ensures) in
    let same : run_in c.machine.result.now ≡ run_behind holds =
    ap (λ m. run_in m) c.machine.ensures.held ∙ ap (λ (j : RunJudgeIn). (stage_of j).state.run) (one_held held asks bytes holds judge is) in
    subst (λ (r : Run). IsHolderTold r c.args.number c.told_holder.result) same
    (holder_told (run_in c.machine.result.now) c.args.number c.holder-found.result c.told_holder.result c.holder-found.ensures.some
    c.holder-found.ensures.place c.holder-found.ensures.none c.told_holder.ensures)
