use Rattle.std.proofs.Common.{◌≡◌, ap, option_map, subst, sym, ◌∙◌}
use Rattle.std.specs.Prelude.{Err}
use Rattle.cap_run.specs.declared.ends.{RunEnd.RunEnd, RunRefusal.TheVariants.Usual}
use Rattle.cap_run.specs.{Numbers.numbered_run, RunChanges.usual_after, RunChecks.{Answers, usual_end, usual_ended, usual_wants}}
use Rattle.cap_objects.specs.{Counts.CountsAre, Handed.held_of, HandoutsIn.objects_of}
use Rattle.cap_run.specs.{declared.specials.Specials.Specials, Run.Run, RunOf.run_owners}
use Rattle.cap_machine.specs.Helds.{state_of}
use Rattle.cap_run.proofs.UsualNumberLemmas.{asks_nothing, usual-end, usual-numbered, usual-refused, writes-low}
use Rattle.cap_run.proofs.run_machine.RunMachine.make_unasked.Goals as goal

pub returns-in-Ok-clause-outcome : goal.returns-in-Ok-clause-outcome
returns-in-Ok-clause-outcome g c =
    let s = c.args.self.now in
    let n = c.make_with_owners.new.self in
    let step = g.P.Making.step c.args.making in
    let makes = c.in-Ok.ensures.outcome in
    let low = writes-low (state_of s.machine) step c.requires.range in (
      usual-end s.machine s.specials s.objects step s.asks c.kept.ensures.stored ∙ ap (option_map Usual) makes.checks,
      subst (λ (x : Specials). numbered_run n.machine x n.objects ≡ usual_after (numbered_run s.machine s.specials s.objects) step) (sym c.in-Ok.ensures.specials)
          (usual-numbered s.machine n.machine s.specials s.objects n.objects step c.requires.range c.kept.ensures.stored s.specials.registers.sized.1
          (subst (λ (x : Specials). CountsAre (run_owners n.machine x) (λ slot. held_of (objects_of n.objects slot))) c.in-Ok.ensures.specials n.counted)
          s.objects.kept.numbered n.objects.kept.numbered low c.in-Ok.ensures.count makes),
    )

pub returns-in-Err-clause-outcome : goal.returns-in-Err-clause-outcome
returns-in-Err-clause-outcome g c =
    let s = c.args.self.now in
    let n = c.make_with_owners.new.self in
    let step = g.P.Making.step c.args.making in
    let run = numbered_run s.machine s.specials s.objects in
    let answers : RunEnd → Run → Type 0 = λ e new. Answers (usual_end (asks_nothing s.asks) run step) (usual_after run step) (usual_wants run step) run (Err e) new in
    subst (λ (e : RunEnd). answers e (numbered_run n.machine n.specials n.objects)) (sym c.usual_ended.ensures)
    (subst (answers (usual_ended c.in-Err.end))
    (ap (λ (x : Specials). numbered_run n.machine x s.objects) (sym c.in-Err.ensures.specials)
    ∙ ap (numbered_run n.machine n.specials) (sym c.in-Err.ensures.err))
    (usual-refused s.machine n.machine s.specials s.objects step s.asks c.in-Err.end c.kept.ensures.stored c.in-Err.ensures.outcome))
