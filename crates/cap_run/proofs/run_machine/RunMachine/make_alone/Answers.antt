use Rattle.std.proofs.Common.{Ok, Err, ap, option_map, refl, subst, sym, ◌∙◌, arith, Option}
use Rattle.cap_machine.specs.Helds.{state_of}
use Rattle.cap_run.specs.declared.ends.{RunEnd.RunEnd, RunRefusal.{RunRefusal, TheVariants.Usual}}
use Rattle.cap_run.specs.{Numbers.numbered_run, RunChanges.usual_after, RunChecks.{Answers, usual_end, usual_wants}}
use Rattle.cap_run.proofs.{AloneLemmas.{kept-alone, makes-alone}, StepLineLemmas.asked-alike}
use Rattle.cap_run.proofs.UsualNumberLemmas.{asks_nothing, usual-end, usual-numbered, usual-refused, writes-low}
use Rattle.cap_run.proofs.run_machine.RunMachine.make_alone.Goals as goal

pub invariant_of-self : goal.invariant_of-self
invariant_of-self g c =
    let s = c.args.self.now in
    let kept = kept-alone s.machine c.perform.new.machine s.specials s.objects (g.I.Operands.step c.args.kind) s.specials.registers.sized.1 s.counted c.kept.ensures.stored c.requires.none
    c.perform.result c.perform.ensures.outcome s.within in
    record {
      counted = kept.0;
      within = kept.1;
      few = let steps = kept.2 in omega (arith, s.few, steps);
      asked = s.asked;
    }

pub returns-in-Ok-clause-outcome : goal.returns-in-Ok-clause-outcome
returns-in-Ok-clause-outcome g c =
    let s = c.args.self.now in
    let m = c.perform.new.machine in
    let step = g.I.Operands.step c.args.kind in
    let makes = makes-alone s.machine m s.specials s.objects step s.specials.registers.sized.1 s.counted c.kept.ensures.stored c.requires.none c.in-Ok.ensures.outcome in
    let kept = kept-alone s.machine m s.specials s.objects step s.specials.registers.sized.1 s.counted c.kept.ensures.stored c.requires.none (Ok (tt {0})) c.in-Ok.ensures.outcome s.within in (
      asked-alike s.machine s.specials s.objects s.specials.registers.sized.1 s.counted c.kept.ensures.stored c.requires.none step s.asks (asks_nothing s.asks)
          ∙ usual-end s.machine s.specials s.objects step s.asks c.kept.ensures.stored ∙ ap (option_map Usual) makes.checks,
      usual-numbered s.machine m s.specials s.objects s.objects step c.requires.range c.kept.ensures.stored s.specials.registers.sized.1 kept.0
          s.objects.kept.numbered s.objects.kept.numbered (writes-low (state_of s.machine) step c.requires.range) refl makes,
    )

pub returns-in-Err-clause-outcome : goal.returns-in-Err-clause-outcome
returns-in-Err-clause-outcome g c =
    let s = c.args.self.now in
    let m = c.perform.new.machine in
    let step = g.I.Operands.step c.args.kind in
    let run = numbered_run s.machine s.specials s.objects in
    let answers : Option RunRefusal → RunEnd → Type 0 = λ end e.
    Answers end (usual_after run step) (usual_wants run step) run (Err e) (numbered_run m s.specials s.objects) in
    subst (λ (end : Option RunRefusal). answers end c.usual_ended.result)
    (sym (asked-alike s.machine s.specials s.objects s.specials.registers.sized.1 s.counted c.kept.ensures.stored c.requires.none step s.asks (asks_nothing s.asks)))
    (subst (answers (usual_end (asks_nothing s.asks) run step)) (sym c.usual_ended.ensures)
    (usual-refused s.machine m s.specials s.objects step s.asks c.in-Err.end c.kept.ensures.stored c.in-Err.ensures.outcome))
