use Rattle.std.proofs.Common.{ap, arith, option_map, subst, sym, ◌∙◌}
use Rattle.std.specs.Prelude.{Err}
use Rattle.cap_machine.specs.{Helds.{account_of}, States.key_of}
use Rattle.cap_run.specs.declared.ends.{RunEnd.RunEnd, RunRefusal.TheVariants.Usual}
use Rattle.cap_run_log.specs.UsualLines.{in_run}
use Rattle.cap_run.specs.{Numbers.numbered_run, RunChanges.root_after, RunChecks.{Answers, root_end, root_wants}}
use Rattle.cap_run.proofs.RootLemmas.{main-after, main-kept, main-unowned, root-end, root-refused, taken-free}
use Rattle.cap_run.proofs.UsualLemmas.{place-low}
use Rattle.cap_run.proofs.run_machine.RunMachine.declare_main.Goals as goal

pub returns-in-Err-clause-outcome : goal.returns-in-Err-clause-outcome
returns-in-Err-clause-outcome g c =
    let s = c.args.self.now in
    let run = numbered_run s.machine s.specials s.objects in
    let place = in_run c.args.place in
    subst (λ (e : RunEnd). Answers (root_end run place c.args.word) (root_after run place c.args.word) (root_wants run place) run (Err e)
    (numbered_run c.declare_labelled.new.self s.specials s.objects)) (sym c.usual_ended.ensures)
    (root-refused s.machine s.specials s.objects c.args.place c.args.word c.requires.place c.in-Err.end c.declare_labelled.new.self c.requires.first
    c.in-Err.ensures.outcome)

pub returns-in-Ok-clause-outcome : goal.returns-in-Ok-clause-outcome
returns-in-Ok-clause-outcome g c =
    let s = c.args.self.now in
    let took = c.in-Ok.ensures.outcome in
    let unowned = main-unowned s.machine s.specials (key_of c.args.place) (place-low c.args.place c.requires.place) c.kept.ensures.kept
    (taken-free (account_of s.machine) c.args.place c.args.word took.0) in (
      root-end s.machine s.specials s.objects c.args.place c.args.word c.requires.place c.requires.first ∙ ap (option_map Usual) took.0,
      main-after s.machine c.declare_labelled.new.self s.specials s.objects c.args.place c.args.word c.requires.place unowned took.1,
    )

pub invariant_of-self : goal.invariant_of-self
invariant_of-self g c =
    let s = c.args.self.now in
    let kept = main-kept s.machine c.declare_labelled.new.self s.specials s.objects c.args.place c.args.word c.requires.place c.kept.ensures.kept
    s.counted s.within c.declare_labelled.result c.declare_labelled.ensures.outcome in
    record {
      counted = kept.0;
      within = kept.1;
      few = let steps = kept.2 in omega (arith, s.few, steps);
      asked = s.asked;
    }
