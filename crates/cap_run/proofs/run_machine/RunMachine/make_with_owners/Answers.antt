use Rattle.std.proofs.Common.{sym, ap, subst, ◌∙◌, arith}
use Rattle.cap_machine.specs.{Accounts.Account, Helds.{Held, account_of, state_of}, Places.place_at, Steps.Leads}
use Rattle.cap_objects.specs.{Counts.CountsAre, Handed.held_of, HandoutsIn.objects_of}
use Rattle.cap_objects.proofs.BelowLemmas.{counts_few}
use Rattle.cap_run.specs.{Owned.{AreWithin, object_by}, RunOf.{run_owners, run_state}}
use Rattle.cap_run.proofs.UsualLemmas.{unstepped-account, counts-usual, from-there, to-there, usual-ended, usual-owners, within-usual}
use Rattle.cap_run.proofs.run_machine.RunMachine.make_with_owners.Goals as goal

pub invariant_of-self : goal.invariant_of-self
invariant_of-self g c =
    let s = c.args.self.now in
    let same = usual-ended s.machine (g.P.Making.step c.args.making) c.in-Err.end c.make.new.machine c.in-Err.ensures.outcome in
    record {
      counted = subst (λ (h : Held). CountsAre (run_owners h s.specials) (λ n. held_of (objects_of s.objects n))) (sym same) s.counted;
      within = subst (λ (h : Held). AreWithin (run_state h s.specials) (run_owners h s.specials) (objects_of s.objects)) (sym same) s.within;
      few = let steps = ap (λ (h : Held). h.steps) same in omega (arith, s.few, steps);
      asked = s.asked;
    }

pub recount_labels-requires-clause-from : goal.recount_labels-requires-clause-from
recount_labels-requires-clause-from g c slot is =
    let s = c.args.self.now in
    from-there s.machine c.make.new.machine c.disown.new.machine s.specials (g.P.Making.step c.args.making) c.target-written.result c.requires.range c.kept.ensures.kept c.kept.ensures.stored
    c.kept-2.ensures.kept c.in_default.ensures.outcome c.target-written.ensures.place c.target-written.ensures.in_range c.disown.ensures.state c.disown.ensures.owners
    (objects_of s.objects) s.counted slot (sym c.label_at-from.ensures ∙ is)

pub recount_labels-requires-clause-to : goal.recount_labels-requires-clause-to
recount_labels-requires-clause-to g c slot is =
    let s = c.args.self.now in
    to-there s.machine c.make.new.machine c.disown.new.machine s.specials (g.P.Making.step c.args.making) c.target-written.result c.requires.range c.kept.ensures.kept c.kept.ensures.stored
    c.kept-2.ensures.kept c.in_default.ensures.outcome c.target-written.ensures.place c.target-written.ensures.in_range c.disown.ensures.state c.disown.ensures.owners
    (objects_of s.objects) s.counted slot (sym c.label_at-to.ensures ∙ is)

pub recount_labels-requires-clause-few : goal.recount_labels-requires-clause-few
recount_labels-requires-clause-few g c slot =
    let s = c.args.self.now in
    counts_few (run_owners s.machine s.specials) (λ n. held_of (objects_of s.objects n)) slot s.counted

pub invariant_of-self-2 : goal.invariant_of-self-2
invariant_of-self-2 g c =
    let s = c.args.self.now in
    record {
      counted = counts-usual s.machine c.make.new.machine c.disown.new.machine s.specials (g.P.Making.step c.args.making) c.target-written.result c.requires.range c.kept.ensures.kept c.kept.ensures.stored
          c.kept-2.ensures.kept c.in_default.ensures.outcome c.target-written.ensures.place c.target-written.ensures.in_range c.disown.ensures.state c.disown.ensures.owners
          (objects_of s.objects) s.counted (object_by (place_at c.label_at-from.result)) (object_by (place_at c.label_at-to.result)) (λ n. held_of (objects_of c.recount_labels.new.objects n))
          c.label_at-from.ensures c.label_at-to.ensures c.recount_labels.ensures.moves;
      within = within-usual s.machine c.make.new.machine c.disown.new.machine s.specials (g.P.Making.step c.args.making) c.target-written.result c.requires.range c.kept.ensures.kept c.kept.ensures.stored
          c.kept-2.ensures.kept c.in_default.ensures.outcome c.target-written.ensures.place c.target-written.ensures.in_range c.disown.ensures.state c.disown.ensures.owners
          (objects_of s.objects) (objects_of c.recount_labels.new.objects) s.within c.recount_labels.ensures.rest;
      few =
          let count = c.recount_labels.ensures.same.0 in
          let made = ap (λ (a : Account). a.steps) c.in_default.ensures.outcome.account in
          let same = c.disown.ensures.rest.3 in
          omega (arith, s.few, count, made, same);
      asked = c.recount_labels.ensures.same.1 ∙ s.asked;
    }

pub returns-clause-outcome : goal.returns-clause-outcome
returns-clause-outcome g c =
    let s = c.args.self.now in
    let made = c.in_default.ensures.outcome in
    record {
      checks = made.checks;
      account = unstepped-account c.make.new.machine c.disown.new.machine c.disown.ensures.rest c.disown.ensures.state
          ∙ ap (λ (a : Account). record a { origin = (account_of c.disown.new.machine).origin }) made.account;
      leads = subst (Leads s.machine.rules (state_of s.machine) (g.P.Making.step c.args.making)) (sym c.disown.ensures.state) made.leads;
      owners = usual-owners s.machine c.make.new.machine c.disown.new.machine s.specials (g.P.Making.step c.args.making) c.target-written.result c.requires.range c.kept.ensures.kept c.kept.ensures.stored
          c.kept-2.ensures.kept c.in_default.ensures.outcome c.target-written.ensures.place c.target-written.ensures.in_range c.disown.ensures.state c.disown.ensures.owners;
      recounted = c.recount_labels.ensures.rest;
    }
