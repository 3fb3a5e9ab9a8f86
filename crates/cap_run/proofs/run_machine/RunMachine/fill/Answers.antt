use Rattle.std.proofs.Common.{None, refl, sym, ap, subst, arith, ◌∙◌}
use Rattle.cap_machine.specs.{Accounts.Account, Helds.Held, States.granule_key}
use Rattle.cap_objects.specs.{Counts.CountsAre, Handed.held_of, HandoutsIn.objects_of}
use Rattle.cap_objects.proofs.BelowLemmas.{counts_few, counts_where}
use Rattle.cap_run.specs.{Owned.AreWithin, RunOf.{run_owners, run_state}}
use Rattle.cap_run.proofs.{FillLemmas.{fill-owners, fills, put-ended, within-filled}, OwnerLemmas.counts-to}
use Rattle.cap_run.proofs.run_machine.RunMachine.fill.Goals as goal

pub invariant_of-self : goal.invariant_of-self
invariant_of-self g c =
    let s = c.args.self.now in
    let same = put-ended s.machine c.args.granule c.in-Err.end c.fill.new.self c.in-Err.ensures.outcome in
    record {
      counted = subst (λ (h : Held). CountsAre (run_owners h s.specials) (λ n. held_of (objects_of s.objects n))) (sym same) s.counted;
      within = subst (λ (h : Held). AreWithin (run_state h s.specials) (run_owners h s.specials) (objects_of s.objects)) (sym same) s.within;
      few = let steps = ap (λ (h : Held). h.steps) same in omega (arith, s.few, steps);
      asked = s.asked;
    }

pub recount-requires-clause-from : goal.recount-requires-clause-from
recount-requires-clause-from g c slot is =
    let s = c.args.self.now in
    counts_where (run_owners s.machine s.specials) (λ n. held_of (objects_of s.objects n)) (granule_key c.args.granule) slot s.counted
    (omega (arith, c.requires)) (sym c.granule_owner-from.ensures.owner ∙ is)

pub recount-requires-clause-few : goal.recount-requires-clause-few
recount-requires-clause-few g c slot =
    let s = c.args.self.now in
    counts_few (run_owners s.machine s.specials) (λ n. held_of (objects_of s.objects n)) slot s.counted

pub invariant_of-self-in-Ok : goal.invariant_of-self-in-Ok
invariant_of-self-in-Ok g c =
    let s = c.args.self.now in
    let account = c.in-Ok.ensures.account in
    let after = objects_of c.recount.new.objects in
    record {
      counted = counts-to (run_owners s.machine s.specials) (run_owners c.fill.new.self s.specials) (λ n. held_of (objects_of s.objects n))
          (λ n. held_of (after n)) (granule_key c.args.granule) c.granule_owner-from.result None None (omega (arith, c.requires)) s.counted
          c.granule_owner-from.ensures.owner refl c.recount.ensures.moves
          (fill-owners s.machine c.fill.new.self s.specials c.args.granule _ c.requires account);
      within = within-filled s.machine c.fill.new.self s.specials c.args.granule _ c.requires account (objects_of s.objects) after s.within
          c.recount.ensures.rest;
      few =
          let count = c.recount.ensures.same.0 in
          let steps = ap (λ (a : Account). a.steps) account in
          omega (arith, s.few, count, steps);
      asked = c.recount.ensures.same.1 ∙ s.asked;
    }

pub returns-in-Ok-clause-outcome : goal.returns-in-Ok-clause-outcome
returns-in-Ok-clause-outcome g c =
    let s = c.args.self.now in (
      c.in-Ok.ensures.outcome.0,
      fills s.machine c.fill.new.self s.specials c.args.granule _ c.requires c.in-Ok.ensures.account s.objects c.recount.new.objects
          c.recount.ensures.rest c.recount.ensures.same.0,
    )
