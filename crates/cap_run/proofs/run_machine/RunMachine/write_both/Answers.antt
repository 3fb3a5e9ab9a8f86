use Rattle.std.proofs.Common.{◌≡◌, ◌∙◌, ℕ, ap, sym, subst, arith}
use Rattle.cap_machine.specs.{Helds.Held, Places.place_at, States.{State, put}}
use Rattle.cap_objects.specs.{Counts.{CountsAre, at_key}, Handed.held_of, HandoutsIn.objects_of}
use Rattle.cap_objects.proofs.BelowLemmas.{counts_few, counts_where}
use Rattle.cap_run.specs.{Owned.{AreWithin, object_by, owner_for}, Run.register_key, RunOf.{run_owners, run_state}}
use Rattle.cap_run.proofs.OwnerLemmas.{both-few, came-both, counts-both, owner_for-some, owners-both, readable, source-low, stepped, target-low, unstepped-twice, within-came}
use Rattle.cap_run.proofs.run_machine.RunMachine.write_both.Goals as goal

pub owner-second_from-requires : goal.owner-second_from-requires
owner-second_from-requires g c = readable c.args.second c.requires.targets.1

pub recount_both-requires-clause-from : goal.recount_both-requires-clause-from
recount_both-requires-clause-from g c =
    let s = c.args.self.now in
    both-few (run_owners s.machine s.specials) (λ n. held_of (objects_of s.objects n)) (register_key c.args.first) (register_key c.args.second)
    c.requires.targets.2 (target-low c.args.first c.requires.targets.0) (target-low c.args.second c.requires.targets.1) s.counted
    c.owner-first_from.result c.owner-second_from.result c.owner-first_from.ensures.owner c.owner-second_from.ensures.owner

pub recount_both-requires-clause-first_to : goal.recount_both-requires-clause-first_to
recount_both-requires-clause-first_to g c slot is =
    let s = c.args.self.now in
    let owner = run_owners s.machine s.specials (register_key c.args.first_source) in
    let owned = owner_for-some c.args.first_cap owner slot
    (sym (c.slot_by.ensures.value ∙ c.label_for-first_label.ensures.owner ∙ ap (owner_for c.args.first_cap) c.label.ensures.owner) ∙ is) in
    counts_where (run_owners s.machine s.specials) (λ n. held_of (objects_of s.objects n)) (register_key c.args.first_source) slot s.counted
    (source-low c.args.first_source c.requires.sources.0) owned.2

pub recount_both-requires-clause-second_to : goal.recount_both-requires-clause-second_to
recount_both-requires-clause-second_to g c slot is =
    let s = c.args.self.now in
    let owner = run_owners s.machine s.specials (register_key c.args.second_source) in
    let owned = owner_for-some c.args.second_cap owner slot
    (sym (c.slot_by-2.ensures.value ∙ c.label_for-second_label.ensures.owner ∙ ap (owner_for c.args.second_cap) c.label-2.ensures.owner) ∙ is) in
    counts_where (run_owners s.machine s.specials) (λ n. held_of (objects_of s.objects n)) (register_key c.args.second_source) slot s.counted
    (source-low c.args.second_source c.requires.sources.1) owned.2

pub recount_both-requires-clause-few : goal.recount_both-requires-clause-few
recount_both-requires-clause-few g c slot =
    let s = c.args.self.now in
    counts_few (run_owners s.machine s.specials) (λ n. held_of (objects_of s.objects n)) slot s.counted

pub invariant_of-self : goal.invariant_of-self
invariant_of-self g c =
    let s = c.args.self.now in
    let first = register_key c.args.first in
    let second = register_key c.args.second in
    let first_from = register_key c.args.first_source in
    let second_from = register_key c.args.second_source in
    let owners = run_owners s.machine s.specials in
    let one = owner_for c.args.first_cap (owners first_from) in
    let two = owner_for c.args.second_cap (owners second_from) in
    let mid = c.put_at-2.new.machine in
    let specials = c.put_at-2.new.specials in
    let one_is : object_by (place_at c.label_for-first_label.result) ≡ one =
    c.label_for-first_label.ensures.owner ∙ ap (owner_for c.args.first_cap) c.label.ensures.owner in
    let two_is : object_by (place_at c.label_for-second_label.result) ≡ two =
    c.label_for-second_label.ensures.owner ∙ ap (owner_for c.args.second_cap) c.label-2.ensures.owner in
    let after_is : (other : ℕ) → run_owners mid specials other ≡ at_key (at_key owners first one) second two other = λ other.
    owners-both owners (run_owners c.put_at.new.machine c.put_at.new.specials) (run_owners mid specials) first second _ _ one two one_is two_is
    c.put_at.ensures.owners c.put_at-2.ensures.owners other in
    let counts : ℕ → ℕ = λ n. held_of (objects_of c.recount_both.new.objects n) in
    let state_is = c.put_at-2.ensures.state ∙ ap (λ (t : State). put t second c.args.second_cap) c.put_at.ensures.state in
    record {
      counted = subst (λ (held : Held). CountsAre (run_owners held specials) counts) (sym c.count_step.ensures.held)
          (counts-both owners (λ n. held_of (objects_of s.objects n)) first second c.requires.targets.2
          (target-low c.args.first c.requires.targets.0) (target-low c.args.second c.requires.targets.1) s.counted
          (run_owners mid specials) counts c.owner-first_from.result c.slot_by.result c.owner-second_from.result c.slot_by-2.result one two
          c.owner-first_from.ensures.owner (c.slot_by.ensures.value ∙ one_is) c.owner-second_from.ensures.owner (c.slot_by-2.ensures.value ∙ two_is)
          c.recount_both.ensures.moves after_is);
      within = subst (λ (held : Held). AreWithin (run_state held specials) (run_owners held specials) (objects_of c.recount_both.new.objects))
          (sym c.count_step.ensures.held)
          (subst (λ (state : State). AreWithin state (run_owners mid specials) (objects_of c.recount_both.new.objects)) (sym state_is)
          (within-came (run_state s.machine s.specials) (put (put (run_state s.machine s.specials) first c.args.first_cap) second c.args.second_cap)
          owners (run_owners mid specials) (objects_of s.objects) (objects_of c.recount_both.new.objects) s.within c.recount_both.ensures.rest
          (came-both (run_state s.machine s.specials) owners (run_owners mid specials) first first_from second second_from c.args.first_cap
          c.args.second_cap c.requires.source_sound.0 c.requires.source_sound.1 c.requires.first_within c.requires.second_within after_is)));
      few =
          let count = c.recount_both.ensures.same.0 in
          let steps = ap (λ (h : Held). h.steps) c.count_step.ensures.held in
          let same = c.put_at.ensures.rest.3 in
          let same2 = c.put_at-2.ensures.rest.3 in
          omega (arith, s.few, count, steps, same, same2);
      asked = c.recount_both.ensures.same.1 ∙ s.asked;
    }

pub returns-clause-writes : goal.returns-clause-writes
returns-clause-writes g c =
    let s = c.args.self.now in
    let first = register_key c.args.first in
    let second = register_key c.args.second in
    let owners = run_owners s.machine s.specials in
    let one = owner_for c.args.first_cap (owners (register_key c.args.first_source)) in
    let two = owner_for c.args.second_cap (owners (register_key c.args.second_source)) in
    let mid = c.put_at-2.new.machine in
    let specials = c.put_at-2.new.specials in
    let held = c.count_step.ensures.held in
    let one_is : object_by (place_at c.label_for-first_label.result) ≡ one =
    c.label_for-first_label.ensures.owner ∙ ap (owner_for c.args.first_cap) c.label.ensures.owner in
    let two_is : object_by (place_at c.label_for-second_label.result) ≡ two =
    c.label_for-second_label.ensures.owner ∙ ap (owner_for c.args.second_cap) c.label-2.ensures.owner in
    record {
      state = ap (λ (h : Held). run_state h specials) held ∙ c.put_at-2.ensures.state
          ∙ ap (λ (t : State). put t second c.args.second_cap) c.put_at.ensures.state;
      owners = λ other. ap (λ (h : Held). run_owners h specials other) held
          ∙ owners-both owners (run_owners c.put_at.new.machine c.put_at.new.specials) (run_owners mid specials) first second _ _ one two one_is two_is
          c.put_at.ensures.owners c.put_at-2.ensures.owners other;
      objects = c.recount_both.ensures.rest;
      rest = stepped s.machine mid c.count_step.new.self s.specials specials s.objects c.recount_both.new.objects
          (unstepped-twice s.machine c.put_at.new.machine mid c.put_at.ensures.rest c.put_at-2.ensures.rest) held c.recount_both.ensures.same.0
          (c.put_at-2.ensures.harts ∙ c.put_at.ensures.harts);
    }
