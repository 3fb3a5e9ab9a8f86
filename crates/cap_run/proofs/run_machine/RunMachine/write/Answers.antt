use Rattle.std.proofs.Common.{◌≡◌, ℕ, Option, ap, sym, subst, ◌∙◌, arith}
use Rattle.cap_machine.specs.{Helds.Held, Places.place_at, States.put}
use Rattle.cap_objects.specs.{Counts.{CountsAre, at_key}, Handed.held_of, HandoutsIn.objects_of}
use Rattle.cap_objects.proofs.BelowLemmas.{counts_few, counts_where}
use Rattle.cap_run.specs.{Owned.{AreWithin, object_by, owner_for}, Run.register_key, RunOf.{run_owners, run_state}}
use Rattle.cap_run.proofs.OwnerLemmas.{came-written, counts-to, owner_for-some, source-low, stepped, target-low, within-came}
use Rattle.cap_run.proofs.run_machine.RunMachine.write.Goals as goal

pub recount_labels-requires-clause-from : goal.recount_labels-requires-clause-from
recount_labels-requires-clause-from g c slot is =
    let s = c.args.self.now in
    counts_where (run_owners s.machine s.specials) (λ n. held_of (objects_of s.objects n)) (register_key c.args.target) slot s.counted
    (target-low c.args.target c.requires.target) (sym c.label-from.ensures.owner ∙ is)

pub recount_labels-requires-clause-to : goal.recount_labels-requires-clause-to
recount_labels-requires-clause-to g c slot is =
    let s = c.args.self.now in
    let owner = run_owners s.machine s.specials (register_key c.args.source) in
    let owned = owner_for-some c.args.cap owner slot
    (sym (c.label_for-label.ensures.owner ∙ ap (owner_for c.args.cap) c.label.ensures.owner) ∙ is) in
    counts_where (run_owners s.machine s.specials) (λ n. held_of (objects_of s.objects n)) (register_key c.args.source) slot s.counted
    (source-low c.args.source c.requires.source) owned.2

pub recount_labels-requires-clause-few : goal.recount_labels-requires-clause-few
recount_labels-requires-clause-few g c slot =
    let s = c.args.self.now in
    counts_few (run_owners s.machine s.specials) (λ n. held_of (objects_of s.objects n)) slot s.counted

pub invariant_of-self : goal.invariant_of-self
invariant_of-self g c =
    let s = c.args.self.now in
    let key = register_key c.args.target in
    let from = register_key c.args.source in
    let owners = run_owners s.machine s.specials in
    let owner = owner_for c.args.cap (owners from) in
    let mid = c.put_at.new.machine in
    let specials = c.put_at.new.specials in
    let label_is : object_by (place_at c.label_for-label.result) ≡ owner = c.label_for-label.ensures.owner ∙ ap (owner_for c.args.cap) c.label.ensures.owner in
    let after_is : (other : ℕ) → run_owners mid specials other ≡ at_key owners key owner other = λ other.
    c.put_at.ensures.owners other ∙ ap (λ (o : Option ℕ). at_key owners key o other) label_is in
    let counts : ℕ → ℕ = λ n. held_of (objects_of c.recount_labels.new.objects n) in
    record {
      counted = subst (λ (held : Held). CountsAre (run_owners held specials) counts) (sym c.count_step.ensures.held)
          (counts-to owners (run_owners mid specials) (λ n. held_of (objects_of s.objects n)) counts key (object_by (place_at c.label-from.result)) (object_by (place_at c.label_for-label.result)) owner
          (target-low c.args.target c.requires.target) s.counted c.label-from.ensures.owner label_is
          c.recount_labels.ensures.moves after_is);
      within = subst (λ (held : Held). AreWithin (run_state held specials) (run_owners held specials) (objects_of c.recount_labels.new.objects))
          (sym c.count_step.ensures.held)
          (subst (λ (state : ℕ → _). AreWithin state (run_owners mid specials) (objects_of c.recount_labels.new.objects)) (sym c.put_at.ensures.state)
          (within-came (run_state s.machine s.specials) (put (run_state s.machine s.specials) key c.args.cap) owners (run_owners mid specials)
          (objects_of s.objects) (objects_of c.recount_labels.new.objects) s.within c.recount_labels.ensures.rest
          (came-written (run_state s.machine s.specials) owners (run_owners mid specials) key from c.args.cap c.requires.source_sound c.requires.within after_is)));
      few =
          let count = c.recount_labels.ensures.same.0 in
          let steps = ap (λ (h : Held). h.steps) c.count_step.ensures.held in
          let same = c.put_at.ensures.rest.3 in
          omega (arith, s.few, count, steps, same);
      asked = c.recount_labels.ensures.same.1 ∙ s.asked;
    }

pub returns-clause-writes : goal.returns-clause-writes
returns-clause-writes g c =
    let s = c.args.self.now in
    let key = register_key c.args.target in
    let from = register_key c.args.source in
    let owners = run_owners s.machine s.specials in
    let owner = owner_for c.args.cap (owners from) in
    let mid = c.put_at.new.machine in
    let specials = c.put_at.new.specials in
    let held = c.count_step.ensures.held in
    let label_is : object_by (place_at c.label_for-label.result) ≡ owner = c.label_for-label.ensures.owner ∙ ap (owner_for c.args.cap) c.label.ensures.owner in
    record {
      state = ap (λ (h : Held). run_state h specials) held ∙ c.put_at.ensures.state;
      owners = λ other. ap (λ (h : Held). run_owners h specials other) held ∙ c.put_at.ensures.owners other
          ∙ ap (λ (o : Option ℕ). at_key owners key o other) label_is;
      objects = c.recount_labels.ensures.rest;
      rest = stepped s.machine mid c.count_step.new.self s.specials specials s.objects c.recount_labels.new.objects c.put_at.ensures.rest held
          c.recount_labels.ensures.same.0 c.put_at.ensures.harts;
    }
