use Rattle.cap_objects.specs.IndexIn.{at}
use Rattle.std.proofs.Common.{◌≡◌, ℕ, Some, None, if◌then◌else◌, rules, subst, ◌∙◌}
use Rattle.cap_objects.specs.{HandoutsIn.objects_of, Indexes.Rekeys, SlotsIn.present_in}
use Rattle.cap_objects.proofs.KeptLemmas.{base_at, compared_live, kept-moved, of_ok}
use Rattle.cap_objects.proofs.handouts.Handouts.move_base.Goals as goal

pub replace_key-requires : goal.replace_key-requires
replace_key-requires c long =
    let s = c.args.self.now in
    let o = c.args.object in
    let narrow : c.in-Ok.narrow ≡ c.args.slot = search rules in
    rw narrow
    (base_at s.keeps s.count (objects_of s) (at s.numbers) (at s.bases) s.kept c.args.slot o c.requires.was.0
    (compared_live s.keeps o.long o.freed c.requires.was.1 ∙ long))

pub invariant_of-self-2 : goal.invariant_of-self-2
invariant_of-self-2 c =
    let s = c.args.self.now in
    let o = c.args.object in
    let bases = at c.replace_key.new.bases in
    let narrow : c.in-Ok.narrow ≡ c.args.slot = search rules in
    record {
      kept = kept-moved s.keeps s.count (objects_of s) (at s.numbers) (at s.bases) s.kept c.args.slot o
          c.requires.was.0 (present_in c.set.new.self) c.args.wider bases c.requires.was.1 c.requires.wider.0
          c.requires.wider.1 c.requires.room c.set.ensures.set
          (subst (λ (n : ℕ). Rekeys (at s.bases) n (if o.long then Some o.base else None) (Some c.args.wider.base) bases) narrow
          (of_ok c.replace_key.result (search rules) c.replace_key.ensures.ok));
    }
