use Rattle.cap_objects.specs.IndexIn.{at}
use Rattle.std.proofs.Common.{Some, arith, rules}
use Rattle.cap_objects.specs.{HandoutsIn.objects_of, SlotsIn.present_in}
use Rattle.cap_objects.proofs.KeptLemmas.{kept-added, kept-alike, of_err, of_ok, taken-out, unnumbered}
use Rattle.cap_objects.proofs.handouts.Handouts.keep.Goals as goal

pub insert_keys-requires : goal.insert_keys-requires
insert_keys-requires c =
    let s = c.args.self.now in
    record {
      new_number = unnumbered s.keeps s.count (objects_of s) (at s.numbers) (at s.bases) s.kept c.args.object.number
          (omega (arith, c.requires.next.0));
    }

pub invariant_of-self-2 : goal.invariant_of-self-2
invariant_of-self-2 c =
    let s = c.args.self.now in
    let e = c.insert_keys.ensures in
    record {
      kept = kept-added s.keeps s.count (objects_of s) (at s.numbers) (at s.bases) s.kept c.in-Ok.slot
          (present_in c.insert.new.self) c.args.object (at c.insert_keys.new.numbers) (at c.insert_keys.new.bases)
          c.in-Ok.ensures.ok.0 c.in-Ok.ensures.ok.1 c.requires.next.0 c.requires.next.1 c.requires.long c.requires.room
          (of_ok c.insert_keys.result (search rules) e.ok) (of_ok c.insert_keys.result (search rules) e.ok_base);
    }

pub invariant_of-self-then-is_err : goal.invariant_of-self-then-is_err
invariant_of-self-then-is_err c =
    let s = c.args.self.now in
    let e = c.insert_keys.ensures in
    record {
      kept = kept-alike s.keeps s.count (objects_of s) (present_in c.remove.new.self) (at s.numbers) (at c.insert_keys.new.numbers)
          (at s.bases) (at c.insert_keys.new.bases) s.kept
          (taken-out c.in-Ok.slot (Some c.args.object) (objects_of s) (present_in c.insert.new.self) (present_in c.remove.new.self)
          c.in-Ok.ensures.ok.0 c.in-Ok.ensures.ok.1 c.remove.ensures.set)
          (of_err c.insert_keys.result (search rules) e.err) (of_err c.insert_keys.result (search rules) e.err_base);
    }
