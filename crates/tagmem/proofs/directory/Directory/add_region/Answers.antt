use Rattle.std.proofs.Common.{◌≡◌, ◌≢◌, ℕ, suc, ◌/◌, ◌∷◌, [], ◌++◌, length, sym, ◌∙◌, arith}
use Rattle.std.proofs.lemmas.{Grind.get_or_default_zero, List.{length-map, map-append, Quantifiers.all_pairs_push}}
use Rattle.tagmem.specs.{declared.region.Region.Region, Directories.there_in, Orders.IsLinkedTo, Pages.IsWith}
use Rattle.tagmem.specs.Regions.{is_there, links_of, numbers_of}
use Rattle.tagmem.proofs.{Orders.{AreLinked-more, links_of-push}, Regions.{AreCounted-with, IsWith_push}}
use Rattle.tagmem.proofs.directory.Directory.add_region.Goals.{After-join}
use Rattle.tagmem.proofs.directory.Directory.add_region.Goals as goal

pub invariant_of-self : goal.invariant_of-self
invariant_of-self c =
    let s = c.args.self.now in
    record { distinct = s.distinct; linked = rw c.make_room.ensures.items s.linked; counted = s.counted }

pub invariant_of-self-in_default-reserve : goal.invariant_of-self-in_default-reserve
invariant_of-self-in_default-reserve c =
    let s = c.args.self.now in
    rw c.reserve.ensures.items (record { distinct = s.distinct; linked = rw c.make_room.ensures.items s.linked; counted = s.counted })

module _ (c : After-join) where
  pushed : c.push_reserved.new.self.items ≡ c.args.self.now.regions.items ++ c.new.result ∷ []
  pushed = grind arith

  with : IsWith (there_in c.args.self.now) (is_there c.join.new.regions.items) c.args.page
  with =
      let last = IsWith_push c.args.self.now.regions.items c.args.page c.new.result c.new.ensures.number c.new.ensures.own c.new.ensures.others in
      grind (arith, pushed, last)

pub returns-clause-ok : goal.returns-clause-ok
returns-clause-ok c = with (goal.at.returns-clause-ok c).After-join

pub invariant_of-self-2 : goal.invariant_of-self-2
invariant_of-self-2 c =
    let s = c.args.self.now in
    let after = (goal.at.invariant_of-self-2 c).After-join in
    let old = s.regions.items in
    let number = c.args.page / 64 in
    let new = c.join.new.regions.items in
    let numbers_are : numbers_of new ≡ numbers_of old ++ number ∷ [] =
    c.join.ensures.numbers ∙ rw (pushed after, ← c.new.ensures.number) (map-append (λ (r : Region). r.number) old (c.new.result ∷ [])) in
    let joined : IsLinkedTo (links_of s.roots.items old) (links_of c.join.new.roots.items new) c.args.end.0 c.args.end.1 (suc (length (numbers_of old))) =
    record {
      own = c.join.ensures.linked.own
          ∙ omega (arith, c.in-Ok.ensures.1, c.len-at.ensures, s.regions.ok.0, length-map old (λ (r : Region). r.number));
      others = λ l d differs. c.join.ensures.linked.others l d differs
          ∙ rw (pushed after, c.make_room.ensures.items) (links_of-push s.roots.items old c.new.result c.new.ensures.children l d);
    } in
    record {
      distinct = rw numbers_are (all_pairs_push (λ (a b : ℕ). a ≢ b) (numbers_of old) number s.distinct (λ k d lt is.
          c.requires.absent.absent k lt (sym (get_or_default_zero (numbers_of old) k d lt) ∙ is)));
      linked = rw numbers_are (AreLinked-more (numbers_of old) (links_of s.roots.items old) (links_of c.join.new.roots.items new) number
          c.args.end.0 c.args.end.1 s.linked c.requires.absent joined);
      counted = AreCounted-with (there_in s) (is_there new) c.args.page s.count (with after) s.counted;
    }
