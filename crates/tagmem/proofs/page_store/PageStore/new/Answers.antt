use Rattle.std.specs.FinMap as map
use Rattle.std.proofs.{Common.{refl, sym, ◌∙◌, arith, nat_cmp}, lemmas.{Bool.false≢true, Option.none-some}}
use Rattle.tagmem.specs.Granules.{Entry}
use Rattle.tagmem.proofs.page_store.PageStore.new.Goals as goal

pub invariant_of-result : goal.invariant_of-result
invariant_of-result c =
    let empty = map.len-empty nat_cmp Entry in
    let none = c.new.ensures.items in
    let roots = c.new-2.ensures.roots in
    let links = c.new-2.ensures.links in
    record {
      as_many = rw (none, links) refl;
      found = rw (none, roots, links) (record {
        forward = record { after = λ place some. absurd (some refl); within = λ place. omega arith };
        rooted = λ place. omega arith;
        leads = λ index lt. absurd (omega arith);
      });
      distinct = rw none (λ i j d lt in_range. absurd (omega arith));
      paged = rw none (record {
        has = λ i d lt. absurd (omega arith);
        used = λ page there. absurd (false≢true (sym (c.new-3.ensures.there page) ∙ there));
      });
      stored = rw none (λ g entry is. absurd (none-some entry (sym (map.get-empty nat_cmp g) ∙ is)));
      counted = rw none (omega (arith, empty));
      roomy = omega (arith, c.new-3.ensures.blocks);
      linkable = rw c.new.ensures.capacity (record { links = omega arith; roots = λ some. absurd (omega arith) });
      few = rw none (omega arith);
      fits = rw none (omega (arith, empty));
    }
