use Rattle.std.proofs.Common.{◌≡◌, ◌<◌, ◌+◌, ◌++◌, ◌∷◌, suc, ◌∙◌, ℕ, List, length, take, drop, get_or, set, refl, sym, ap, subst, arith}
use Rattle.std.proofs.lemmas.List.{get_or_default}
use Rattle.cap_objects.specs.{declared.entries.{Block.Block}, Blocks.{AreBlocks, find_in}}
use Rattle.cap_objects.proofs.EditLemmas.{join-blocks, join-found, join-list}
use Rattle.cap_objects.proofs.index.Index.join.Goals as goal

-- two blocks' entries came to be the first one's, and the second one was removed
module _ (bs : List Block) (known : AreBlocks bs) (m : ℕ) (more : m + 1 < length bs) (d f : Block) (at : d ≡ get_or bs m d)
    (at2 : f ≡ get_or bs (m + 1) f) (d2 : Block) (at3 : d2 ≡ get_or bs m d2) (both : Block) (first : both.first ≡ d2.first)
    (items : both.entries.items ≡ d.entries.items ++ f.entries.items) (ys : List Block)
    (removed : ys ≡ take (m + 1) (set bs m both) ++ drop (suc (m + 1)) (set bs m both)) where
  one : m + 1 ≡ suc m
  one = omega arith

  low : m < length bs
  low = omega (arith, more)

  list_is : ys ≡ take m bs ++ (both ∷ drop (suc (suc m)) bs)
  list_is = removed ∙ ap (λ (j : ℕ). take j (set bs m both) ++ drop (suc j) (set bs m both)) one ∙ join-list bs m both (omega (arith, more))

  first_is : both.first ≡ (get_or bs m d).first
  first_is = first ∙ ap (λ (b : Block). b.first) (at3 ∙ get_or_default bs m d2 d low)

  items_is : both.entries.items ≡ (get_or bs m d).entries.items ++ (get_or bs (suc m) f).entries.items
  items_is = items ∙ ap (λ (b : Block). b.entries.items ++ f.entries.items) at
      ∙ ap (λ (b : Block). (get_or bs m d).entries.items ++ b.entries.items) (at2 ∙ ap (λ (j : ℕ). get_or bs j f) one)

  kept : AreBlocks ys
  kept = subst AreBlocks (sym list_is) (join-blocks bs known m d low (omega (arith, more)) f both first_is items_is)

  found : (k : ℕ) → find_in k ys ≡ find_in k bs
  found k = ap (find_in k) list_is ∙ join-found bs known m d low (omega (arith, more)) f both first_is items_is k

pub invariant_of-self : goal.invariant_of-self
invariant_of-self c =
    let s = c.args.self.now in
    let length_is = s.blocks.ok.0 in
    let more : c.args.place + 1 < length s.blocks.items = omega (arith, c.if-place-len-2.false, c.len-else-place-len.ensures, length_is) in
    let both : Block = record { first = c.index_mut.result.now.first; entries = c.in-Ok.entries } in
    record {
      ordered = kept s.blocks.items s.ordered c.args.place more c.index-3.result.now c.index-4.result.now c.index-3.ensures c.index-4.ensures
          c.index_mut.result.now c.index_mut.ensures.value both refl c.in-Ok.ensures c.remove.new.self.items c.remove.ensures.items;
    }

pub returns : goal.returns
returns c =
    let s = c.args.self.now in
    let length_is = s.blocks.ok.0 in
    let more : c.args.place + 1 < length s.blocks.items = omega (arith, c.if-place-len-2.false, c.len-else-place-len.ensures, length_is) in
    let both : Block = record { first = c.index_mut.result.now.first; entries = c.in-Ok.entries } in
    found s.blocks.items s.ordered c.args.place more c.index-3.result.now c.index-4.result.now c.index-3.ensures c.index-4.ensures
    c.index_mut.result.now c.index_mut.ensures.value both refl c.in-Ok.ensures c.remove.new.self.items c.remove.ensures.items
