use Rattle.std.proofs.Common.{◌≡◌, ◌<◌, ◌≤◌, ◌+◌, ◌++◌, ◌∷◌, suc, ◌∙◌, ℕ, List, length, take, drop, get_or, set, refl, sym, ap, subst, arith, rules}
use Rattle.std.specs.Prelude.{vec_len}
use Rattle.std.proofs.lemmas.List.{get_or_default, Edits.get_or-insert_below}
use Rattle.cap_objects.specs.{declared.entries.{Block.Block, Entry.Entry}, Blocks.{AreBlocks, Each, find_in}}
use Rattle.cap_objects.proofs.CountLemmas.{blank}
use Rattle.cap_objects.proofs.EditLemmas.{split-begins, split-blocks, split-found, split-list}
use Rattle.cap_objects.proofs.index.Index.split.Goals.{then-place-len, else-place-len}
use Rattle.cap_objects.proofs.index.Index.split.Goals as goal

-- a block's upper entries were put into one after it, and then cut off
module _ (bs : List Block) (known : AreBlocks bs) (m : ℕ) (low : m < length bs) (d : Block) (at : d ≡ get_or bs m d) (n : ℕ)
    (within : n < length d.entries.items) (upper : Block) (begins : (e : Entry) → upper.first ≡ (get_or d.entries.items n e).key)
    (rest : upper.entries.items ≡ drop n d.entries.items) (ys : List Block) (inserted : ys ≡ take (m + 1) bs ++ (upper ∷ drop (m + 1) bs))
    (d2 : Block) (at2 : d2 ≡ get_or ys m d2) (lower : Block) (first : lower.first ≡ d2.first) (cut : lower.entries.items ≡ take n d2.entries.items) where
  more : m + 1 ≡ suc m
  more = omega arith

  same : d2 ≡ get_or bs m d
  same = at2 ∙ ap (λ (l : List Block). get_or l m d2) inserted
      ∙ get_or-insert_below bs (m + 1) upper d2 m (omega arith) (omega (arith, low)) ∙ get_or_default bs m d2 d low

  list_is : set ys m lower ≡ take m bs ++ (lower ∷ upper ∷ drop (suc m) bs)
  list_is = ap (λ (l : List Block). set l m lower) (inserted ∙ ap (λ (j : ℕ). take j bs ++ (upper ∷ drop j bs)) more) ∙ split-list bs m lower upper low

  module _ where
    within_it : n < length (get_or bs m d).entries.items
    within_it = subst (λ (b : Block). n < length b.entries.items) at within

    first_is : lower.first ≡ (get_or bs m d).first
    first_is = first ∙ ap (λ (b : Block). b.first) same

    begins_is : upper.first ≡ (get_or (get_or bs m d).entries.items n blank).key
    begins_is = begins blank ∙ ap (λ (b : Block). (get_or b.entries.items n blank).key) at

    items_is : lower.entries.items ≡ take n (get_or bs m d).entries.items
    items_is = cut ∙ ap (λ (b : Block). take n b.entries.items) same

    rest_is : upper.entries.items ≡ drop n (get_or bs m d).entries.items
    rest_is = rest ∙ ap (λ (b : Block). drop n b.entries.items) at

    kept : AreBlocks (set ys m lower)
    kept = subst AreBlocks (sym list_is) (split-blocks bs known m d low lower upper n blank within_it first_is begins_is items_is rest_is)

    found : (k : ℕ) → find_in k (set ys m lower) ≡ find_in k bs
    found k = ap (find_in k) list_is ∙ split-found bs known m d low lower upper n blank within_it first_is begins_is items_is rest_is k

    starts : (key : ℕ) → Each (λ b. b.first ≤ key) (take (m + 1) bs) → Each (λ b. key < b.first) (set ys m lower) → ⊥
    starts key under over = split-begins bs known m d low lower upper n blank within_it first_is begins_is items_is rest_is key under
        (subst (Each (λ b. key < b.first)) list_is over)

pub invariant_of-self-2 : goal.invariant_of-self-2
invariant_of-self-2 c =
    let s = c.args.self.now in
    let d = c.index-2.result.now in
    let low = c.requires.within in
    let lower : Block = record { first = c.index_mut.result.now.first; entries = c.truncate.new.self } in
    let same_block : c.index.result.now ≡ d = c.index.ensures
    ∙ get_or_default s.blocks.items c.args.place c.index.result.now d low ∙ sym c.index-2.ensures in
    let length_is : c.len-count.result ≡ length d.entries.items = c.len-count.ensures ∙ ap (λ (b : Block). vec_len b.entries) same_block ∙ d.entries.ok.0 in
    let within : c.if-place-len.half < length d.entries.items = elim c.if-place-len.branch [
      | then-place-len w ↦ omega (arith, w.half-is, c.if-count-eq0.false, length_is)
      | else-place-len w ↦ omega (arith, w.half-is, c.if-count-eq0.false, length_is)
    ] in
    let inserted : c.insert.new.self.items ≡ take (c.args.place + 1) s.blocks.items ++ (c.in-Ok.upper ∷ drop (c.args.place + 1) s.blocks.items) =
    c.insert.ensures.items ∙ search rules in
    record {
      ordered = kept s.blocks.items s.ordered c.args.place low d c.index-2.ensures c.if-place-len.half within c.in-Ok.upper c.in-Ok.ensures.first
          c.in-Ok.ensures.rest c.insert.new.self.items inserted c.index_mut.result.now c.index_mut.ensures.value lower refl c.truncate.ensures.items;
    }

pub returns-clause-same : goal.returns-clause-same
returns-clause-same c =
    let s = c.args.self.now in
    let d = c.index-2.result.now in
    let low = c.requires.within in
    let lower : Block = record { first = c.index_mut.result.now.first; entries = c.truncate.new.self } in
    let same_block : c.index.result.now ≡ d = c.index.ensures
    ∙ get_or_default s.blocks.items c.args.place c.index.result.now d low ∙ sym c.index-2.ensures in
    let length_is : c.len-count.result ≡ length d.entries.items = c.len-count.ensures ∙ ap (λ (b : Block). vec_len b.entries) same_block ∙ d.entries.ok.0 in
    let within : c.if-place-len.half < length d.entries.items = elim c.if-place-len.branch [
      | then-place-len w ↦ omega (arith, w.half-is, c.if-count-eq0.false, length_is)
      | else-place-len w ↦ omega (arith, w.half-is, c.if-count-eq0.false, length_is)
    ] in
    let inserted : c.insert.new.self.items ≡ take (c.args.place + 1) s.blocks.items ++ (c.in-Ok.upper ∷ drop (c.args.place + 1) s.blocks.items) =
    c.insert.ensures.items ∙ search rules in
    found s.blocks.items s.ordered c.args.place low d c.index-2.ensures c.if-place-len.half within c.in-Ok.upper c.in-Ok.ensures.first
    c.in-Ok.ensures.rest c.insert.new.self.items inserted c.index_mut.result.now c.index_mut.ensures.value lower refl c.truncate.ensures.items
