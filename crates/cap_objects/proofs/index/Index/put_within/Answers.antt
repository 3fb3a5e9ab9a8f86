use Rattle.std.proofs.Common.{◌≡◌, ◌-◌, ◌<◌, ◌≤◌, ◌∙◌, ℕ, Some, None, suc, List, length, take, drop, get_or, Result, Ok, Err, OnOk, OnErr, set, refl, sym, ap, subst, arith}
use Rattle.cap_objects.specs.{declared.{entries.{Block.Block}}, Blocks.{AreSorted, AreBlocks, Each, Puts, find_in}, Indexes.Rekeys}
use Rattle.cap_objects.proofs.BlockLemmas.{block-sorted, last-first}
use Rattle.cap_objects.proofs.EditLemmas.{put-blocks, put-found, same-blocks, same-found}
use Rattle.cap_objects.proofs.index.Index.put_within.Goals as goal

-- the entries of the last of so many blocks were put, or stayed
module _ (bs : List Block) (known : AreBlocks bs) (count key slot : ℕ) (some : 0 < count) (within : count ≤ length bs)
    (low : Each (λ b. b.first ≤ key) (take count bs)) (high : Each (λ b. key < b.first) (drop count bs)) (d : Block)
    (at : d ≡ get_or bs (count - 1) d) (b : Block) (first : b.first ≡ d.first) where
  one : count ≡ suc (count - 1)
  one = omega (arith, some)

  place : count - 1 < length bs
  place = omega (arith, some, within)

  begins : (get_or bs (count - 1) d).first ≤ key
  begins = last-first bs known count key d some within low

  ends : Each (λ b. key < b.first) (drop (suc (count - 1)) bs)
  ends = subst (λ (n : ℕ). Each (λ b. key < b.first) (drop n bs)) one high

  first_is : b.first ≡ (get_or bs (count - 1) d).first
  first_is = first ∙ ap (λ (x : Block). x.first) at

  module _ {A E : Type 0} where
    kept : (r : Result A E) → OnOk r (Puts d.entries.items key slot b.entries.items) → OnErr r (b.entries.items ≡ d.entries.items)
        → AreBlocks (set bs (count - 1) b)
    kept (Ok x) ok err = put-blocks bs known (count - 1) d place b first_is key begins ends slot
        (subst (λ (x : Block). Puts x.entries.items key slot b.entries.items) at ok)
    kept (Err e) ok err = same-blocks bs known (count - 1) d place b first_is (err ∙ ap (λ (x : Block). x.entries.items) at)

    put-in : (r : Result A E) → OnOk r (Puts d.entries.items key slot b.entries.items)
        → OnOk r (Rekeys (λ k. find_in k bs) slot None (Some key) (λ k. find_in k (set bs (count - 1) b)))
    put-in (Ok x) ok = put-found bs known (count - 1) d place b first_is key begins ends slot
        (subst (λ (x : Block). Puts x.entries.items key slot b.entries.items) at ok)
    put-in (Err e) ok = tt

    not-put : (r : Result A E) → OnErr r (b.entries.items ≡ d.entries.items) → OnErr r ((k : ℕ) → find_in k (set bs (count - 1) b) ≡ find_in k bs)
    not-put (Ok x) err = tt
    not-put (Err e) err = same-found bs known (count - 1) d place b first_is (err ∙ ap (λ (x : Block). x.entries.items) at)

pub put-requires : goal.put-requires
put-requires c =
    let s = c.args.self.now in
    subst AreSorted (sym (ap (λ (b : Block). b.entries.items) c.index_mut.ensures.value))
    (block-sorted s.blocks.items s.ordered (c.args.count - 1) c.index_mut.result.now (omega (arith, c.requires.some, c.requires.within)))

pub invariant_of-self : goal.invariant_of-self
invariant_of-self c =
    let s = c.args.self.now in
    let d = c.index_mut.result.now in
    let q = c.requires in
    let b : Block = record { first = d.first; entries = c.put.new.entries } in
    record {
      ordered = kept s.blocks.items s.ordered c.args.count c.args.key c.args.slot q.some q.within q.low q.high d c.index_mut.ensures.value b refl
          c.put.result c.put.ensures.ok c.put.ensures.err;
    }

pub returns-clause-ok : goal.returns-clause-ok
returns-clause-ok c =
    let s = c.args.self.now in
    let d = c.index_mut.result.now in
    let q = c.requires in
    let b : Block = record { first = d.first; entries = c.put.new.entries } in
    put-in s.blocks.items s.ordered c.args.count c.args.key c.args.slot q.some q.within q.low q.high d c.index_mut.ensures.value b refl
    c.put.result c.put.ensures.ok

pub returns-clause-err : goal.returns-clause-err
returns-clause-err c =
    let s = c.args.self.now in
    let d = c.index_mut.result.now in
    let q = c.requires in
    let b : Block = record { first = d.first; entries = c.put.new.entries } in
    not-put s.blocks.items s.ordered c.args.count c.args.key c.args.slot q.some q.within q.low q.high d c.index_mut.ensures.value b refl
    c.put.result c.put.ensures.err
