use Rattle.std.proofs.Common.{◌≡◌, ◌-◌, ◌<◌, ◌≤◌, ◌∙◌, ◌==◌, ℕ, None, suc, List, length, take, drop, get_or, set, if◌then◌else◌, inl, inr, refl, sym, ap, subst, arith}
use Rattle.std.proofs.lemmas.Bool.{cond-false, cond-true, Decides.eqb_tells}
use Rattle.cap_objects.specs.{declared.entries.{Block.Block}, Blocks.{AreSorted, AreBlocks, Each, Takes, find_in}}
use Rattle.cap_objects.proofs.BlockLemmas.{block-sorted, last-first, none-found, none-over}
use Rattle.cap_objects.proofs.EditLemmas.{take-blocks, take-found}
use Rattle.cap_objects.proofs.index.Index.remove.Goals as goal

module _ (bs : List Block) (known : AreBlocks bs) (count key : ℕ) (some : 0 < count) (within : count ≤ length bs)
    (low : Each (λ b. b.first ≤ key) (take count bs)) (high : Each (λ b. key < b.first) (drop count bs)) (d : Block)
    (at : d ≡ get_or bs (count - 1) d) (b : Block) (first : b.first ≡ d.first) (takes : Takes d.entries.items key b.entries.items) where
  one : count ≡ suc (count - 1)
  one = omega (arith, some)

  place : count - 1 < length bs
  place = omega (arith, some, within)

  begins : (get_or bs (count - 1) d).first ≤ key
  begins = last-first bs known count key d some within low

  ends : Each (λ b. key < b.first) (drop (suc (count - 1)) bs)
  ends = subst (λ (n : ℕ). Each (λ b. key < b.first) (drop n bs)) one high

  first_is : b.first ≡ (get_or bs (count - 1) d).first
  first_is = first ∙ ap (λ (x : Block). x.first) at

  takes_it : Takes (get_or bs (count - 1) d).entries.items key b.entries.items
  takes_it = subst (λ (x : Block). Takes x.entries.items key b.entries.items) at takes

  kept : AreBlocks (set bs (count - 1) b)
  kept = take-blocks bs known (count - 1) d place b first_is key begins ends takes_it

  taken : (k : ℕ) → find_in k (set bs (count - 1) b) ≡ (if k == key then None else find_in k bs)
  taken = take-found bs known (count - 1) d place b first_is key begins ends takes_it

pub returns-then-count-eq0 : goal.returns-then-count-eq0
returns-then-count-eq0 c k =
    let s = c.args.self.now in
    let n = c.count_to-count in
    let none : n.result ≡ 0 = omega (arith, c.if-count-eq0.true) in
    let key = c.args.key in
    elim (eqb_tells k key) [
      | inl same ↦
          none-found (find_in k s.blocks.items) (λ t is. none-over s.blocks.items s.ordered n.result key n.ensures.high k t (omega (arith, same.1))
          (ap (λ (m : ℕ). find_in k (drop m s.blocks.items)) none ∙ is))
          ∙ sym (cond-true (k == key) None (find_in k s.blocks.items) same.0)
      | inr unlike ↦ sym (cond-false (k == key) None (find_in k s.blocks.items) unlike.0)
    ]

pub take_out-requires : goal.take_out-requires
take_out-requires c =
    let s = c.args.self.now in
    let n = c.count_to-count in
    subst AreSorted (sym (ap (λ (b : Block). b.entries.items) c.index_mut.ensures.value))
    (block-sorted s.blocks.items s.ordered (n.result - 1) c.index_mut.result.now (omega (arith, n.ensures.within, c.if-count-eq0.false)))

pub invariant_of-self : goal.invariant_of-self
invariant_of-self c =
    let s = c.args.self.now in
    let d = c.index_mut.result.now in
    let n = c.count_to-count in
    let b : Block = record { first = d.first; entries = c.take_out.new.entries } in
    let some : 0 < n.result = omega (arith, c.if-count-eq0.false) in
    record {
      ordered = kept s.blocks.items s.ordered n.result c.args.key some n.ensures.within n.ensures.low n.ensures.high d c.index_mut.ensures.value b refl
          c.take_out.ensures;
    }

pub returns-else-len-eq0 : goal.returns-else-len-eq0
returns-else-len-eq0 c =
    let s = c.args.self.now in
    let d = c.index_mut.result.now in
    let n = c.count_to-count in
    let b : Block = record { first = d.first; entries = c.take_out.new.entries } in
    let some : 0 < n.result = omega (arith, c.if-count-eq0.false) in
    taken s.blocks.items s.ordered n.result c.args.key some n.ensures.within n.ensures.low n.ensures.high d c.index_mut.ensures.value b refl
    c.take_out.ensures

pub returns-then-len-eq0 : goal.returns-then-len-eq0
returns-then-len-eq0 c k =
    let s = c.args.self.now in
    let d = c.index_mut.result.now in
    let n = c.count_to-count in
    let b : Block = record { first = d.first; entries = c.take_out.new.entries } in
    let some : 0 < n.result = omega (arith, c.if-count-eq0.false) in
    c.join_around.ensures k
    ∙ taken s.blocks.items s.ordered n.result c.args.key some n.ensures.within n.ensures.low n.ensures.high d c.index_mut.ensures.value b refl
    c.take_out.ensures k
