use Rattle.std.proofs.Common.{◌≡◌, ◌-◌, ◌∙◌, ℕ, Some, None, suc, List, drop, sym, ap, subst, arith}
use Rattle.cap_objects.specs.{declared.entries.{Block.Block, Entry.Entry}, Blocks.{AreSorted, find, find_in}, Indexes.IsLastAtOrBelow}
use Rattle.cap_objects.proofs.BlockLemmas.{block-sorted, last-in, none-in, none-over}
use Rattle.cap_objects.proofs.index.Index.last_to.Goals as goal

pub down-init : goal.down-init
down-init c =
    let s = c.args.self.now in
    let n = c.count_to-count in
    record {
      within = n.ensures.within;
      none = none-over s.blocks.items s.ordered n.result c.args.key n.ensures.high;
    }

pub last_to-requires : goal.last_to-requires
last_to-requires c =
    let s = c.args.self.now in
    let at = c.deref.ensures.value ∙ ap (λ (b : Block). b.entries.items) c.index.ensures in
    subst AreSorted (sym at) (block-sorted s.blocks.items s.ordered (c.down.count - 1) c.index.result.now
    (omega (arith, c.down.invariant.within, c.if-count-eq0.false)))

pub returns-in-Some : goal.returns-in-Some
returns-in-Some c =
    let s = c.args.self.now in
    let at = c.deref.ensures.value ∙ ap (λ (b : Block). b.entries.items) c.index.ensures in
    let one : c.down.count ≡ suc (c.down.count - 1) = omega (arith, c.if-count-eq0.false) in
    last-in s.blocks.items s.ordered (c.down.count - 1) c.index.result.now (omega (arith, c.down.invariant.within, c.if-count-eq0.false))
    c.args.key c.in-Some.entry.0 c.in-Some.entry.1
    (subst (λ (l : List Entry). IsLastAtOrBelow (λ k. find k l) c.args.key (Some c.in-Some.entry)) at c.in-Some.ensures)
    (λ j t below is. c.down.invariant.none j t below (ap (λ (n : ℕ). find_in j (drop n s.blocks.items)) one ∙ is))

pub down-preserved : goal.down-preserved
down-preserved c =
    let s = c.args.self.now in
    let at = c.deref.ensures.value ∙ ap (λ (b : Block). b.entries.items) c.index.ensures in
    let one : c.down.count ≡ suc (c.down.count - 1) = omega (arith, c.if-count-eq0.false) in
    record {
      within = omega (arith, c.down.invariant.within);
      none = none-in s.blocks.items s.ordered (c.down.count - 1) c.index.result.now (omega (arith, c.down.invariant.within, c.if-count-eq0.false))
          c.args.key
          (subst (λ (l : List Entry). IsLastAtOrBelow (λ k. find k l) c.args.key None) at
          (subst (IsLastAtOrBelow (λ k. find k c.deref.result.now) c.args.key) c.in_default.is c.last_to.ensures))
          (λ j t below is. c.down.invariant.none j t below (ap (λ (n : ℕ). find_in j (drop n s.blocks.items)) one ∙ is));
    }
