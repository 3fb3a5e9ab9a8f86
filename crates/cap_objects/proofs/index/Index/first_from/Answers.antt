use Rattle.std.proofs.Common.{◌∙◌, ℕ, Some, None, List, take, sym, ap, subst, arith}
use Rattle.cap_objects.specs.{declared.entries.{Block.Block, Entry.Entry}, Blocks.{AreSorted, find, find_in}, Indexes.IsFirstFrom}
use Rattle.cap_objects.proofs.BlockLemmas.{block-sorted, first-in, none-before, none-to}
use Rattle.cap_objects.proofs.index.Index.first_from.Goals as goal

pub up-init : goal.up-init
up-init c =
    let s = c.args.self.now in
    let n = c.count_to in
    record {
      none = λ j t from is. none-before s.blocks.items s.ordered n.result c.args.key n.ensures.within n.ensures.low j t from
          (ap (λ (m : ℕ). find_in j (take m s.blocks.items)) (sym c.saturating_sub-place.ensures) ∙ is);
    }

pub first_from-requires : goal.first_from-requires
first_from-requires c =
    let s = c.args.self.now in
    let at = c.deref.ensures.value ∙ ap (λ (b : Block). b.entries.items) c.index.ensures in
    subst AreSorted (sym at) (block-sorted s.blocks.items s.ordered c.up.place c.index.result.now (omega (arith, c.len.ensures, c.if-place-len.false)))

pub returns-in-Some : goal.returns-in-Some
returns-in-Some c =
    let s = c.args.self.now in
    let at = c.deref.ensures.value ∙ ap (λ (b : Block). b.entries.items) c.index.ensures in
    first-in s.blocks.items s.ordered c.up.place c.index.result.now (omega (arith, c.len.ensures, c.if-place-len.false))
    c.args.key c.in-Some.entry.0 c.in-Some.entry.1
    (subst (λ (l : List Entry). IsFirstFrom (λ k. find k l) c.args.key (Some c.in-Some.entry)) at c.in-Some.ensures)
    c.up.invariant.none

pub up-preserved : goal.up-preserved
up-preserved c =
    let s = c.args.self.now in
    let at = c.deref.ensures.value ∙ ap (λ (b : Block). b.entries.items) c.index.ensures in
    record {
      none = none-to s.blocks.items s.ordered c.up.place c.index.result.now (omega (arith, c.len.ensures, c.if-place-len.false))
          c.args.key
          (subst (λ (l : List Entry). IsFirstFrom (λ k. find k l) c.args.key None) at
          (subst (IsFirstFrom (λ k. find k c.deref.result.now) c.args.key) c.in_default.is c.first_from.ensures))
          c.up.invariant.none;
    }
