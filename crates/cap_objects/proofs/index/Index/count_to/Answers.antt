use Rattle.std.proofs.Common.{◌≡◌, ◌<◌, ◌≤◌, ◌-◌, ◌+◌, ◌/◌, ℕ, take, drop, ap, subst, arith}
use Rattle.cap_objects.specs.Blocks.{Each}
use Rattle.cap_objects.specs.declared.entries.Block.{Block}
use Rattle.cap_objects.proofs.BlockLemmas.{high-firsts, low-firsts}
use Rattle.cap_objects.proofs.index.Index.count_to.Goals as goal

pub halves-preserved-then-index-key-2 : goal.halves-preserved-then-index-key-2
halves-preserved-then-index-key-2 c =
    let i = c.halves.invariant in
    let s = c.args.self.now in
    let is = ap (λ (b : Block). b.first) c.index-in-halves.ensures in
    record {
      order = omega (arith, i.order, c.if-low-high.false);
      within = i.within;
      under = low-firsts s.blocks.items s.ordered (c.halves.low + (c.halves.high - c.halves.low) / 2) c.index-in-halves.result.now
          (omega (arith, i.within, i.order, c.if-low-high.false)) c.args.key (omega (arith, c.if-index-key-2.true, is));
      over = i.over;
    }

pub halves-preserved : goal.halves-preserved
halves-preserved c =
    let i = c.halves.invariant in
    let s = c.args.self.now in
    let is = ap (λ (b : Block). b.first) c.index-in-halves.ensures in
    record {
      order = omega (arith, i.order, c.if-low-high.false);
      within = omega (arith, i.within, i.order, c.if-low-high.false);
      under = i.under;
      over = high-firsts s.blocks.items s.ordered (c.halves.low + (c.halves.high - c.halves.low) / 2) c.index-in-halves.result.now
          (omega (arith, i.within, i.order, c.if-low-high.false)) c.args.key (omega (arith, c.if-index-key-2.false, is));
    }

pub returns-then-index-key-clause-low : goal.returns-then-index-key-clause-low
returns-then-index-key-clause-low c =
    let s = c.args.self.now in
    let n = c.len-high.result in
    let is = ap (λ (b : Block). b.first) c.index.ensures in
    let one : n - 1 + 1 ≡ n = omega (arith, c.if-high-gt0.true) in
    subst (λ (m : ℕ). Each (λ b. b.first ≤ c.args.key) (take m s.blocks.items)) one
    (low-firsts s.blocks.items s.ordered (n - 1) c.index.result.now (omega (arith, c.if-high-gt0.true, c.len-high.ensures)) c.args.key
    (omega (arith, c.if-index-key.true, is)))

pub returns-then-low-high-clause-high : goal.returns-then-low-high-clause-high
returns-then-low-high-clause-high c =
    let same : c.halves.high ≡ c.halves.low = omega (arith, c.halves.invariant.order, c.if-low-high.true) in
    subst (λ (m : ℕ). Each (λ b. c.args.key < b.first) (drop m c.args.self.now.blocks.items)) same c.halves.invariant.over
