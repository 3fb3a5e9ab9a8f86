use Rattle.std.proofs.Common.{◌≡◌, ◌<◌, ◌≤◌, ◌-◌, ◌+◌, ◌/◌, ℕ, length, take, drop, subst, arith}
use Rattle.cap_objects.specs.Blocks.{Each}
use Rattle.cap_objects.proofs.CountLemmas.{blank, high-more, low-more}
use Rattle.cap_objects.proofs.entries.count_to.Goals as goal

pub halves-preserved-then-entries-middle : goal.halves-preserved-then-entries-middle
halves-preserved-then-entries-middle c =
    let i = c.halves.invariant in
    record {
      order = omega (arith, i.order, c.if-low-high.false);
      within = i.within;
      under = low-more c.args.entries.now c.requires (c.halves.low + (c.halves.high - c.halves.low) / 2) blank
          (omega (arith, i.within, i.order, c.if-low-high.false)) c.args.key (omega (arith, c.if-entries-middle.true));
      over = i.over;
    }

pub halves-preserved : goal.halves-preserved
halves-preserved c =
    let i = c.halves.invariant in
    record {
      order = omega (arith, i.order, c.if-low-high.false);
      within = omega (arith, i.within, i.order, c.if-low-high.false);
      under = i.under;
      over = high-more c.args.entries.now c.requires (c.halves.low + (c.halves.high - c.halves.low) / 2) blank
          (omega (arith, i.within, i.order, c.if-low-high.false)) c.args.key (omega (arith, c.if-entries-middle.false));
    }

pub returns-then-entries-high-clause-low : goal.returns-then-entries-high-clause-low
returns-then-entries-high-clause-low c =
    let xs = c.args.entries.now in
    let n = length xs in
    let one : n - 1 + 1 ≡ n = omega (arith, c.if-high-gt0.true) in
    subst (λ (m : ℕ). Each (λ e. e.key ≤ c.args.key) (take m xs)) one
    (low-more xs c.requires (n - 1) blank (omega (arith, c.if-high-gt0.true)) c.args.key (omega (arith, c.if-entries-high.true)))

pub returns-then-low-high-clause-high : goal.returns-then-low-high-clause-high
returns-then-low-high-clause-high c =
    let same : c.halves.high ≡ c.halves.low = omega (arith, c.halves.invariant.order, c.if-low-high.true) in
    subst (λ (m : ℕ). Each (λ e. c.args.key < e.key) (drop m c.args.entries.now)) same c.halves.invariant.over
