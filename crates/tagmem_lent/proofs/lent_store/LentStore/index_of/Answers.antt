use Rattle.std.proofs.Common.{◌≡◌, ◌+◌, ◌-◌, ap, ◌∙◌, arith}
use Rattle.tagmem_lent.specs.Lent.{run_end}
use Rattle.tagmem_lent.proofs.{Lent.length-entries_of, Runs.{run_end-past, run_end-zero}}
use Rattle.tagmem_lent.proofs.lent_store.LentStore.index_of.Goals as goal

-- no run of a digit that the number can't have
pub loop-level-init : goal.loop-level-init
loop-level-init c = record {
  levels = c.levels-level.ensures.few;
  none = λ i below same.
      let past = run_end-past c.args.self.now.used c.levels-level.result c.levels-level.ensures.above in
      absurd (omega (arith, past, below));
}

-- behind those runs comes the one that was searched
pub loop-level-preserved : goal.loop-level-preserved
loop-level-preserved c = record {
  levels = omega (arith, c.loop-level.invariant.levels);
  none = λ i below same.
      let gap = c.in_default.ensures.absent in
      let from : run_end c.args.self.now.used (c.loop-level.level - 1 + 1) ≡ run_end c.args.self.now.used c.loop-level.level =
      ap (run_end c.args.self.now.used) (omega (arith, c.loop-level-test.true)) in
      grind (arith, from, same, below, c.loop-level.invariant.none i, gap.lower_before i, gap.higher_after i);
}

-- the run of digit 0 ends last
pub returns : goal.returns
returns c = record {
  found = tt;
  absent = λ none i in_use.
      let s = c.args.self.now in
      let zero : c.loop-level.level ≡ 0 = omega (arith, c.loop-level-test.false) in
      let last : run_end s.used c.loop-level.level ≡ s.used = ap (run_end s.used) zero ∙ run_end-zero s.used in
      c.loop-level.invariant.none i (omega (arith, last, length-entries_of s.used s.slots.now s.fits, in_use));
}
