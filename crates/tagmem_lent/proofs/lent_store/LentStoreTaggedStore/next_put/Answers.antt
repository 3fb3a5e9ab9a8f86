use Rattle.std.proofs.Common.{◌≡◌, ◌+◌, ◌-◌, length, ap, subst, sym, ◌∙◌, arith}
use Rattle.tagmem_lent.specs.{Lent.{IsNextIn, run_end}, LentStores.in_use}
use Rattle.tagmem_lent.proofs.Lent.{IsNextIn-joined, IsNextPut-whole, length-entries_of}
use Rattle.tagmem_lent.proofs.Runs.{run_end-past, run_end-zero}
use Rattle.tagmem_lent.proofs.lent_store.LentStoreTaggedStore.next_put.Goals as goal

-- no run of a digit that the number can't have
pub loop-level-init : goal.loop-level-init
loop-level-init c = record {
  levels = c.levels-level.ensures.few;
  least = λ i from below.
      let past = run_end-past c.args.self.now.used c.levels-level.result c.levels-level.ensures.above in
      absurd (omega (arith, past, below));
}

-- behind those runs comes the next one
pub loop-level-preserved : goal.loop-level-preserved
loop-level-preserved c = record {
  levels = omega (arith, c.loop-level.invariant.levels);
  least =
      let s = c.args.self.now in
      let from : run_end s.used (c.loop-level.level - 1 + 1) ≡ run_end s.used c.loop-level.level = ap (run_end s.used) (omega (arith, c.loop-level-test.true)) in
      IsNextIn-joined (in_use s) (run_end s.used c.loop-level.level) (run_end s.used (c.loop-level.level - 1)) c.args.granule _ _ _
      c.lesser-least.ensures c.loop-level.invariant.least
      (subst (λ (middle : _). IsNextIn (in_use s) middle (run_end s.used (c.loop-level.level - 1)) c.args.granule c.next_in_run.result) from c.next_in_run.ensures.least);
}

-- the run of digit 0 ends last
pub returns : goal.returns
returns c = record {
  least =
      let s = c.args.self.now in
      let zero : c.loop-level.level ≡ 0 = omega (arith, c.loop-level-test.false) in
      let last : run_end s.used c.loop-level.level ≡ length (in_use s) =
      ap (run_end s.used) zero ∙ run_end-zero s.used ∙ sym (length-entries_of s.used s.slots.now s.fits) in
      IsNextPut-whole (in_use s) s.runs.apart c.args.granule c.loop-level.least
      (subst (λ (to : _). IsNextIn (in_use s) 0 to c.args.granule c.loop-level.least) last c.loop-level.invariant.least);
}
