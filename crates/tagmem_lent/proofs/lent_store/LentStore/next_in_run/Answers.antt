use Rattle.std.proofs.Common.{◌<◌, ◌+◌, Some, refl, subst, arith}
use Rattle.tagmem_lent.specs.{Lent.{IsNextIn, run_end}, LentStores.in_use}
use Rattle.tagmem_lent.proofs.Lent.{granule_in, next_in_gap}
use Rattle.tagmem_lent.proofs.lent_store.LentStore.next_in_run.Goals as goal

-- the granule itself was put
pub returns-in-Ok : goal.returns-in-Ok
returns-in-Ok c = record {
  least = (omega arith, (c.in-Ok.field-0, c.in-Ok.ensures.found), λ i from below above. above);
}

-- all of the run are lower
pub returns-then-index-run : goal.returns-then-index-run
returns-then-index-run c = record {
  least = λ i from below. c.in-Err.ensures.absent.lower_before i from (omega (arith, c.if-index-run.true, c.run.ensures.to, below));
}

-- the slot behind the gap has the next
pub returns-else-index-run : goal.returns-else-index-run
returns-else-index-run c = record {
  least =
      let s = c.args.self.now in
      let gap = c.in-Err.ensures.absent in
      let below : c.in-Err.index < run_end s.used c.args.level = grind (arith, gap.in_range.1, c.if-index-run.false, c.run.ensures.to) in
      subst (λ granule. IsNextIn (in_use s) (run_end s.used (c.args.level + 1)) (run_end s.used c.args.level) c.args.granule (Some granule))
      (granule_in s.used s.slots.now s.fits c.in-Err.index _ (omega (arith, below, c.run.ensures.to, c.run.ensures.inside)))
      (next_in_gap s.used s.slots.now s.fits c.args.level _ _ refl refl s.runs c.args.granule c.in-Err.index gap below);
}
