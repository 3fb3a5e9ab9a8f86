use Rattle.std.proofs.Common.{refl}
use Rattle.tagmem_lent.proofs.{Joining.run_slots_rise, Searching.{IsEntryAt-found, IsGapIn-found}}
use Rattle.tagmem_lent.proofs.lent_store.LentStore.search.Goals as goal

pub last_at_most-requires-clause-rises : goal.last_at_most-requires-clause-rises
last_at_most-requires-clause-rises c =
    let s = c.args.self.now in
    let run = c.run-start in
    run_slots_rise s.used s.slots.now s.fits s.runs c.args.level run.result.0 run.result.1 run.ensures.from run.ensures.to

-- the slot that was found is the granule's
pub returns-then-found-granule-clause-found : goal.returns-then-found-granule-clause-found
returns-then-found-granule-clause-found c =
    let s = c.args.self.now in
    let run = c.run-start in
    IsEntryAt-found s.used s.slots.now s.fits c.args.level run.result.0 run.result.1 run.ensures.from run.ensures.to s.runs c.args.granule
    c.last_at_most.result c.last_at_most.ensures c.if-found-granule.true

-- or it is beside the gap
pub returns-else-found-granule-clause-absent : goal.returns-else-found-granule-clause-absent
returns-else-found-granule-clause-absent c =
    let s = c.args.self.now in
    let run = c.run-start in
    rw (← run.ensures.from, ← run.ensures.to) (IsGapIn-found s.used s.slots.now s.fits c.args.level run.result.0 run.result.1 run.ensures.from
    run.ensures.to s.runs c.args.granule c.last_at_most.result c.last_at_most.ensures _ refl c.if-found-granule.false)
