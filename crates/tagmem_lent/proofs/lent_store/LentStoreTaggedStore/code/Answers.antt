use Rattle.std.proofs.Common.{unwrap_or, refl, sym, ap}
use Rattle.tagmem.specs.Granules.{blank}
use Rattle.tagmem_lent.specs.LentStores.{in_use}
use Rattle.tagmem_lent.proofs.Lent.{get_slot, get_unused}
use Rattle.tagmem_lent.proofs.lent_store.LentStoreTaggedStore.code.Goals as goal

pub returns-in-Some : goal.returns-in-Some
returns-in-Some c = record {
  value =
      let s = c.args.self.now in
      sym (ap (λ o. (unwrap_or o blank).2) (get_slot s.used s.slots.now s.fits s.runs.apart c.args.granule c.in-Some.index _ c.in-Some.ensures.found));
}

pub returns-in-None : goal.returns-in-None
returns-in-None c = record {
  value = sym (ap (λ o. (unwrap_or o blank).2) (get_unused (in_use c.args.self.now) c.args.granule (c.in-None.ensures.absent refl)));
}
