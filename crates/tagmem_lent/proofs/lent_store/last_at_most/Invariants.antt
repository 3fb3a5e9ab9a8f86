use Rattle.std.proofs.Common.{◌<◌}
use Rattle.tagmem_lent.proofs.Searching.{IsWindow}
use Rattle.tagmem_lent.proofs.lent_store.last_at_most.Given as goal

abbrev pub invariant-loop-turns : goal.invariant-loop-turns
invariant-loop-turns l = record { few : l.turns < 32; window : IsWindow l.run l.granule l.start l.turns }

abbrev pub decreases-loop-turns : goal.decreases-loop-turns
decreases-loop-turns l = l.turns
