use Rattle.std.proofs.Common.{subst}
use Rattle.tagmem.specs.Granules.{AreStored}
use Rattle.cap_machine.specs.Helds.{Held, IsKept}
use Rattle.cap_machine.proofs.machine.Machine.kept.Goals as goal

pub returns : goal.returns
returns g c = record {
  kept = subst (λ (held : Held). IsKept held.registers held.codes held.memory) c.self.view_is c.self.invariant;
  stored = subst (λ (held : Held). AreStored held.memory) c.self.view_is (g.met.M.TaggedStore.are_stored c.self.inside.memory);
}
