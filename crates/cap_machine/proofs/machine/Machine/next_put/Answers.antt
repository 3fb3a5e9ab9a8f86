use Rattle.cap_machine.proofs.GranuleLemmas.{next_in_memory}
use Rattle.cap_machine.proofs.machine.Machine.next_put.Goals as goal

pub returns-clause-in_memory : goal.returns-clause-in_memory
returns-clause-in_memory g c =
    let memory = c.self.inside.memory in
    next_in_memory (g.M.TaggedStore.contents memory) c.args.granule c.next_put.result
    (g.met.M.TaggedStore.are_stored memory) c.next_put.ensures.least
