use Rattle.std.proofs.Common.{◌∙◌, refl}
use Rattle.tagmem_lent.proofs.Lent.{length-entries_of}
use Rattle.tagmem_lent.proofs.lent_store.LentStore.add.Goals as goal

pub returns-then-self-clause-full : goal.returns-then-self-clause-full
returns-then-self-clause-full c =
    let s = c.args.self.now in
    (λ _. length-entries_of s.used s.slots.now s.fits ∙ c.if-self.true, λ _. refl)
