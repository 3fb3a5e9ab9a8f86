use Rattle.std.proofs.{Common.{[], arith}, lemmas.List.Elements.All-nil}
use Rattle.tagmem.specs.Listed.{IsRising}
use Rattle.tagmem.proofs.ListLaws.{AreStored-contents_of, len-contents_of}
use Rattle.tagmem.proofs.list_store.ListStore.new.Goals as goal

pub invariant_of-result : goal.invariant_of-result
invariant_of-result c =
    let rising : IsRising [] = λ k lt. absurd (omega arith) in
    rw c.new.ensures.items (record {
      rising = rising;
      stored = AreStored-contents_of [] (All-nil _);
      fits = omega (arith, len-contents_of [] rising);
    })
