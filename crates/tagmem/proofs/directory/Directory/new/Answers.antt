use Rattle.std.proofs.Common.{[], refl, arith}
use Rattle.std.proofs.lemmas.Bool.{false≢true}
use Rattle.tagmem.proofs.directory.Directory.new.Goals as goal

pub invariant_of-result : goal.invariant_of-result
invariant_of-result c = rw (c.new.ensures.items, c.new-2.ensures.items) (record {
  distinct = λ i j d lt in_range. absurd (omega arith);
  linked = record {
    within = λ link digit. grind arith;
    past = λ link digit lt. grind arith;
    led = λ at lt. absurd (omega arith);
    levelled = λ no. no (λ _. 0) (λ link digit at is. grind arith);
  };
  counted = λ no. no [] refl (λ page there. absurd (false≢true there));
})
