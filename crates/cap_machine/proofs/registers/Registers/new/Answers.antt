use Rattle.std.proofs.Common.{ℕ, false, refl, ap}
use Rattle.cap_word.specs.declared.word.Cap.{Cap}
use Rattle.cap_machine.specs.{States.untagged_null}
use Rattle.cap_machine.proofs.{LabelLemmas.{coded_null, sound_null}, StateLemmas.copies}
use Rattle.cap_machine.proofs.registers.Registers.new.Goals as goal

pub invariant_of-result : goal.invariant_of-result
invariant_of-result c =
    let null = ap (λ (n : ℕ). let cap : Cap = record { tag = false; word = record { 0 = n } } in cap) c.null.ensures.value in
    record {
      sized = (refl, refl);
      sound = λ number. sound_null _ (copies 32 number _ untagged_null null);
      coded = λ number low. coded_null _ _ (copies 32 number _ untagged_null null) (copies 32 number 0 0 refl);
    }

pub returns-clause-caps : goal.returns-clause-caps
returns-clause-caps c number =
    copies 32 number _ untagged_null (ap (λ (n : ℕ). let cap : Cap = record { tag = false; word = record { 0 = n } } in cap) c.null.ensures.value)

pub returns-clause-labels : goal.returns-clause-labels
returns-clause-labels c number = copies 32 number 0 0 refl
