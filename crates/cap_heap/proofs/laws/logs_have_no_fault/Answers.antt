use Rattle.cap_heap.proofs.OneReading.{not_both}
use Rattle.cap_heap.proofs.laws.logs_have_no_fault.Goals as goal

pub returns : goal.returns
returns c = record { law = λ lines root events log number refusal fault. not_both lines root events log number refusal fault }
