use Rattle.std.proofs.Common.{◌∙◌, ap, sym}
use Rattle.capcheck_judge.specs.{HeapAnswers.heap_numbers_of, declared.heaps.HeapAnswer.HeapAnswer}
use Rattle.capcheck_judge.proofs.heaps.heap_numbers_of.Goals as goal

pub returns-in-Yes : goal.returns-in-Yes
returns-in-Yes c = record {
  value = ap (λ (a : HeapAnswer). record { line = a.line; live = c.in-Yes.live; events = c.in-Yes.events; state = a.state; refusal = a.refusal })
      c.heap_without_verdict.ensures.value ∙ ap heap_numbers_of (sym c.in-Yes.is);
}
