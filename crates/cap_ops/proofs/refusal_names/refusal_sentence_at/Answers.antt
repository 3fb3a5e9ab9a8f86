use Rattle.std.proofs.Common.{[], arith, sym}
use Rattle.std.proofs.lemmas.List.{get_or_past}
use Rattle.cap_ops.specs.Refusals.{refusal_sentences}
use Rattle.cap_ops.proofs.refusal_names.refusal_sentence_at.Goals as goal

pub returns-in-42-to-255-clause-sentence : goal.returns-in-42-to-255-clause-sentence
returns-in-42-to-255-clause-sentence c = sym (get_or_past refusal_sentences c.args.number [] (omega arith))
