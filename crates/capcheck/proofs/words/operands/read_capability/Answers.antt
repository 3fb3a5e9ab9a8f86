use Rattle.std.proofs.Common.{Bool, ◌∙◌, ap, sym, subst}
use Rattle.cap_texts.specs.TextLines.{bytes_text}
use Rattle.cap_texts.proofs.MemoryTexts.{bytes_text-number}
use Rattle.capcheck.specs.Operands.{SpellsWord}
use Rattle.capcheck.proofs.OperandLemmas.{no_word}
use Rattle.capcheck.proofs.words.operands.read_capability.Goals as goal

pub returns-in_default-clause-none : goal.returns-in_default-clause-none
returns-in_default-clause-none c =
    no_word c.args.memory c.args.hex.now (λ n fits text. c.in_default.ensures.none n fits (c.as_bytes.ensures.value ∙ text))

pub returns-then-memory-clause-some : goal.returns-then-memory-clause-some
returns-then-memory-clause-some c =
    let n = c.in-Some.word.0 in
    let bytes = c.from_memory.ensures.writes_back ∙ c.to_be_bytes.ensures in
    let text = sym c.as_bytes.ensures.value ∙ c.in-Some.ensures.some ∙ sym (bytes_text-number n) ∙ ap bytes_text (sym bytes) in
    subst (λ (memory : Bool). SpellsWord memory c.args.hex.now c.from_memory.result.0) (sym c.if-memory.true) text
