use Rattle.std.proofs.Common.{◌∙◌, ap, sym, ℕ, List, bytes_eq, codes}
use Rattle.cap_context.proofs.WriterLemmas.{noted}
use Rattle.cap_context.proofs.writers.note.Goals as goal

pub returns-in_ok-set_register-2 : goal.returns-in_ok-set_register-2
returns-in_ok-set_register-2 c =
    let kind = c.word_at-kind.ensures.value in
    let invoke = ap (λ (w : List ℕ). bytes_eq w (codes "invoke")) (sym kind) ∙ sym c.is_word.ensures.value ∙ c.if-is_word.false in
    let exchange = ap (λ (w : List ℕ). bytes_eq w (codes "exchange")) (sym kind) ∙ sym c.is_word-2.ensures.value ∙ c.if-is_word-2.true in
    let first = sym c.writes_first.ensures.value ∙ c.if-not-writes_first.false in
    record {
      ok = λ other is.
          noted other c.args.hart.now c.args.text.now c.word_at.result.now c.word_at-then-is_word-2.result.now (c.args.number, c.args.text.now) _ _ _
          c.word_at.ensures.value c.word_at-then-is_word-2.ensures.value invoke first exchange (c.in_ok-set_register.ensures.ok other is)
          (c.in_ok-set_register-2.ensures.ok other is);
    }
