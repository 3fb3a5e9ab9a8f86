use Rattle.std.proofs.{Common.{◌∙◌, ℕ, List, [], ap, codes, decimal, subst, sym}, lemmas.Bool.{cond-true, not-false}}
use Rattle.cap_objects.specs.Moments.{line_at}
use Rattle.cap_streams.specs.Written.{Writes}
use Rattle.cap_texts.specs.TextLines.{text_line}
use Rattle.cap_run_report.proofs.object_parts.put_freed_line.Goals as goal

pub returns-clause-written : goal.returns-clause-written
returns-clause-written c =
    let a = c.args in
    subst (λ (told : List ℕ). Writes a.at told a.buffer.now c.put_decimal_line.new.buffer c.put_decimal_line.result)
    (ap (λ (line : ℕ). text_line (codes "freed") (decimal line)) c.line.ensures.value
    ∙ sym (cond-true a.object.freed (text_line (codes "freed") (decimal (line_at a.roots a.object.freed_at))) [] (not-false a.object.freed c.if-not-object.false)))
    c.put_decimal_line.ensures.written
