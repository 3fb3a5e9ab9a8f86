use Rattle.std.proofs.Common.{◌∙◌, ℕ, ap, sym}
use Rattle.cap_report.specs.{Answers.{numbers_of, without_verdict}, declared.answers.Answer.Answer}
use Rattle.cap_report.proofs.answers.numbers_of.Goals as goal

pub returns-in-No : goal.returns-in-No
returns-in-No c = record {
  value = ap (λ (answer : Answer). record answer { line = c.in-No.line; refusal = c.number.result }) c.without_verdict-in-No.ensures.value
      ∙ ap (λ (refusal : ℕ). record (without_verdict 2) { line = c.in-No.line; refusal = refusal }) c.number.ensures.number
      ∙ sym (ap numbers_of c.in-No.is);
}
