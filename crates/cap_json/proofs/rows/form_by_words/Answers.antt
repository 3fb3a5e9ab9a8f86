use Rattle.cap_json.proofs.MemberLemmas.{form_of_value}
use Rattle.cap_json.proofs.rows.form_by_words.Goals as goal

pub returns-then-is_empty : goal.returns-then-is_empty
returns-then-is_empty c = record {
  value = form_of_value c.args.values.now c.cut.result.1.now c.cut.ensures.after c.if-is_empty.ensures;
}
