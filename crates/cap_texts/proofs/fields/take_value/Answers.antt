use Rattle.cap_texts.proofs.FieldLemmas.{no_value, none_by}
use Rattle.cap_texts.proofs.fields.take_value.Goals as goal

pub returns-clause-none : goal.returns-clause-none
returns-clause-none c =
    let number = c.in_ok-_number in
    none_by c.take_end.result (no_value c.args.size c.args.end number._number c.args.bytes.now number.others.now
    (rw c.bytes_of_size.ensures.value at number.ensures.some)) c.take_end.ensures.none
