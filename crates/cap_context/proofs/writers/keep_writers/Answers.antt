use Rattle.std.proofs.Common.{◌∙◌, ap, List, cond, Some}
use Rattle.cap_context.specs.{declared.writers.Writer.Writer, Registers.writes_of, Writers.{found, slots_of, writers_of, written}}
use Rattle.cap_context.proofs.WriterLemmas.{kept_by_number}
use Rattle.cap_context.proofs.writers.keep_writers.Goals as goal

pub returns : goal.returns
unfolding written
returns c =
    let hart = c.args.hart.now in
    let text = c.args.text.now in
    record {
      ok = λ other is.
          kept_by_number other hart text (c.args.number, text) c.number_of-key.result (writers_of c.args.writers.now) (writers_of c.take_own-own.new.writers)
          (writers_of c.put_own.new.writers) c.note.new.writers.items c.number_of-key.ensures.value c.take_own-own.ensures.others
          c.in_ok-put_own.ensures.own c.in_ok-put_own.ensures.others
          (c.in_ok-note.ensures.ok other is
          ∙ ap (λ (w : List Writer). cond (writes_of other hart text) (Some (c.args.number, text)) (found other (slots_of w))) c.take_own-own.ensures.own);
    }
