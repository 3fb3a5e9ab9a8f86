use Rattle.cap_log.proofs.SizedLemmas.{last_digits}
use Rattle.cap_log.proofs.buffers.put_hex.Goals as goal

pub returns-clause-text : goal.returns-clause-text
returns-clause-text c = rw (last_digits 32 c.args.digits c.args.number _ c.requires.few c.word_text-text.ensures.digits) at c.put.ensures.written
