use Rattle.cap_streams.specs.Written.{◌⨾◌}
use Rattle.cap_run_report.proofs.derive_sentences.put_beyond_bounds.Goals as goal

pub returns-clause-written : goal.returns-clause-written
returns-clause-written c =
    let beyond = rw (c.bounds.ensures.base, c.bounds.ensures.top, c.bounds-2.ensures.base, c.bounds-2.ensures.top) at c.put_beyond-at.ensures.written in
    c.put_word_for-at.ensures.written ⨾ c.put-at.ensures.written ⨾ beyond ⨾ c.put_run_place-at.ensures.text ⨾ c.put.ensures.written
