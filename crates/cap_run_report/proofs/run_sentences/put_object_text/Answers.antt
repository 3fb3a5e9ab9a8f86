use Rattle.cap_streams.specs.Written.{◌⨾◌}
use Rattle.cap_run_report.specs.RunSentences.{object_text}
use Rattle.cap_run_report.proofs.run_sentences.put_object_text.Goals as goal

pub returns-clause-written : goal.returns-clause-written
unfolding object_text
returns-clause-written c =
    c.put-at.ensures.written ⨾ c.put_count-at.ensures.written ⨾ c.put-at-2.ensures.written ⨾ c.put_step_line-at.ensures.written
    ⨾ c.put_freed_text.ensures.written
