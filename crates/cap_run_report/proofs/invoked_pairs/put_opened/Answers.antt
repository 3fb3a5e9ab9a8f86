use Rattle.std.proofs.Common.{ℕ, codes, subst}
use Rattle.cap_machine.specs.States.{tagged}
use Rattle.cap_report.specs.Says.{words_text}
use Rattle.cap_streams.specs.Written.{Writes, ◌⨾◌}
use Rattle.cap_texts.specs.TextLines.{says_line}
use Rattle.cap_run_report.specs.{CapParts.held_lines}
use Rattle.cap_run_report.proofs.invoked_pairs.put_opened.Goals as goal

pub returns-clause-written : goal.returns-clause-written
unfolding says_line
returns-clause-written c =
    let gives = subst
    (λ (n : ℕ). Writes c.args.at (held_lines (codes "gives") c.args.place (tagged (record { 0 = n }))) c.args.buffer.now c.put_held-at.new.buffer c.put_held-at.result)
    c.opened-word.ensures c.put_held-at.ensures.written in
    let words = subst
    (λ (n : ℕ). Writes c.put-at-2.result (words_text (codes "; the rules give ") n c.args.recorded.0) c.put-at-2.new.buffer c.put_words-at.new.buffer c.put_words-at.result)
    c.opened-word.ensures c.put_words-at.ensures.written in
    gives ⨾ c.put_held-at-2.ensures.written
    ⨾ (c.put-at.ensures.written ⨾ (c.put_word_for-at.ensures.written ⨾ c.put-at-2.ensures.written ⨾ words) ⨾ c.put.ensures.written)
