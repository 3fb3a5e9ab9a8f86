use Rattle.std.proofs.Common.{◌+◌, ◌∙◌, ◌≤◌, List, ap, arith, drop, subst, sym, take, drop-drop, drop-set-lt, length-set}
use Rattle.std.proofs.{Common.set, lemmas.List.{take_more_set, Elements.All-push}}
use Rattle.std.specs.List.{All}
use Rattle.cap_log.specs.{Lines.{IsInRange, spelling}, Parts.BeginsWithNone}
use Rattle.cap_halves.specs.declared.values.PassedLine.{PassedLine}
use Rattle.capcheck_c.specs.LinesRead.{ReadsLines}
use Rattle.capcheck_c.proofs.ReadLemmas.{none_read, reads_more, rest_of}
use Rattle.capcheck_c.proofs.read_lines.capcheck_read_lines.Goals.{else-loop-count-test}
use Rattle.capcheck_c.proofs.read_lines.capcheck_read_lines.Goals.{then-loop-count-test+then-line-eq-NO_LINE}
use Rattle.capcheck_c.proofs.read_lines.capcheck_read_lines.Goals as goal

pub loop-count-preserved : goal.loop-count-preserved
loop-count-preserved c =
    let before = c.loop-count.invariant in
    let below = c.loop-count-test.true in
    let read = c.capcheck_read_line-line.result in
    let count = c.loop-count.count in
    let lines = c.loop-count.lines in
    let more = reads_more c.args.bytes.now (take count lines) c.loop-count.rest.now read before.read c.if-line-eq-NO_LINE.false
    c.capcheck_read_line-line.ensures.read in
    let after = drop-set-lt (count + 1) lines count read (omega arith) in
    record {
      fits = omega (arith, below, before.long);
      long = length-set lines count read ∙ before.long;
      read = subst (ReadsLines c.args.bytes.now (take (count + 1) (set lines count read))) (sym c.split_at.ensures.back)
          (subst (λ (l : List PassedLine). ReadsLines c.args.bytes.now l (drop read.length c.loop-count.rest.now))
          (sym (take_more_set lines count read below)) more);
      tags = subst (All (λ (line : PassedLine). line.cap.tag ≤ 1)) (sym (take_more_set lines count read below))
          (All-push (λ (line : PassedLine). line.cap.tag ≤ 1) (take count lines) read before.tags c.capcheck_read_line-line.ensures.tag);
      after = after ∙ sym (drop-drop 1 count lines) ∙ ap (drop 1) before.after ∙ drop-drop 1 count c.args.lines.now;
    }

pub overflow_sub-result : goal.overflow_sub-result
overflow_sub-result c = (rest_of c.args.bytes.now _ c.loop-count.rest.now c.loop-count.invariant.read).0

pub returns-clause-read : goal.returns-clause-read
returns-clause-read c =
    subst (ReadsLines c.args.bytes.now (take c.loop-count.count c.loop-count.lines))
    (sym (rest_of c.args.bytes.now _ c.loop-count.rest.now c.loop-count.invariant.read).1) c.loop-count.invariant.read

pub returns-clause-stops : goal.returns-clause-stops
returns-clause-stops c = λ room.
    subst (BeginsWithNone IsInRange spelling 10) (sym (rest_of c.args.bytes.now _ c.loop-count.rest.now c.loop-count.invariant.read).1)
    (elim c.loop-count-test.branch [
      | else-loop-count-test w ↦ absurd (omega (arith, room, w.loop-count-test.false))
      | then-loop-count-test+then-line-eq-NO_LINE w ↦ none_read _ _ w.capcheck_read_line-line.ensures.read w.if-line-eq-NO_LINE.true
    ])

pub returns-clause-tags : goal.returns-clause-tags
returns-clause-tags c = c.loop-count.invariant.tags
