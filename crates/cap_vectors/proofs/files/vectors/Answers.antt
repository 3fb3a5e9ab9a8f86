use Rattle.std.proofs.Common.{Ok, ap, ◌∙◌, rules, arith}
use Rattle.cap_vectors.proofs.VectorFileLemmas.{passes, pulled, all_passed, truncated, too_long, line_fails}
use Rattle.cap_vectors.proofs.VectorFileLemmas.{line_passes}
use Rattle.cap_vectors.proofs.files.vectors.Goals as goal

pub returns-in-Err-clause-checked : goal.returns-in-Err-clause-checked
returns-in-Err-clause-checked g c =
    let p = passes g.S.Source.gave g.S.Source.ended c.args.source.now c.lines.source c.next.new.source c.lines.passed _ _ _ _
    g.met.S.Source.joined c.lines.invariant.here (c.next.follows.holds-at-none.0 c.lines.invariant.more) c.in-Err.is in
    pulled c.lines.passed _ _ p

pub returns-in-Ok-Finished-clause-checked : goal.returns-in-Ok-Finished-clause-checked
returns-in-Ok-Finished-clause-checked g c =
    let p = passes g.S.Source.gave g.S.Source.ended c.args.source.now c.lines.source c.next.new.source c.lines.passed _ _ _ _
    g.met.S.Source.joined c.lines.invariant.here (c.next.follows.holds-at-none.0 c.lines.invariant.more)
    (c.in-Ok-Finished.is ∙ ap Ok c.in-Ok-Finished.field-0-is) in
    all_passed c.lines.passed p

pub returns-in-Ok-Truncated-clause-checked : goal.returns-in-Ok-Truncated-clause-checked
returns-in-Ok-Truncated-clause-checked g c =
    let p = passes g.S.Source.gave g.S.Source.ended c.args.source.now c.lines.source c.next.new.source c.lines.passed _ _ _ _
    g.met.S.Source.joined c.lines.invariant.here (c.next.follows.holds-at-none.0 c.lines.invariant.more)
    (c.in-Ok-Truncated.is ∙ ap Ok c.in-Ok-Truncated.field-0-is) in
    truncated c.lines.passed p

pub returns-in-Ok-LineTooLong-clause-checked : goal.returns-in-Ok-LineTooLong-clause-checked
returns-in-Ok-LineTooLong-clause-checked g c =
    let p = passes g.S.Source.gave g.S.Source.ended c.args.source.now c.lines.source c.next.new.source c.lines.passed _ _ _ _
    g.met.S.Source.joined c.lines.invariant.here (c.next.follows.holds-at-none.0 c.lines.invariant.more)
    (c.in-Ok-LineTooLong.is ∙ ap Ok c.in-Ok-LineTooLong.field-0-is) in
    too_long c.lines.passed p

pub returns-then-is_failing-clause-checked : goal.returns-then-is_failing-clause-checked
returns-then-is_failing-clause-checked g c =
    let p = passes g.S.Source.gave g.S.Source.ended c.args.source.now c.lines.source c.next.new.source c.lines.passed _ _ _ _
    g.met.S.Source.joined c.lines.invariant.here (c.next.follows.holds-at-none.0 c.lines.invariant.more)
    (c.in-Ok-Line.is ∙ ap Ok c.in-Ok-Line.field-0-is) in
    line_fails c.lines.passed c.in-Ok-Line.text p c.if-is_failing.ensures

pub lines-preserved : goal.lines-preserved
lines-preserved g c =
    let p = passes g.S.Source.gave g.S.Source.ended c.args.source.now c.lines.source c.next.new.source c.lines.passed _ _ _ _
    g.met.S.Source.joined c.lines.invariant.here (c.next.follows.holds-at-none.0 c.lines.invariant.more)
    (c.in-Ok-Line.is ∙ ap Ok c.in-Ok-Line.field-0-is) in
    let more = c.if-is_failing.ensures in
    let after = line_passes c.lines.passed c.in-Ok-Line.text p more.1 (omega (arith, c.lines.invariant.here.2.few, more.0)) in
    record {
      here = (p.given, p.gives, after);
      counted = search rules;
      more = p.next.1;
    }
