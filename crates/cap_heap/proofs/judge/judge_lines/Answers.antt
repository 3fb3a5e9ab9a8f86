use Rattle.std.proofs.Common.{List, Ok, ap, subst, ◌∙◌, rules, arith, ℕ}
use Rattle.cap_streams.specs.{FaultLines.bytes_of, Front.IsFrontText}
use Rattle.cap_heap.proofs.JudgeLemmas.{stands, few, pulled, at_finish, at_cut, at_long, at_line, line_taken}
use Rattle.cap_heap.proofs.judge.judge_lines.Goals as goal

pub returns-in-Err-clause-judged : goal.returns-in-Err-clause-judged
returns-in-Err-clause-judged g c =
    let p = stands g.S.Source.gave g.S.Source.ended c.args.source.now c.lines.source c.next.new.source c.lines.progress c.lines.line _ _ _ _
    g.met.S.Source.joined c.lines.invariant.here (c.next.follows.holds-at-none.0 c.lines.invariant.more) c.in-Err.is in
    pulled c.lines.line _ _ p

pub returns-in-Ok-Finished-clause-judged : goal.returns-in-Ok-Finished-clause-judged
returns-in-Ok-Finished-clause-judged g c =
    let p = stands g.S.Source.gave g.S.Source.ended c.args.source.now c.lines.source c.next.new.source c.lines.progress c.lines.line _ _ _ _
    g.met.S.Source.joined c.lines.invariant.here (c.next.follows.holds-at-none.0 c.lines.invariant.more) (c.in-Ok-Finished.is ∙ ap Ok c.in-Ok-Finished.field-0-is) in
    rw (c.finished.ensures, c.new-in-Ok-Finished.ensures.value) (at_finish c.lines.line p)

pub returns-in-Ok-Truncated-clause-judged : goal.returns-in-Ok-Truncated-clause-judged
returns-in-Ok-Truncated-clause-judged g c =
    let p = stands g.S.Source.gave g.S.Source.ended c.args.source.now c.lines.source c.next.new.source c.lines.progress c.lines.line _ _ _ _
    g.met.S.Source.joined c.lines.invariant.here (c.next.follows.holds-at-none.0 c.lines.invariant.more) (c.in-Ok-Truncated.is ∙ ap Ok c.in-Ok-Truncated.field-0-is) in
    let front = subst (λ (b : List ℕ). IsFrontText b (bytes_of c.of_front.result)) c.kept-kept.ensures.value c.of_front.ensures.front in
    rw (c.refused-verdict.ensures) (at_cut c.lines.line (bytes_of c.of_front.result) front p)

pub returns-in-Ok-LineTooLong-clause-judged : goal.returns-in-Ok-LineTooLong-clause-judged
returns-in-Ok-LineTooLong-clause-judged g c =
    let p = stands g.S.Source.gave g.S.Source.ended c.args.source.now c.lines.source c.next.new.source c.lines.progress c.lines.line _ _ _ _
    g.met.S.Source.joined c.lines.invariant.here (c.next.follows.holds-at-none.0 c.lines.invariant.more) (c.in-Ok-LineTooLong.is ∙ ap Ok c.in-Ok-LineTooLong.field-0-is) in
    let held = bytes_of c.of_front-in-Ok-LineTooLong.result in
    let front = subst (λ (b : List ℕ). IsFrontText b held) c.kept-kept-in-Ok-LineTooLong.ensures.value c.of_front-in-Ok-LineTooLong.ensures.front in
    rw (c.refused-verdict-in-Ok-LineTooLong.ensures) (at_long c.lines.line held front p)

pub returns-in-Err-take_line-clause-judged : goal.returns-in-Err-take_line-clause-judged
returns-in-Err-take_line-clause-judged g c =
    let p = stands g.S.Source.gave g.S.Source.ended c.args.source.now c.lines.source c.next.new.source c.lines.progress c.lines.line _ _ _ _
    g.met.S.Source.joined c.lines.invariant.here (c.next.follows.holds-at-none.0 c.lines.invariant.more) (c.in-Ok-Line.is ∙ ap Ok c.in-Ok-Line.field-0-is) in
    rw (c.answer_at.ensures)
    (at_line c.lines.line c.in-Ok-Line.text p (bytes_of c.of_front-in-Err-take_line.result) c.of_front-in-Err-take_line.ensures.front c.in-Err-take_line.end c.in-Err-take_line.ensures.err _ c.in-Err-take_line.ensures.stays)

pub overflow_add-line : goal.overflow_add-line
overflow_add-line g c = omega (arith, few _ c.lines.progress _ c.lines.line c.lines.invariant.here.2)

pub lines-smaller : goal.lines-smaller
lines-smaller g c = omega (arith, few _ c.lines.progress _ c.lines.line c.lines.invariant.here.2)

pub lines-preserved : goal.lines-preserved
lines-preserved g c =
    let p = stands g.S.Source.gave g.S.Source.ended c.args.source.now c.lines.source c.next.new.source c.lines.progress c.lines.line _ _ _ _
    g.met.S.Source.joined c.lines.invariant.here (c.next.follows.holds-at-none.0 c.lines.invariant.more) (c.in-Ok-Line.is ∙ ap Ok c.in-Ok-Line.field-0-is) in
    record {
      here = (p.given, p.gives, line_taken c.lines.line c.in-Ok-Line.text p c.take_line.new.self c.in_default.ensures.ok);
      counted = search rules;
      more = p.next.1;
    }
