use Rattle.std.proofs.Common.{◌≡◌, ◌+◌, arith, length, subst}
use Rattle.cap_run_log.specs.{declared.lines.RunLine.RunLine, RunLines.run_spelling}
use Rattle.capcheck_c.specs.RunLinesRead.{IsRunLineRead}
use Rattle.capcheck_c.proofs.RunReadLemmas.{one_run_front, run_front_length}
use Rattle.capcheck_c.proofs.read_run_lines.capcheck_read_run_line.Goals as goal

pub returns-in-Some-clause-read : goal.returns-in-Some-clause-read
returns-in-Some-clause-read c =
    let bytes = c.args.bytes.now in
    let read = c.run_line_read.result in
    let here = c.in-Some.ensures.some in
    let long = run_front_length bytes c.in-Some.line c.in-Some.rest.now here in
    let count = c.run_line_read.ensures.length in
    record {
      line = λ line rest begins.
          let same = one_run_front bytes c.in-Some.line line c.in-Some.rest.now rest here begins in
          let at : read.line.length ≡ length (run_spelling c.in-Some.line) + 1 = omega (arith, long, count) in (
            subst (λ (l : RunLine). IsRunLineRead l read) same.0 c.run_line_read.ensures.read,
            subst (λ (l : RunLine). read.line.length ≡ length (run_spelling l) + 1) same.0 at,
          );
      kind = λ _. (c.in-Some.line, c.in-Some.rest.now, here);
      none = λ none. absurd (none c.in-Some.line c.in-Some.rest.now here);
    }
