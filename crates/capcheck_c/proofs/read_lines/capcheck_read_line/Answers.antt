use Rattle.std.proofs.Common.{◌≡◌, ◌+◌, arith, length, subst}
use Rattle.cap_log.specs.{declared.lines.Line.Line, Lines.spelling}
use Rattle.capcheck_c.specs.LinesRead.{IsLineRead}
use Rattle.capcheck_c.proofs.ReadLemmas.{front_length, one_front}
use Rattle.capcheck_c.proofs.read_lines.capcheck_read_line.Goals as goal

pub returns-in-Some-clause-read : goal.returns-in-Some-clause-read
returns-in-Some-clause-read c =
    let bytes = c.args.bytes.now in
    let read = c.line_read.result in
    let here = c.in-Some.ensures.some in
    let long = front_length bytes c.in-Some.line c.in-Some.rest.now here in
    let count = c.line_read.ensures.length in
    record {
      line = λ line rest begins.
          let same = one_front bytes c.in-Some.line line c.in-Some.rest.now rest here begins in
          let at : read.length ≡ length (spelling c.in-Some.line) + 1 = omega (arith, long, count) in (
            subst (λ (l : Line). IsLineRead l read) same.0 c.line_read.ensures.read,
            subst (λ (l : Line). read.length ≡ length (spelling l) + 1) same.0 at,
          );
      kind = λ _. (c.in-Some.line, c.in-Some.rest.now, here);
      none = λ none. absurd (none c.in-Some.line c.in-Some.rest.now here);
    }
