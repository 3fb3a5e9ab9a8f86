use Rattle.cap_heap.specs.Beginnings.{root_of, events_of, lines_of, due_of}
use Rattle.cap_heap.proofs.{BehindLemmas.behind, WhyLemmas.count_details}
use Rattle.cap_heap.proofs.whys.put_details.Goals as goal

pub returns-in-Misplaced-clause-written : goal.returns-in-Misplaced-clause-written
returns-in-Misplaced-clause-written c =
    let counted = c.put_counted_lines.ensures.written in (
      counted.0,
      λ beginning stands. count_details (root_of beginning) (events_of beginning) (lines_of beginning) (due_of beginning) c.args.text.now c.args.refusal
          counted.0 c.in-Misplaced.is (counted.1 beginning stands),
      counted.2,
    )

pub returns-in-Within-clause-written : goal.returns-in-Within-clause-written
returns-in-Within-clause-written c =
    let told = c.put_event_lines.ensures.written in
    let other = c.in_default in (
      told.0,
      λ beginning stands. behind c.args.progress.now beginning c.args.text.now c.args.refusal told.0 c.in-Within.is stands
          (record {
            no_header = other.not-BadHeader;
            short = other.not-LineTooLong;
            formed = other.not-BadLine;
            placed = other.not-Misplaced;
            whole = other.not-Truncated;
            counted = other.not-WrongCount;
            few = other.not-LimitPassed;
          }) told.1,
      told.2,
    )
