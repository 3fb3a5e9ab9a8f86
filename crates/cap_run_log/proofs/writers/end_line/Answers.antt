use Rattle.std.proofs.Common.{ap, arith, length}
use Rattle.cap_streams.specs.Written.{Writes}
use Rattle.cap_run_log.specs.RunLines.{run_spelling}
use Rattle.cap_run_log.proofs.Spellings.{run_feed_room, run_spelling-short}
use Rattle.cap_run_log.proofs.writers.end_line.Goals as goal

pub write-end-requires-clause-room : goal.write-end-requires-clause-room
write-end-requires-clause-room g c =
    let short = run_spelling-short c.args.line.now c.requires.in_range in
    let same = ap length c.requires.spelling in
    omega arith

pub put-requires : goal.put-requires
put-requires g c =
    let written : Writes 0 (run_spelling c.args.line.now) c.args.buffer.now c.write-end.new.buffer c.write-end.result =
    rw c.requires.spelling c.write-end.ensures.written in
    run_feed_room c.args.line.now c.requires.in_range c.write-end.result c.args.buffer.now c.write-end.new.buffer (omega arith) written
