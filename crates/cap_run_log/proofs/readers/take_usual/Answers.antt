use Rattle.std.proofs.Common.{ap}
use Rattle.cap_log.{specs.Lines.spelling, proofs.Shapes.head_of}
use Rattle.cap_run_log.specs.RunLines.{run_spelling}
use Rattle.cap_run_log.proofs.Rows.{no_root_line, no_run_head}
use Rattle.cap_run_log.proofs.readers.take_usual.Goals as goal

pub returns-in_default-clause-none : goal.returns-in_default-clause-none
returns-in_default-clause-none c = no_run_head c.args.bytes.now c.requires c.in_default.ensures.none

pub returns-in-Root-clause-none : goal.returns-in-Root-clause-none
returns-in-Root-clause-none c =
    no_root_line c.args.bytes.now c.in-Some.rest.now c.in-Some.line (ap head_of c.in-Root.is) c.requires c.in-Some.ensures.some

pub returns-in-Version-clause-some : goal.returns-in-Version-clause-some
unfolding run_spelling spelling
returns-in-Version-clause-some c = rw c.in-Version.is at c.in-Some.ensures.some
