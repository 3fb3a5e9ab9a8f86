use Rattle.std.proofs.Common.{Some}
use Rattle.cap_halves.specs.PassedRuns.{object_passed}
use Rattle.capcheck_c.proofs.run_lines.capcheck_line_object.Goals as goal

pub returns : goal.returns
returns c = record { line = c.put_run_step.ensures.line (Some (object_passed c.args.register c.args.object)) c.object_from.ensures.step }
