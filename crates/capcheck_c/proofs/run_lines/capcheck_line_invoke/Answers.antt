use Rattle.std.proofs.Common.{Some}
use Rattle.cap_halves.specs.PassedRuns.{invoke_passed}
use Rattle.capcheck_c.proofs.run_lines.capcheck_line_invoke.Goals as goal

pub returns : goal.returns
returns c = record { line = c.put_run_step.ensures.line (Some (invoke_passed c.args.code c.args.datum c.args.code_word c.args.datum_word)) c.invoke_from.ensures.step }
