use Rattle.cap_halves.specs.PassedRuns.{fill_passed}
use Rattle.capcheck_c.proofs.run_lines.capcheck_line_fill.Goals as goal

pub returns : goal.returns
returns c = record { line = c.put_run_step.ensures.line (fill_passed c.args.address c.args.word) c.fill_from.ensures.step }
