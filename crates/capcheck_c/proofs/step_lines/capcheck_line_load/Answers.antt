use Rattle.std.proofs.{Common.w64, lemmas.Int.to_z-of_z}
use Rattle.capcheck_c.proofs.step_lines.capcheck_line_load.Goals as goal

pub returns : goal.returns
returns c =
    let same = to_z-of_z w64 c.args.offset c.ranges.offset in
    record { line = rw same at c.put_step.ensures }
