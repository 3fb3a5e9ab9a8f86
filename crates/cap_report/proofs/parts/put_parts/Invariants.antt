use Rattle.std.proofs.Common.{◌+◌, ◌*◌, ◌≤◌, take}
use Rattle.cap_streams.specs.Written.{Writes}
use Rattle.cap_report.specs.Parts.{lines_of_parts}
use Rattle.cap_report.proofs.parts.put_parts.Given as goal

-- the lines of the parts so far are written
abbrev pub invariant-loop-index : goal.invariant-loop-index
invariant-loop-index l = record {
  written : Writes l.at (lines_of_parts (take l.index l.parts)) l.fn.buffer l.buffer l.end;
  fits : l.end ≤ l.at + 256 * l.index;
}
