use Rattle.std.proofs.Common.{length, ◌-◌, ◌≡◌, ◌≤◌, drop, take}
use Rattle.std.specs.List.{All}
use Rattle.cap_halves.specs.declared.values.PassedLine.{PassedLine}
use Rattle.capcheck_c.specs.LinesRead.{ReadsLines}
use Rattle.capcheck_c.proofs.read_lines.capcheck_read_lines.Given as goal

abbrev pub invariant-loop-count : goal.invariant-loop-count
invariant-loop-count l = record {
  fits : l.count ≤ length l.fn.lines;
  long : length l.lines ≡ length l.fn.lines;
  read : ReadsLines l.fn.bytes (take l.count l.lines) l.rest;
  tags : All (λ (line : PassedLine). line.cap.tag ≤ 1) (take l.count l.lines);
  after : drop l.count l.lines ≡ drop l.count l.fn.lines;
}

abbrev pub decreases-loop-count : goal.decreases-loop-count
decreases-loop-count l = length l.initial.lines - l.count
