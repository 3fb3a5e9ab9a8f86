use Rattle.std.proofs.Common.{◌+◌, ◌*◌, ◌≤◌, take}
use Rattle.cap_streams.specs.Written.{Writes}
use Rattle.cap_texts.specs.ShownBytes.{shown}
use Rattle.cap_texts.proofs.shown_bytes.put_shown.Given as goal

-- the bytes so far are shown
abbrev pub invariant-loop-index : goal.invariant-loop-index
invariant-loop-index l = record {
  written : Writes l.at (shown (take l.index l.bytes)) l.fn.buffer l.buffer l.end;
  fits : l.end ≤ l.at + 4 * l.index;
}
