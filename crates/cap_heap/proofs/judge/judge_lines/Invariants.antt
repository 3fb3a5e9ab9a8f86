use Rattle.std.proofs.Common.{◌≡◌, ◌-◌, ◌^◌, ℕ, List, None}
use Rattle.cap_streams.specs.Takings.{kept, over_of}
use Rattle.cap_heap.specs.Progresses.{IsAt}
use Rattle.cap_heap.proofs.judge.judge_lines.Given as goal

-- the bytes given lead to the progress, and what is kept begins with the line of this number
abbrev pub invariant-lines : goal.invariant-lines
invariant-lines g l = record {
  here : (given : List ℕ) × g.S.Source.gave l.fn.source l.source given × IsAt given l.progress (kept l.lines) l.line;
  counted : g.S.Source.faults l.source ≡ g.S.Source.faults l.fn.source;
  more : over_of l.lines ≡ None;
}

-- a log has fewer lines
abbrev pub decreases-lines : goal.decreases-lines
decreases-lines g l = 2 ^ 33 - l.line
