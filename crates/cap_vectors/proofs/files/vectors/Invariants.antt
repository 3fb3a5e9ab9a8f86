use Rattle.std.proofs.Common.{◌≡◌, ◌-◌, ℕ, List, None}
use Rattle.cap_streams.specs.Takings.{kept, over_of}
use Rattle.cap_vectors.specs.VectorFiles.{BeginsTrue, last_line}
use Rattle.cap_vectors.proofs.files.vectors.Given as goal

-- so many lines state something true, and what is kept follows them
abbrev pub invariant-lines : goal.invariant-lines
invariant-lines g l = record {
  here : (given : List ℕ) × g.S.Source.gave l.fn.source l.source given × BeginsTrue given l.passed (kept l.lines);
  counted : g.S.Source.faults l.source ≡ g.S.Source.faults l.fn.source;
  more : over_of l.lines ≡ None;
}

-- the last line fails
abbrev pub decreases-lines : goal.decreases-lines
decreases-lines g l = last_line - l.passed
