use Rattle.std.proofs.Common.{◌≡◌, ◌-◌, ℕ, List, ◌++◌, length}
use Rattle.cap_streams.specs.{Front.IsCut, Takings.kept}
use Rattle.cap_streams.proofs.lines.Lines.find.Given as goal

-- what was given so far stands behind what was kept
abbrev pub invariant-loop-self : goal.invariant-loop-self
invariant-loop-self g l = record {
  given : (more : List ℕ) × g.S.Source.gave l.fn.source l.source more × (kept l.self ≡ kept l.fn.self ++ more);
  counted : g.S.Source.faults l.source ≡ g.S.Source.faults l.fn.source;
  over : l.self.over ≡ l.fn.self.over;
  kept_first : (IsCut (kept l.fn.self) → ⊥) → l.source ≡ l.fn.source;
}

abbrev pub decreases-loop-self : goal.decreases-loop-self
decreases-loop-self g l = 96 - length (kept l.self)
