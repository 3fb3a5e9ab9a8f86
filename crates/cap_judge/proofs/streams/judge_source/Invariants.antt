use Rattle.std.proofs.Common.{◌≡◌, ◌+◌, ◌-◌, ◌*◌, ◌++◌, ℕ, List, length}
use Rattle.cap_streams.specs.{Front.IsCut, ReadBuffers.items}
use Rattle.cap_judge.specs.{Readings.stage_of, Turns.{unread, log_turns}}
use Rattle.cap_judge.proofs.streams.judge_source.Given as goal
use Rattle.cap_turns.specs.Turns.{Goes, lines_by}

-- what was given is lines that were read, except less than a line, which the pulled holds
abbrev pub invariant-pieces : goal.invariant-pieces
invariant-pieces g l = record {
  here : (taken : List ℕ) × g.S.Source.gave l.fn.source l.source (taken ++ items l.pulled) × Goes log_turns unread taken (stage_of l.judge);
  cut : IsCut (items l.pulled);
  counted : g.S.Source.faults l.source ≡ g.S.Source.faults l.fn.source;
}

-- the limits bound the lines, and each pull gives more of one
abbrev pub decreases-pieces : goal.decreases-pieces
decreases-pieces g l =
    96 * (4294971400 - lines_by log_turns (stage_of l.judge).state (stage_of l.judge).due) + 96 - length (items l.pulled)
