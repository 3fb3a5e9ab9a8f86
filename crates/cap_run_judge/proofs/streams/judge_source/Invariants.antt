use Rattle.std.proofs.Common.{◌≡◌, ◌+◌, ◌-◌, ◌*◌, ◌++◌, ℕ, List, length}
use Rattle.cap_streams.specs.{Front.IsCut, ReadBuffers.items}
use Rattle.cap_run_judge.specs.{Readings.stage_of, Turns.{unread, run_turns}}
use Rattle.cap_run_judge.proofs.streams.judge_source.Given as goal
use Rattle.cap_turns.specs.Turns.{Goes, lines_read}

-- what was given is lines that were read, except less than a line, which the pulled holds
abbrev pub invariant-pieces : goal.invariant-pieces
invariant-pieces g l = record {
  here : (taken : List ℕ) × g.S.Source.gave l.fn.source l.source (taken ++ items l.pulled) × Goes run_turns (unread l.fn.judge.machine.asks) taken (stage_of l.judge);
  cut : IsCut (items l.pulled);
  counted : g.S.Source.faults l.source ≡ g.S.Source.faults l.fn.source;
}

-- the limits bound the lines, and each pull gives more of one
abbrev pub decreases-pieces : goal.decreases-pieces
decreases-pieces g l = 96 * (12884902000 - lines_read run_turns (stage_of l.judge)) + 96 - length (items l.pulled)
