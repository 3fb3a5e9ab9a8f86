use Rattle.std.specs.Io.KnownBytes.{Consumes}
use Rattle.std.proofs.Common.{◌≡◌, ◌≤◌, length, take}
use Rattle.capdiag.proofs.fronts.read_front.Given as goal

-- the first bytes that were read fit, and are those that the input gave
pub record invariant-loop (g : goal.Over) (l : goal.Live-loop g) : Type 0 where
  pub few : l.length ≤ 6
  pub long : length l.front ≡ 6
  pub read : Consumes (g.R.Read.remaining l.initial.input) (g.R.Read.remaining l.input) (take l.length l.front)
