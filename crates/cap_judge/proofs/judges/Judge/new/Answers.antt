use Rattle.std.proofs.Common.{ap}
use Rattle.cap_machine.specs.Accounts.{Account}
use Rattle.cap_judge.specs.Turns.{LogStage}
use Rattle.cap_judge.proofs.judges.Judge.new.Goals as goal
use Rattle.cap_turns.specs.Turns.{First}

-- a log of which no line is read
abbrev at_first : Account → LogStage
at_first account = record { state = account; due = First }

pub returns-clause-read : goal.returns-clause-read
returns-clause-read g c = ap at_first c.new.ensures.account
