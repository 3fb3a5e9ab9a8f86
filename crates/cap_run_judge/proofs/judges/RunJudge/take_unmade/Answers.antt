use Rattle.std.proofs.Common.{[], ◌∷◌, ◌++◌, subst}
use Rattle.cap_run_log.specs.declared.lines.RunLine.{RunLine}
use Rattle.cap_run_log.specs.RunLines.{IsRunLineInRange, run_spelling}
use Rattle.cap_run_judge.proofs.judges.RunJudge.take_unmade.Goals as goal
use Rattle.cap_turns.specs.Readings.{IsNoLine}
use Rattle.cap_turns.proofs.TurnLemmas.{IsLine-spelling}
use Rattle.cap_run_judge.specs.Turns.{run_turns}
use Rattle.cap_run_judge.proofs.TurnLemmas.{run_spelled}

pub returns-in-Some-clause-taken : goal.returns-in-Some-clause-taken
returns-in-Some-clause-taken g c = rw c.write_run_line-length.ensures.line.written at c.take_ended_step.ensures.taken

pub returns-in-Some-clause-no_memory : goal.returns-in-Some-clause-no_memory
returns-in-Some-clause-no_memory g c = rw c.write_run_line-length.ensures.line.written at c.take_ended_step.ensures.no_memory

-- what a line spells is one line
line_is_line : (line : RunLine) → IsRunLineInRange line → IsNoLine (run_spelling line ++ 10 ∷ []) → ⊥
line_is_line line range none = none.0 (run_spelling line) (IsLine-spelling run_turns run_spelled line range [])

pub returns-in-None-clause-taken : goal.returns-in-None-clause-taken
returns-in-None-clause-taken g c = rw c.write_run_line-length.ensures.line.written at c.take_line.ensures.taken

pub returns-in-None-clause-line : goal.returns-in-None-clause-line
returns-in-None-clause-line g c = λ is.
    line_is_line _ c.requires.range (subst IsNoLine c.write_run_line-length.ensures.line.written (c.take_line.ensures.no_line.0 is))

pub take_ended_step-requires : goal.take_ended_step-requires
take_ended_step-requires g c =
    record { ends = (c.args.line.now, (c.requires.range, c.write_run_line-length.ensures.line.written), rw c.in-Some.is at c.requires.ends) }

pub returns-in-None-clause-no_memory : goal.returns-in-None-clause-no_memory
returns-in-None-clause-no_memory g c = rw c.write_run_line-length.ensures.line.written at c.take_line.ensures.no_memory
