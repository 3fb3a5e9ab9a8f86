use Rattle.cap_run_log.proofs.Spellings.{end_at, mode_at, step_at, version_at}
use Rattle.cap_run_log.proofs.writers.write_run_line.Goals as goal

pub returns-in-Plain : goal.returns-in-Plain
returns-in-Plain c = record { line = rw c.in-Plain.is (version_at c.in-Plain.version _ _ _ c.write_line.ensures.line) }

pub returns-in-Mode : goal.returns-in-Mode
returns-in-Mode c = record { line = rw c.in-Mode.is (mode_at c.in-Mode.mode _ _ _ c.write_line-in-Mode.ensures.line) }

pub returns-in-Step : goal.returns-in-Step
returns-in-Step c = record { line = rw c.in-Step.is (step_at c.in-Step.step _ _ _ c.write_line-in-Step.ensures.line) }

pub returns-in-End : goal.returns-in-End
returns-in-End c = record { line = rw c.in-End.is (end_at c.in-End.steps _ _ _ c.write_line-in-End.ensures.line) }
