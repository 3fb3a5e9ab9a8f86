use Rattle.cap_run_log.proofs.UsualLineLemmas.{read_alike, spells_alike}
use Rattle.cap_run_log.proofs.laws.usual_lines_are_run_lines.Goals as goal

pub returns : goal.returns
returns c = record { spelled = spells_alike; read = read_alike }
