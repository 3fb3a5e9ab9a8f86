use Rattle.std.proofs.Common.{inl, inr, refl, rules}
use Rattle.cap_run_report.proofs.bad_run_lines.put_bad_run_header.Goals as goal

pub returns-then-eq-3-clause-written : goal.returns-then-eq-3-clause-written
returns-then-eq-3-clause-written c = (_, inr (inl (search rules, refl)), c.put_hinted_line-then-eq-3.ensures.written)

pub returns-else-eq-3-clause-written : goal.returns-else-eq-3-clause-written
returns-else-eq-3-clause-written c = (_, inr (inr (search rules, search rules, search rules, refl)), c.put_header_lines.ensures.written)
