use Rattle.std.proofs.Common.{List, ℕ, sym, subst}
use Rattle.cap_streams.specs.Written.{Writes, ◌⨾◌}
use Rattle.cap_machine.specs.Helds.{account_of}
use Rattle.cap_report.proofs.DetailLemmas.{root_other}
use Rattle.cap_report.proofs.fault_reports.put_root_lines.Goals as goal

pub returns-in_default-clause-written : goal.returns-in_default-clause-written
returns-in_default-clause-written g c =
    let lines = rw c.length_of.ensures.value at c.put_hex_line-at.ensures.written in
    let other = root_other (account_of c.args.machine.now)
    c.args.place c.args.word c.args.refusal c.in_default.not-PlaceTaken in
    subst (λ (text : List ℕ). Writes c.args.at text c.args.buffer.now c.put_unsound_says.new.buffer c.put_unsound_says.result) (sym other)
    (c.put_cap_lines-at.ensures.written ⨾ lines ⨾ c.put_unsound_says.ensures.written)
