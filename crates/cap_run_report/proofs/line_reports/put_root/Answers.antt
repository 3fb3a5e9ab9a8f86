use Rattle.std.proofs.Common.{ap, rules, ◌∙◌}
use Rattle.cap_streams.specs.Written.{◌⨾◌}
use Rattle.cap_run.specs.declared.ends.RunRefusal.TheVariants.{Usual}
use Rattle.cap_run_report.proofs.{ObjectLemmas.readable, StepLemmas.root_other}
use Rattle.cap_run_report.proofs.line_reports.put_root.Goals.{in_default-via-in-Usual+in_default, in_default-via-in_default}
use Rattle.cap_run_report.proofs.line_reports.put_root.Goals as goal
use Rattle.cap_run.specs.Machines.{run_in}

pub put_held-at-requires-clause-place : goal.put_held-at-requires-clause-place
put_held-at-requires-clause-place g c = readable c.args.place c.requires.place

pub put_taken_says-requires-clause-place : goal.put_taken_says-requires-clause-place
put_taken_says-requires-clause-place g c = readable c.args.place c.requires.place

pub put_held-at-requires-in_default-clause-place : goal.put_held-at-requires-in_default-clause-place
put_held-at-requires-in_default-clause-place g c = readable c.args.place c.requires.place

pub returns-in-Usual-PlaceTaken-clause-written : goal.returns-in-Usual-PlaceTaken-clause-written
returns-in-Usual-PlaceTaken-clause-written g c =
    let fault = rw c.in-Usual-PlaceTaken.is at c.in-Usual-PlaceTaken.field-0-is in
    let taken = c.in-Usual-PlaceTaken.is ∙ ap Usual fault in
    let held = rw c.holds.ensures.value at c.put_held-at.ensures.written in
    rw taken (held ⨾ c.put_taken_says.ensures.written)

pub returns-in_default-clause-written : goal.returns-in_default-clause-written
returns-in_default-clause-written g c =
    let other = root_other (run_in c.args.machine.now) c.args.place c.args.word c.args.refusal (elim c.in_default.branch [
      | in_default-via-in-Usual+in_default w ↦ search rules
      | in_default-via-in_default w ↦ search rules
    ]) in
    let long = rw c.length_of.ensures.value at c.put_hex_line-at.ensures.written in
    rw other (c.put_held-at-in_default.ensures.written ⨾ long ⨾ c.put_unsound_says.ensures.written)
