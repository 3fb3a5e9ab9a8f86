use Rattle.std.proofs.Common.{◌++◌, subst}
use Rattle.cap_streams.specs.Written.{Writes, ◌⨾◌}
use Rattle.cap_texts.specs.TextLines.{says_line}
use Rattle.cap_machine.specs.{Helds.account_of, declared.shown.Shown.Shown}
use Rattle.cap_report.specs.{Says.step_sentence, StepLines.{seen, shown_lines}}
use Rattle.cap_report.proofs.step_lines.put_step_lines.Goals as goal

pub returns-clause-written : goal.returns-clause-written
returns-clause-written g c =
    let account = seen c.args.origins (account_of c.args.machine.now) in
    subst
    (λ (s : Shown). Writes c.args.at (shown_lines account s c.args.refusal ++ says_line (step_sentence account.state s c.args.refusal))
    c.args.buffer.now c.put_step_says.new.buffer c.put_step_says.result)
    c.shown-shown.ensures.shown (c.put_shown-at.ensures.written ⨾ c.put_step_says.ensures.written)
