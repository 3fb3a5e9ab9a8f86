use Rattle.std.proofs.Common.{◌++◌, [], None, Some, arith, refl, subst}
use Rattle.cap_streams.specs.FaultLines.{bytes_of}
use Rattle.cap_run_judge.specs.{declared.verdict.RunVerdict.TheVariants.No, Readings.stage_of, Turns.{unread, run_turns}}
use Rattle.cap_run_judge.specs.VerdictLines.{run_verdict_line}
use Rattle.cap_report.proofs.WhyLemmas.{on_err, on_ok}
use Rattle.cap_run_report.specs.LineReports.{IsRunLineReport}
use Rattle.cap_run_report.proofs.WhyLemmas.{so_far}
use Rattle.cap_run_report.proofs.explanations.push_run_refused.Goals as goal
use Rattle.cap_run.specs.Machines.{run_in}
use Rattle.cap_turns.proofs.FollowLemmas.{clear_goes}

pub returns-in-None-clause-ok : goal.returns-in-None-clause-ok
returns-in-None-clause-ok g c = λ asks bytes read.
    let stage = stage_of c.args.judge.now in
    (None, [], ((stage, clear_goes run_turns (unread asks) bytes stage read c.in-None.ensures.fault), refl), g.met.K.Sink.nothing c.args.sink.now, omega arith)

pub returns-in-Some-clause-ok : goal.returns-in-Some-clause-ok
returns-in-Some-clause-ok g c =
    let fault = c.in-Some.fault in
    let stage = stage_of c.args.judge.now in
    on_ok c.push_fault.result (λ p. λ asks bytes read. (
      Some (No fault.line fault.refusal),
      run_verdict_line (No fault.line fault.refusal) ++ p.0,
      so_far asks bytes stage fault.line fault.refusal (bytes_of fault.text) p.0 read c.in-Some.ensures.fault
          (subst (λ m. IsRunLineReport (run_in m) fault.line (bytes_of fault.text) fault.refusal p.0) c.machine.ensures.held p.1),
      p.2,
      p.3,
    )) c.push_fault.ensures.ok

pub returns-in-Some-clause-err : goal.returns-in-Some-clause-err
returns-in-Some-clause-err g c =
    let fault = c.in-Some.fault in
    let stage = stage_of c.args.judge.now in
    on_err c.push_fault.result (λ p. λ asks bytes read. (
      Some (No fault.line fault.refusal),
      run_verdict_line (No fault.line fault.refusal) ++ p.0,
      so_far asks bytes stage fault.line fault.refusal (bytes_of fault.text) p.0 read c.in-Some.ensures.fault
          (subst (λ m. IsRunLineReport (run_in m) fault.line (bytes_of fault.text) fault.refusal p.0) c.machine.ensures.held p.1),
      p.2,
      p.3,
    )) c.push_fault.ensures.err
