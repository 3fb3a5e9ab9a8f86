use Rattle.std.proofs.Common.{◌≡◌, ap, subst}
use Rattle.cap_streams.specs.FaultLines.{bytes_of}
use Rattle.cap_run.specs.{declared.asks.Asks.Asks, Machines.run_in}
use Rattle.cap_run_judge.specs.{Judgings.JudgedBy, Turns.RunStage}
use Rattle.cap_run_judge.proofs.streams.judge_run_keeping.Goals as goal

pub returns-clause-judged : goal.returns-clause-judged
returns-clause-judged g c =
    let e = c.judge_source-answer in
    let asks_are : c.new-judge.result.machine.asks ≡ c.args.asks = ap (λ (s : RunStage). s.state.asks) c.new-judge.ensures.read in
    subst (λ (asks : Asks). JudgedBy asks g.S.Source.gave g.S.Source.ended c.args.source.now e.new.source e.result.0 (run_in e.new.judge.machine)
    (bytes_of e.result.1)) asks_are e.ensures.judged
