use Rattle.capdiag.proofs.RunLogLemmas.{asked_cut, asked_fault, asked_pushed}
use Rattle.capdiag.proofs.judges.judge_telling.Goals as goal

pub returns-in-Ok-push_all-clause-reported : goal.returns-in-Ok-push_all-clause-reported
returns-in-Ok-push_all-clause-reported g c =
    let a = c.args in
    let e = c.in-Ok.ensures.reported in
    let mid = c.judge_asked.new.sink in
    let new = c.push_all.new.sink in
    let more = rw c.asked_after.ensures.text at c.in-Ok-push_all.ensures.ok in
    record {
      given = e.given;
      gives = e.gives;
      report = asked_pushed a.run a.why a.told e.given (g.S.Source.ended c.judge_asked.new.source) (g.K.Sink.took a.sink.now mid) (g.K.Sink.took mid new)
          (g.K.Sink.took a.sink.now new) (g.met.K.Sink.joined a.sink.now mid new) c.in-Ok.verdict e.report more;
    }

pub returns-in-Err-push_all-clause-reported : goal.returns-in-Err-push_all-clause-reported
returns-in-Err-push_all-clause-reported g c =
    let a = c.args in
    let e = c.in-Ok.ensures.reported in
    let mid = c.judge_asked.new.sink in
    let new = c.push_all.new.sink in
    let part = rw c.asked_after.ensures.text at c.in-Err-push_all.ensures.err in
    record {
      given = e.given;
      gives = e.gives;
      report = asked_cut a.run a.why a.told e.given (g.S.Source.ended c.judge_asked.new.source) (g.K.Sink.took a.sink.now mid) (g.K.Sink.took mid new)
          (g.K.Sink.took a.sink.now new) (g.met.K.Sink.joined a.sink.now mid new) c.in-Ok.verdict e.report part;
    }

pub returns-in-Err-clause-reported : goal.returns-in-Err-clause-reported
returns-in-Err-clause-reported g c =
    let a = c.args in
    let e = c.in-Err.ensures.reported in
    record {
      given = e.given;
      gives = e.gives;
      report = asked_fault a.run a.why a.told e.given (g.S.Source.ended c.judge_asked.new.source) (g.K.Sink.took a.sink.now c.judge_asked.new.sink)
          c.in-Err.fault e.report;
    }
