use Rattle.std.proofs.Common.{rules, ◌≡◌, option_map, ℕ, List, [], ◌++◌, ◌∙◌, ap, subst, sym}
use Rattle.cap_context.specs.{declared.keepings.Kept.Kept, Keepings.IsKept}
use Rattle.capdiag.specs.{Judgings.{ShowsJudged, StopsJudged, kind_of}, Renderings.rendered}
use Rattle.capdiag.proofs.RenderingLemmas.{kept_done, kept_read}
use Rattle.capdiag.proofs.renderings.judge_kept.Goals as goal

pub returns : goal.returns
returns g c =
    let e = c.judge_source-done.ensures in
    let o = c.push_report.ensures in
    let given = e.done.0 in
    let gives = e.done.1 in
    let kind = kind_of c.args.judging in
    let name = option_map (λ it. it.now) c.args.name in
    let shows = ShowsJudged c.args.judging given in
    let stops = StopsJudged c.args.judging given in
    let new_source = c.judge_source-done.new.source.source.now in
    let ended = g.S.Source.ended new_source in
    let took = g.K.Sink.took c.args.sink.now c.push_report.new.sink in
    let source_is = c.source-1.given.1 (search rules) in
    let kept_is = c.kept-2-1.given.1 (search rules) in
    let empty : c.new.result.writer.now.items ≡ [] = search rules in
    let report = c.report-2-1.given.0.items in
    let report_is : c.judge_source-done.new.sink.writer.ghost_name ≡ c.new.result.writer.ghost_name
    → report ≡ c.judge_source-done.new.sink.writer.now.items = λ same. search (rules, c.report-2-1.given.1) in
    let fresh : IsKept c.new-recorder.result.kept.now [] = subst (λ (k : Kept). IsKept k []) (sym c.new-recorder.ensures.kept) c.new-kept.ensures.empty in
    let held_is : c.kept-2-1.given.0 ≡ c.judge_source-done.new.source.kept.now = search (rules, kept_is) in
    let put = rw c.kind_of.ensures.value at (o.put given (subst (λ (k : Kept). IsKept k given) (sym held_is) (gives.3 [] fresh))) in
    let done = c.judge_source-done.result in
    let answer = c.push_report.result in
    rw source_is (record {
      done = (
        given,
        rw c.new-recorder.ensures.source at gives.2,
        kept_done c.args.form name kind given shows stops ended report _
            (λ text told. report_is told.0 ∙ told.1 ∙ ap (λ (held : List ℕ). held ++ text) empty) took done answer e.done.2 put,
      );
      read = kept_read (rendered c.args.form name kind given report) took _ _ done answer put (rw c.new-recorder.ensures.source at e.read);
      written = o.written;
    })
