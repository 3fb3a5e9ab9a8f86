use Rattle.std.proofs.Common.{◌≡◌, option_map, rules, sym, true}
use Rattle.capdiag.specs.{Forms.is_kept, Judgings.{ShowsJudged, StopsJudged, kind_of}}
use Rattle.capdiag.proofs.RenderingLemmas.{plain_done}
use Rattle.capdiag.proofs.renderings.judge_as.Goals as goal

pub returns-then-is_kept-clause-done : goal.returns-then-is_kept-clause-done
returns-then-is_kept-clause-done g c =
    let kept : is_kept c.args.form (option_map (λ it. it.now) c.name_of-name.result) ≡ true = search rules in
    rw (sym c.name_of-name.ensures.value) (rw kept c.judge_kept.ensures.done)

pub returns-else-is_kept-clause-done : goal.returns-else-is_kept-clause-done
returns-else-is_kept-clause-done g c =
    let e = c.judge_source.ensures in rw (sym c.name_of-name.ensures.value) (
      e.done.0,
      e.done.1,
      plain_done (kind_of c.args.judging) e.done.0 (ShowsJudged c.args.judging e.done.0) (StopsJudged c.args.judging e.done.0) (g.S.Source.ended c.judge_source.new.source)
          (g.K.Sink.took c.args.sink.now c.judge_source.new.sink) c.args.form.look c.args.form.context (option_map (λ it. it.now) c.name_of-name.result) c.judge_source.result (search rules) e.done.2,
    )
