use Rattle.std.specs.FinMap.{len, len-empty}
use Rattle.std.proofs.Common.{ap, ◌∙◌, nat_cmp}
use Rattle.tagmem.specs.Granules.{Entry}
use Rattle.cap_judge.proofs.EscapeLaws.{names_escapes}
use Rattle.cap_report.proofs.explanations.judge_why.Goals as goal

pub judge_keeping-requires : goal.judge_keeping-requires
judge_keeping-requires g c = ap len c.new.ensures.empty ∙ len-empty nat_cmp Entry

pub returns : goal.returns
returns g c =
    let by = c.judge_keeping.ensures.judged in
    let counts = c.judge_keeping.ensures.counted in
    let pulls = c.push_judging.ensures.pulls in record {
      explained = record {
        given = by.judged.given;
        gives = by.judged.gives;
        report = c.push_judging.ensures.explained by.judged.given (g.S.Source.ended c.judge_keeping.new.source) by.judged.answer by.leads by.stops;
      };
      escape = names_escapes c.push_judging.result;
      pulls_counted = (λ other. counts.0 (λ is. other (pulls.1 is)), λ is. counts.1 (pulls.0 is));
      pushes_counted = c.push_judging.ensures.pushes_counted;
    }
