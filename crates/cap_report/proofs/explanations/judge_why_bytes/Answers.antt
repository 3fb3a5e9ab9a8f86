use Rattle.cap_judge.proofs.EscapeLaws.{names_escapes}
use Rattle.cap_report.proofs.explanations.judge_why_bytes.Goals as goal

pub returns : goal.returns
returns g c =
    let all = c.judge_bytes_keeping.ensures.judged in record {
      explained = c.push_judging.ensures.explained c.args.bytes.now _ all.answer all.leads all.stops;
      pulls_nothing = λ is. all.pulls_nothing (c.push_judging.ensures.pulls.0 is);
      full = λ is. c.judge_bytes_keeping.ensures.full (c.push_judging.ensures.lacks is);
      escape = names_escapes c.push_judging.result;
      pushes_counted = c.push_judging.ensures.pushes_counted;
    }
