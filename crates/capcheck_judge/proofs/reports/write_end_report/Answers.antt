use Rattle.std.proofs.{Common.{◌≢◌, List, append-nil, arith, rules, subst, ℕ}, lemmas.List.Elements.All-nil}
use Rattle.cap_report.specs.{Texts.IsTold, Whys.ExplainsEnd}
use Rattle.cap_report.proofs.TextLemmas.{told_from}
use Rattle.capcheck_judge.proofs.reports.write_end_report.Goals as goal

pub returns-in-Ok : goal.returns-in-Ok
returns-in-Ok c = λ bytes read.
    let ended = c.in-Ok.ensures.ok bytes read (omega arith, All-nil (λ b. b ≢ 10)) in
    record {
      verdict = ended.0;
      text = ended.1;
      explains = subst (λ (b : List ℕ). ExplainsEnd b ended.0 ended.1) (append-nil bytes) ended.2;
      few = ended.4;
      told = subst (λ n. IsTold 0 c.length.result ended.1 c.args.text.now n) (search rules)
          (told_from c.new-sink.result c.push_ending.new.sink ended.1 c.args.text.now c.length.result c.new-sink.ensures.none
          c.new-sink.ensures.room c.length.ensures.count ended.3);
    }

pub returns-in-Err : goal.returns-in-Err
returns-in-Err c = λ bytes read. absurd (omega (arith, c.in-Err.ensures.counted))
