use Rattle.std.specs.FinMap.{len, len-empty}
use Rattle.std.proofs.Common.{◌≡◌, ◌∙◌, ap, inl, nat_cmp, rules}
use Rattle.tagmem.specs.Granules.{Entry}
use Rattle.cap_run_judge.specs.Turns.{unread, run_turns}
use Rattle.capcheck_judge.specs.RunAnswers.{asks_passed}
use Rattle.capcheck_judge.proofs.run_lines.capcheck_run_judge_open.Goals as goal
use Rattle.cap_turns.proofs.TurnLemmas.{goes_none}

pub new-unread-requires : goal.new-unread-requires
new-unread-requires c = ap len c.new.ensures.empty ∙ len-empty nat_cmp Entry

pub returns-in-Ok-clause-opened : goal.returns-in-Ok-clause-opened
returns-in-Ok-clause-opened c = λ _.
    let same : c.in-Ok.opened.value ≡ c.new-unread.result = search rules in
    record {
      judge = c.in-Ok.opened.value;
      held_is = c.put.ensures;
      taken = inl (rw (same, c.new-unread.ensures.read, c.asks_of.ensures.value) (goes_none run_turns (unread (asks_passed c.args.asks))));
    }
