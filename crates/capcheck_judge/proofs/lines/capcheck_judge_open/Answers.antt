use Rattle.std.proofs.Common.{◌≡◌, ℕ, arith, inl, rules}
use Rattle.cap_judge.specs.Turns.{unread, log_turns}
use Rattle.capcheck_judge.proofs.lines.capcheck_judge_open.Goals as goal
use Rattle.cap_turns.proofs.TurnLemmas.{goes_none}

pub returns-in-Ok-clause-opened : goal.returns-in-Ok-clause-opened
returns-in-Ok-clause-opened c = λ _.
    let same : c.in-Ok.opened.value ≡ c.over_pages.result = search rules in
    record {
      judge = c.in-Ok.opened.value;
      held_is = c.put.ensures;
      taken = inl (rw (same, c.over_pages.ensures.read) (goes_none log_turns unread));
    }

pub put-requires : goal.put-requires
put-requires c = record { empty = cc }

-- a refusal isn't told as 0
three : ◌≡◌ {A = ℕ} 3 0 → ⊥
three zero = omega arith

pub returns-clause-opened : goal.returns-clause-opened
returns-clause-opened c = λ zero. absurd (three zero)
