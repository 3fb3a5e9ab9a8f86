use Rattle.std.proofs.Common.{ℕ, List, take, subst, ap, ◌∙◌}
use Rattle.cap_streams.specs.Written.{Writes, ◌⨾◌}
use Rattle.capdiag.specs.Complaints.{asked}
use Rattle.capdiag.proofs.complaints.put_question.Goals as goal

pub returns-in-Some-clause-written : goal.returns-in-Some-clause-written
unfolding asked
returns-in-Some-clause-written c =
    let whole = c.front.ensures.value ∙ ap (λ (text : List ℕ). take 64 text) c.as_bytes.ensures.value in
    let guess = subst (λ (text : List ℕ). Writes c.put-at.result text c.put-at.new.buffer c.put-at-in-Some.new.buffer c.put-at-in-Some.result) whole c.put-at-in-Some.ensures.written in
    rw c.in-Some.is (c.put-at.ensures.written ⨾ (guess ⨾ c.put.ensures.written))
