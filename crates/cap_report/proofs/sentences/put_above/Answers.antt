use Rattle.std.proofs.Common.{◌≡◌, ◌++◌, ◌-◌, ◌<◌, ℕ, List, [], codes, lt-ltb, nat_lt, subst, sym}
use Rattle.std.proofs.lemmas.Bool.{cond-true}
use Rattle.cap_streams.specs.Written.{Writes, ◌⨾◌}
use Rattle.cap_report.specs.Sentences.{above_text, size_text}
use Rattle.cap_report.proofs.sentences.put_above.Goals as goal

above : (top high : ℕ) → high < top → codes "ends " ++ size_text (top - high) ++ codes " above " ≡ above_text top high
above top high more = sym (cond-true (nat_lt high top) _ [] (lt-ltb high top more))

pub returns-then-high-top-clause-written : goal.returns-then-high-top-clause-written
returns-then-high-top-clause-written c =
    subst (λ (text : List ℕ). Writes c.args.at text c.args.buffer.now c.put.new.buffer c.put.result) (above c.args.top c.args.high c.if-high-top.true)
    (c.put-at.ensures.written ⨾ c.put_size-at.ensures.written ⨾ c.put.ensures.written)
