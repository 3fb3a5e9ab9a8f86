use Rattle.std.proofs.Common.{◌≡◌, ℕ, List, arith, length, take}
use Rattle.std.specs.Prelude.{codes, decimal}
use Rattle.cap_streams.specs.Written.{Writes, ◌⨾◌}
use Rattle.cap_judge.specs.{VerdictLines.verdict_line, declared.verdict.Verdict.{Verdict, TheVariants.Yes}}
use Rattle.cap_judge.proofs.verdict_lines.verdict_text.Goals as goal

-- the parts of the line of a yes, one after another
yes_written : {i j k l end n m : ℕ} {first second third fourth old new : List ℕ} (verdict : Verdict) (steps roots : ℕ)
    → verdict ≡ Yes steps roots → n ≡ steps → m ≡ roots
    → Writes 0 (codes "yes ") old first i → Writes i (decimal n) first second j → Writes j (codes " ") second third k
    → Writes k (decimal m) third fourth l → Writes l (codes "\n") fourth new end
    → (take end new ≡ verdict_line verdict) × (end ≡ length (verdict_line verdict))
yes_written verdict steps roots is steps_are roots_are word steps_text space roots_text feed =
    let all = word ⨾ steps_text ⨾ space ⨾ roots_text ⨾ feed in
    let ends = all.ends in
    rw (is, ← steps_are, ← roots_are) (all.written, omega arith)

pub returns-in-Yes-clause-line : goal.returns-in-Yes-clause-line
returns-in-Yes-clause-line c =
    (yes_written c.args.verdict.now c.in-Yes.steps c.in-Yes.roots c.in-Yes.is c.from.ensures c.from-in-Yes.ensures c.put-at.ensures.written
    c.put_decimal-at.ensures.text c.put-at-in-Yes.ensures.written c.put_decimal-at-in-Yes.ensures.text c.put.ensures.written).0

pub returns-in-Yes-clause-length : goal.returns-in-Yes-clause-length
returns-in-Yes-clause-length c =
    (yes_written c.args.verdict.now c.in-Yes.steps c.in-Yes.roots c.in-Yes.is c.from.ensures c.from-in-Yes.ensures c.put-at.ensures.written
    c.put_decimal-at.ensures.text c.put-at-in-Yes.ensures.written c.put_decimal-at-in-Yes.ensures.text c.put.ensures.written).1
