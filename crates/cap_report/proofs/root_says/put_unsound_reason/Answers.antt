use Rattle.std.proofs.Common.{◌≡◌, ◌∙◌, ◌^◌, ◌<◌, ◌≤◌, ℕ, List, arith, codes, le-ltb, lt-ltb, nat_lt, subst, sym}
use Rattle.std.proofs.lemmas.Bool.{cond-false, cond-true}
use Rattle.cap_bounds.specs.Bounds.{base_of, top_of}
use Rattle.cap_streams.specs.Written.{Writes}
use Rattle.cap_report.specs.Says.{high_top_text, unsound_reason}
use Rattle.cap_report.proofs.root_says.put_unsound_reason.Goals as goal

high_top : (w top : ℕ) → top ≡ top_of w → 2 ^ 64 < top → high_top_text (top_of w) ≡ unsound_reason w
high_top w top is above = sym (cond-true (nat_lt (2 ^ 64) (top_of w)) _ _ (lt-ltb (2 ^ 64) (top_of w) (omega arith)))

not_so_far : (w top base : ℕ) → top ≡ top_of w → base ≡ base_of w → top ≤ 2 ^ 64 → base ≤ top
    → codes "from base to top isn't as far as from B to T" ≡ unsound_reason w
not_so_far w top base top_is base_is within ordered =
    sym (cond-false (nat_lt (2 ^ 64) (top_of w)) _ _ (le-ltb (2 ^ 64) (top_of w) (omega arith))
    ∙ cond-false (nat_lt (top_of w) (base_of w)) _ _ (le-ltb (top_of w) (base_of w) (omega arith)))

pub returns-then-range-clause-written : goal.returns-then-range-clause-written
returns-then-range-clause-written c =
    subst (λ (text : List ℕ). Writes c.args.at text c.args.buffer.now c.put_high_top.new.buffer c.put_high_top.result)
    (high_top c.args.word.0 c.bounds-range.result.top c.bounds-range.ensures.top c.if-range.true) c.put_high_top.ensures.written

pub returns-else-range-from-clause-written : goal.returns-else-range-from-clause-written
returns-else-range-from-clause-written c =
    let put = c.put-else-range-from in
    subst (λ (text : List ℕ). Writes c.args.at text c.args.buffer.now put.new.buffer put.result)
    (not_so_far c.args.word.0 c.bounds-range.result.top c.from.result c.bounds-range.ensures.top (c.from.ensures ∙ c.bounds-range.ensures.base)
    (omega arith) c.if-range-from.false) put.ensures.written
