use Rattle.std.proofs.Common.{◌≡◌, ℕ, ◌+◌, ◌≤◌, ◌∙◌, true, false, is_some, ap, sym}
use Rattle.cap_bounds.specs.Bounds.{cut_exponent_of}
use Rattle.cap_report.proofs.RangeLemmas.{closed_range, open_range}
use Rattle.cap_report.proofs.says.range_of.Goals as goal

pub returns-in-Some-clause-start : goal.returns-in-Some-clause-start
returns-in-Some-clause-start c =
    let narrow : 50 ≤ cut_exponent_of c.args.word.0 → ⊥ = λ wide.
    let none : true ≡ false = sym (ap is_some c.in-Some.is) ∙ c.reach.ensures.none.1 wide in absurd (cc) in
    (closed_range c.args.word.0 c.in-Some.start c.in-Some.size narrow c.in-Some.ensures.start c.in-Some.ensures.size).0

pub returns-in-Some-clause-end : goal.returns-in-Some-clause-end
returns-in-Some-clause-end c =
    let narrow : 50 ≤ cut_exponent_of c.args.word.0 → ⊥ = λ wide.
    let none : true ≡ false = sym (ap is_some c.in-Some.is) ∙ c.reach.ensures.none.1 wide in absurd (cc) in
    ap (λ (start : ℕ). start + c.from-in-Some.result) c.from.ensures ∙ ap (λ (size : ℕ). c.in-Some.start + size) c.from-in-Some.ensures
    ∙ (closed_range c.args.word.0 c.in-Some.start c.in-Some.size narrow c.in-Some.ensures.start c.in-Some.ensures.size).1

pub returns-in-None-clause-start : goal.returns-in-None-clause-start
returns-in-None-clause-start c = (open_range c.args.word.0 (c.reach.ensures.none.0 (ap is_some c.in-None.is))).0

pub returns-in-None-clause-end : goal.returns-in-None-clause-end
returns-in-None-clause-end c = (open_range c.args.word.0 (c.reach.ensures.none.0 (ap is_some c.in-None.is))).1
