use Rattle.std.proofs.Common.{◌≡◌, ◌∙◌, ◌-◌, ◌%◌, ◌==◌, ℕ, ap, if◌then◌else◌, ne_eqb, sym}
use Rattle.std.proofs.lemmas.Bool.{cond-false}
use Rattle.cap_heap.proofs.report.gap.Goals as goal

to_next : (address number alignment unit : ℕ) → number ≡ address → unit ≡ alignment → (number % unit ≡ 0 → ⊥)
    → unit - number % unit ≡ (if address % alignment == 0 then 0 else alignment - address % alignment)
to_next address number alignment unit same unit_is over =
    let left : number % unit ≡ address % alignment = ap (λ n. n % unit) same ∙ ap (λ u. address % u) unit_is in
    ap (λ u. u - number % unit) unit_is ∙ ap (λ n. alignment - n) left
    ∙ sym (cond-false (address % alignment == 0) 0 _ (ne_eqb (address % alignment) 0 (λ none. over (left ∙ none))))

pub returns-else-over-eq0-clause-value : goal.returns-else-over-eq0-clause-value
returns-else-over-eq0-clause-value c = to_next c.args.address _ _ _ c.from.ensures c.alignment-unit.ensures.value c.if-over-eq0.false
