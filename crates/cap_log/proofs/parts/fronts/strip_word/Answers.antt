use Rattle.std.proofs.Common.{◌≡◌, ◌∷◌, ap, take, ◌∙◌, rules, take_at}
use Rattle.cap_log.proofs.Cuts.{text_in_front}
use Rattle.cap_log.proofs.parts.fronts.strip_word.Goals as goal

pub returns-then-ne-clause-none : goal.returns-then-ne-clause-none
returns-then-ne-clause-none g c = λ rest e.
    let other : c.in_ok-front.front.now ≡ c.args.text.now → ⊥ = search rules in
    other (c.in_ok-front.ensures.cases.0 ∙ ap (take _) e ∙ take_at c.args.text.now (c.args.end ∷ rest) _ c.told-text)

pub returns-then-first-end-clause-some : goal.returns-then-first-end-clause-some
returns-then-first-end-clause-some g c =
    let same : c.in_ok-front.front.now ≡ c.args.text.now = search rules in
    let cases = c.in_ok-front.ensures.cases in
    text_in_front _ _ _ _ _ _ _ _ cases.0 cases.1 same c.in_ok-first.ensures.cases.0 c.if-first-end.true
