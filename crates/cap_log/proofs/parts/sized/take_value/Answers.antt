use Rattle.std.proofs.Common.{◌*◌, ◌∷◌, drop, sym, ap, ◌∙◌}
use Rattle.cap_word.proofs.ReadingLemmas.{drop-hex_digits}
use Rattle.cap_log.proofs.parts.sized.take_value.Goals as goal

pub returns-in_err-rest-clause-none : goal.returns-in_err-rest-clause-none
returns-in_err-rest-clause-none c = rw c.from_residual-in_err-rest.ensures (λ a rest begins.
    c.in_err-rest.ensures.none rest
    (sym (drop-hex_digits (2 * c.args.size) c.in_ok-value.value c.in_ok-value.others.now)
    ∙ ap (drop (2 * c.args.size)) (sym c.in_ok-value.ensures.some ∙ begins.1)
    ∙ drop-hex_digits (2 * c.args.size) a (c.args.end ∷ rest)))
