use Rattle.std.proofs.{Common.{ap, ◌∙◌, ◌+◌, ◌%◌, ◌^◌, ℕ, sym, subst}, lemmas.Nat.and_mask}
use Rattle.cap_bounds.specs.Bounds.{IsMantissa}
use Rattle.cap_bounds.proofs.Mantissas.{mantissa_is, IsMantissa-mantissa_of, IsMantissa-unique}
use Rattle.cap_bounds.proofs.decoding.mantissa.Goals as goal

value : goal.returns-clause-value
value c =
    let f = c.args.fields.now in
    and_mask (f.b + c.span_from.result) 14 ∙ ap (λ (x : ℕ). (f.b + x) % 2 ^ 14) c.span_from.ensures.value ∙ sym (mantissa_is f.b f.t f.ie)

pub returns-clause-value : goal.returns-clause-value
returns-clause-value c = value c

pub returns-clause-relation : goal.returns-clause-relation
returns-clause-relation c =
    let f = c.args.fields.now in
    subst (λ (x : ℕ). IsMantissa f.b f.t f.ie x) (sym (value c)) (IsMantissa-mantissa_of f.b f.t f.ie f.b_fits f.t_fits)

pub returns-clause-unique : goal.returns-clause-unique
returns-clause-unique c = λ t is.
    let f = c.args.fields.now in
    IsMantissa-unique f.b f.t f.ie t f.b_fits is ∙ sym (value c)
