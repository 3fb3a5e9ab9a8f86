use Rattle.std.proofs.Common.{ℕ, ◌<◌, ◌^◌, sym, ◌∙◌, subst}
use Rattle.cap_bounds.specs.Bounds.{AreBounds, top_of}
use Rattle.cap_bounds.proofs.{Decoded.{AreBounds-exists, top_of-lt}, SailDecodingLemmas.{sail_base-is, sail_top-is}}
use Rattle.cap_bounds.proofs.decoding.bounds.Goals as goal

pub returns-clause-relation : goal.returns-clause-relation
returns-clause-relation c =
    let w = c.args.word.0 in
    subst (λ (x : ℕ). AreBounds w c.decode-base.result.base x) (sym c.decode-base.ensures.top)
    (subst (λ (x : ℕ). AreBounds w x (top_of w)) (sym c.decode-base.ensures.base) (AreBounds-exists w))

pub returns-clause-top_fits : goal.returns-clause-top_fits
returns-clause-top_fits c = subst (λ (x : ℕ). x < 2 ^ 65) (sym c.decode-base.ensures.top) (top_of-lt c.args.word.0)

pub returns-clause-model_base : goal.returns-clause-model_base
returns-clause-model_base c = c.decode-base.ensures.base ∙ sym (sail_base-is c.args.word.0)

pub returns-clause-model_top : goal.returns-clause-model_top
returns-clause-model_top c = c.decode-base.ensures.top ∙ sym (sail_top-is c.args.word.0)
