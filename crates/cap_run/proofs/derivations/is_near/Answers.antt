use Rattle.std.proofs.Common.{◌≡◌, ◌/◌, ◌^◌, arith, eqb-true}
use Rattle.cap_word.specs.Fields.{address_of}
use Rattle.cap_run.proofs.DerivationLemmas.{near_keeps}
use Rattle.cap_run.proofs.derivations.is_near.Goals as goal

pub returns : goal.returns
returns c = λ is.
    let word_is = c.address.ensures.value in
    let source_is = c.address-2.ensures.value in
    let same : c.address.result / 2 ^ 11 ≡ c.address-2.result / 2 ^ 11 = eqb-true _ _ is in
    near_keeps c.args.source.0 (address_of c.args.word.0) (omega (arith, word_is, c.address.type_inv)) (omega (arith, word_is, source_is, same))
