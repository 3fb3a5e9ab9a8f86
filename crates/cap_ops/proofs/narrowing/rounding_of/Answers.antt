use Rattle.std.proofs.{Common.{ℕ, ◌∙◌, ap}, lemmas.Bool.Decides.same_from_decides}
use Rattle.cap_ops.specs.Operations.{is_exact}
use Rattle.cap_ops.proofs.NarrowingLemmas.{IsExact-is_exact, is_exact-IsExact}
use Rattle.cap_ops.proofs.narrowing.rounding_of.Goals as goal

pub returns-clause-exact : goal.returns-clause-exact
returns-clause-exact c =
    let length = c.args.length in
    let base = c.address.result in
    same_from_decides _ (is_exact base length) c.round.ensures.exact (IsExact-is_exact base length, is_exact-IsExact base length)
    ∙ ap (λ (x : ℕ). is_exact x length) c.address.ensures.value
