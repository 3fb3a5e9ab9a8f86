use Rattle.std.proofs.Common.{ap, arith, get_or, sym, ◌∙◌, ℕ, List}
use Rattle.cap_log.specs.declared.lines.Place.{Place}
use Rattle.cap_run_log.proofs.parts.GranulePart.take.Goals as goal

pub returns-in_default-clause-none : goal.returns-in_default-clause-none
returns-in_default-clause-none c granule = c.in_default.ensures.none (Place.Granule granule.0)

pub returns-in-Register-clause-none : goal.returns-in-Register-clause-none
returns-in-Register-clause-none c granule rest begins =
    let named = rw c.in-Register.is at c.in-Some.ensures.some in
    omega (arith, ap (λ (bs : List ℕ). get_or bs 0 0) (sym named.1 ∙ begins.1))
