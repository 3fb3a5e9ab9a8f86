use Rattle.std.proofs.{Common.{rules, ◌∙◌, subst, w64, to_z, of_z, FitsSigned}, lemmas.Int.to_z-of_z}
use mir.Syntax.{w16}
use Rattle.cap_halves.specs.Passed.{cap_of}
use Rattle.capcheck_c.specs.Answers.{AnswersAccess}
use Rattle.capcheck_c.proofs.accesses.access_from.Goals as goal

-- An offset that fits is the same in 16 bits.
pub returns : goal.returns
returns c =
    let wide = to_z-of_z w64 c.args.offset c.ranges.offset in
    let fits : FitsSigned w16 (to_z w64 (of_z w64 c.args.offset)) = search rules in
    subst (λ o. AnswersAccess (cap_of c.args.authority) c.args.kind o c.args.size c.access_through.result)
    (to_z-of_z w16 (to_z w64 (of_z w64 c.args.offset)) fits ∙ wide) c.access_through.ensures
