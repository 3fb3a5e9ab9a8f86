use Rattle.std.proofs.Common.{◌≡◌, ◌∙◌, ◌++◌, ◌∷◌, [], ap, refl, subst, sym, Some}
use Rattle.cap_log.specs.{declared.lines.Line.Line, Lines.spelling, Parts.IsMade}
use Rattle.capcheck_judge.specs.Takings.{TakesLine}
use Rattle.capcheck_judge.proofs.HandleLemmas.{handed}
use Rattle.capcheck_judge.proofs.steps.hand_over.Goals as goal

pub returns-in-Some-take : goal.returns-in-Some-take
returns-in-Some-take g c =
    let step_of = g.I.Operands.step in
    let wanted = g.I.Operands.meant c.args.numbers in
    let of = subst (IsMade step_of wanted) c.in-Some.is c.from_numbers.ensures.made in
    let held = c.args.judge.now.judge in
    let after = c.put.new.self.judge in
    let is : held ≡ Some c.deref_mut.result.now = c.in-Some-take.ensures.taken ∙ ap Some (sym c.deref_mut.ensures.value) in
    let new = c.take_step-state.new.judge in
    let state = c.take_step-state.result in
    let ensures = c.take_step-state.ensures in
    let takes = ensures.takes (step_of c.in-Some.step) refl in
    handed (Line.Step (step_of wanted)) held after c.deref_mut.result.now new state of.0 is c.put.ensures ensures.answers
    (subst (λ operands. TakesLine c.deref_mut.result.now (spelling (Line.Step (step_of operands)) ++ 10 ∷ []) state new) of.1 takes)
