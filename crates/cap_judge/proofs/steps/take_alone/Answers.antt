use Rattle.std.proofs.{Common.{ℕ, List, ◌∷◌, ◌++◌, rules, subst}, lemmas.List.nil_from_length}
use Rattle.cap_log.specs.{declared.lines.Line.TheVariants.Step, Heads.head_spelling, Lines.{IsInRange, spelling}}
use Rattle.cap_log.specs.Parts.{Begins}
use Rattle.cap_machine.specs.Helds.{AnswersStep}
use Rattle.cap_judge.proofs.TurnLemmas.{step_answered}
use Rattle.cap_judge.proofs.steps.take_alone.Goals as goal

pub returns : goal.returns
returns g c =
    let old = c.args.machine.now in
    let new = c.perform_by.new.machine in
    let bytes = head_spelling g.I.Operands.HEAD ++ 32 ∷ c.args.operands.now in
    let read = c.in_ok-instruction in
    let step = g.I.Operands.step read.instruction in
    let none = nil_from_length read.rest.now (search rules) in
    let begins = subst (λ (r : List ℕ). Begins IsInRange spelling 10 bytes (Step step) r) none read.ensures.some in
    let answers : AnswersStep old step c.perform_by.result new = search rules in
    step_answered old new bytes step c.perform_by.result begins answers
