use Rattle.std.proofs.Common.{◌≡◌, ◌∙◌, ◌∷◌, [], ℕ, Bool, Ok, ap, arith, eq-eqb, not, refl, sym, subst}
use Rattle.cap_ops.specs.{Checks.first_of, declared.refusal.Refusal.TheVariants.WrongCount}
use Rattle.cap_log.specs.declared.lines.Line.{Line}
use Rattle.cap_machine.specs.Helds.{Held, account_of}
use Rattle.cap_judge.specs.Readings.{AnswersLine, known_of}
use Rattle.cap_judge.specs.declared.judges.Due as code
use Rattle.cap_judge.specs.declared.judges.Due.TheVariants as dues
use Rattle.cap_judge.proofs.TurnLemmas.{by_checks, root_outcome, step_outcome}
use Rattle.cap_judge.proofs.judges.Judge.follow_body.Goals as goal

pub returns-in-Step : goal.returns-in-Step
returns-in-Step g c =
    step_outcome c.args.self.now.due c.args.self.now.machine c.step.new.self c.args.line.now c.in-Step.step c.step.result c.requires.body
    c.in-Step.is c.step.ensures.outcome

pub returns-else-steps-gt0 : goal.returns-else-steps-gt0
returns-else-steps-gt0 g c =
    let few : c.args.self.now.machine.steps ≡ 0 = (let counted = c.steps.ensures.value in omega arith) in
    subst (λ (l : Line). AnswersLine (known_of c.args.self.now) l c.declare.result (known_of (record c.args.self.now { machine = c.declare.new.self })))
    (sym c.in-Root.is)
    (root_outcome c.args.self.now.due c.args.self.now.machine c.declare.new.self c.in-Root.place c.in-Root.word c.declare.result
    c.requires.body few c.declare.ensures.outcome)

-- the end line, where its count is that of the steps
end_outcome : (stage : code.Due) (held : Held) (line : Line) (count : ℕ) → stage ≡ dues.Body → line ≡ Line.End count → count ≡ held.steps
    → AnswersLine (record { held = held; due = stage }) line (Ok tt) (record { held = held; due = dues.Ended })
end_outcome stage held line count is same counted =
    let checked = by_checks (account_of held) (Line.End count) refl in
    let passed = ap (λ (equal : Bool). first_of ((not equal, WrongCount) ∷ [])) (eq-eqb count held.steps counted) in
    rw (is, same) ((checked ∙ passed, refl), refl)

pub returns-else-count-steps : goal.returns-else-count-steps
returns-else-count-steps g c =
    end_outcome c.args.self.now.due c.args.self.now.machine c.args.line.now c.in-End.count c.requires.body c.in-End.is
    (c.if-count-steps.false ∙ c.steps-in-End.ensures.value)
