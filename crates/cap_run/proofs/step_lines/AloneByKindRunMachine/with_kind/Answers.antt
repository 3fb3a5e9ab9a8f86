use Rattle.std.proofs.{Common.{ℕ, List, ◌∷◌, ◌++◌, rules, subst}, lemmas.List.nil_from_length}
use Rattle.cap_log.specs.{declared.lines.Line.TheVariants.Step, Heads.head_spelling, Lines.{IsInRange, spelling}}
use Rattle.cap_log.specs.Parts.{Begins}
use Rattle.cap_log.specs.declared.kinds.Step.{Step as StepIn}
use Rattle.cap_run.specs.{Numbers.numbered_run, RunChanges.usual_after, RunChecks.{Answers, usual_end, usual_wants}}
use Rattle.cap_run.proofs.StepTakingLemmas.{step_begins}
use Rattle.cap_run.proofs.step_lines.AloneByKindRunMachine.with_kind.Goals as goal

pub returns : goal.returns
returns g c =
    let bytes = head_spelling g.I.Operands.HEAD ++ 32 ∷ c.args.operands.now in
    let read = c.in_ok-step in
    let step = g.I.Operands.step read.step in
    let none = nil_from_length read.rest.now (search rules) in
    let begins = subst (λ (r : List ℕ). Begins IsInRange spelling 10 bytes (Step step) r) none read.ensures.some in
    let run = c.args.run.now in
    let old = numbered_run run.machine run.specials run.objects in
    let n = c.make_usual.new.self in
    let outcome = subst (λ (s : StepIn). Answers (usual_end run.asks old s) (usual_after old s) (usual_wants old s) old c.make_usual.result
    (numbered_run n.machine n.specials n.objects)) c.into_step.ensures.step c.make_usual.ensures.outcome in
    record { done = (step, step_begins bytes _ step begins, outcome, c.make_usual.ensures.asks) }
