use Rattle.std.proofs.Common.{◌≡◌, subst, sym}
use Rattle.std.specs.Prelude.{Result}
use Rattle.cap_word.specs.declared.word.Word.{Word}
use Rattle.cap_run_log.specs.declared.lines.RunPlace.{RunPlace}
use Rattle.cap_run.specs.declared.ends.RunEnd.{RunEnd}
use Rattle.cap_run.specs.{Numbers.numbered_run, Run.Run, RunChanges.root_after, RunChecks.{Answers, root_end, root_wants}}
use Rattle.cap_run.proofs.run_machine.RunMachine.declare.Goals as goal

abbrev AnswersRoot : Run → Word → RunPlace → Result (Unit {0}) RunEnd → Run → Type 0
AnswersRoot old word place result new = Answers (root_end old place word) (root_after old place word) (root_wants old place) old result new

by_place : (old : Run) (word : Word) (place it : RunPlace) (result : Result (Unit {0}) RunEnd) (new : Run) → place ≡ it
    → AnswersRoot old word it result new → AnswersRoot old word place result new
by_place old word place it result new is = subst (λ (x : RunPlace). AnswersRoot old word x result new) (sym is)

pub returns-in-General-clause-outcome : goal.returns-in-General-clause-outcome
returns-in-General-clause-outcome g c =
    let s = c.args.self.now in
    let n = c.declare_main.new.self in
    by_place (numbered_run s.machine s.specials s.objects) c.args.word _ _ c.declare_main.result (numbered_run n.machine n.specials n.objects) c.in-General.is c.declare_main.ensures.outcome

pub returns-in-Special-clause-outcome : goal.returns-in-Special-clause-outcome
returns-in-Special-clause-outcome g c =
    let s = c.args.self.now in
    let n = c.declare_special.new.self in
    by_place (numbered_run s.machine s.specials s.objects) c.args.word _ _ c.declare_special.result (numbered_run n.machine n.specials n.objects) c.in-Special.is c.declare_special.ensures.outcome

pub returns-in-Granule-clause-outcome : goal.returns-in-Granule-clause-outcome
returns-in-Granule-clause-outcome g c =
    let s = c.args.self.now in
    let n = c.declare_main-in-Granule.new.self in
    by_place (numbered_run s.machine s.specials s.objects) c.args.word _ _ c.declare_main-in-Granule.result (numbered_run n.machine n.specials n.objects) c.in-Granule.is c.declare_main-in-Granule.ensures.outcome
