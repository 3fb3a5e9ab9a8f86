use Rattle.std.proofs.Common.{◌≡◌, subst, sym}
use Rattle.std.specs.Prelude.{Result}
use Rattle.cap_run_log.specs.declared.lines.RunStep.{RunStep}
use Rattle.cap_run.specs.declared.{asks.Asks.Asks, ends.RunEnd.RunEnd}
use Rattle.cap_run.specs.{Numbers.numbered_run, Run.Run, RunChanges.run_after, RunChecks.{Answers, run_end, run_wants}}
use Rattle.cap_run.proofs.run_machine.RunMachine.make.Goals as goal

abbrev AnswersStep : Asks → Run → RunStep → Result (Unit {0}) RunEnd → Run → Type 0
AnswersStep asks old step result new = Answers (run_end asks old step) (run_after old step) (run_wants old step) old result new

-- the answer to a step is that to what its variant says
by_variant : (asks : Asks) (old : Run) (step it : RunStep) (result : Result (Unit {0}) RunEnd) (new : Run) → step ≡ it
    → AnswersStep asks old it result new → AnswersStep asks old step result new
by_variant asks old step it result new is = subst (λ (x : RunStep). AnswersStep asks old x result new) (sym is)

pub returns-in-Derive-clause-outcome : goal.returns-in-Derive-clause-outcome
returns-in-Derive-clause-outcome g c =
    let s = c.args.self.now in
    let n = c.derive.new.self in
    by_variant s.asks (numbered_run s.machine s.specials s.objects) _ _ c.derive.result (numbered_run n.machine n.specials n.objects) c.in-Derive.is c.derive.ensures.outcome

pub returns-in-Exchange-clause-outcome : goal.returns-in-Exchange-clause-outcome
returns-in-Exchange-clause-outcome g c =
    let s = c.args.self.now in
    let n = c.exchange.new.self in
    by_variant s.asks (numbered_run s.machine s.specials s.objects) _ _ c.exchange.result (numbered_run n.machine n.specials n.objects) c.in-Exchange.is c.exchange.ensures.outcome

pub returns-in-Invoke-clause-outcome : goal.returns-in-Invoke-clause-outcome
returns-in-Invoke-clause-outcome g c =
    let s = c.args.self.now in
    let n = c.invoke.new.self in
    by_variant s.asks (numbered_run s.machine s.specials s.objects) _ _ c.invoke.result (numbered_run n.machine n.specials n.objects) c.in-Invoke.is c.invoke.ensures.outcome

pub returns-in-Drop-clause-outcome : goal.returns-in-Drop-clause-outcome
returns-in-Drop-clause-outcome g c =
    let s = c.args.self.now in
    let n = c.dropped.new.self in
    by_variant s.asks (numbered_run s.machine s.specials s.objects) _ _ c.dropped.result (numbered_run n.machine n.specials n.objects) c.in-Drop.is c.dropped.ensures.outcome

pub returns-in-Fill-clause-outcome : goal.returns-in-Fill-clause-outcome
returns-in-Fill-clause-outcome g c =
    let s = c.args.self.now in
    let n = c.filled.new.self in
    by_variant s.asks (numbered_run s.machine s.specials s.objects) _ _ c.filled.result (numbered_run n.machine n.specials n.objects) c.in-Fill.is c.filled.ensures.outcome

pub returns-in-Object-clause-outcome : goal.returns-in-Object-clause-outcome
returns-in-Object-clause-outcome g c =
    let s = c.args.self.now in
    let n = c.hand_out.new.self in
    by_variant s.asks (numbered_run s.machine s.specials s.objects) _ _ c.hand_out.result (numbered_run n.machine n.specials n.objects) c.in-Object.is c.hand_out.ensures.outcome

pub returns-in-Widen-clause-outcome : goal.returns-in-Widen-clause-outcome
returns-in-Widen-clause-outcome g c =
    let s = c.args.self.now in
    let n = c.widen.new.self in
    by_variant s.asks (numbered_run s.machine s.specials s.objects) _ _ c.widen.result (numbered_run n.machine n.specials n.objects) c.in-Widen.is c.widen.ensures.outcome

pub returns-in-FreeOwner-clause-outcome : goal.returns-in-FreeOwner-clause-outcome
returns-in-FreeOwner-clause-outcome g c =
    let s = c.args.self.now in
    let n = c.free_owner.new.self in
    by_variant s.asks (numbered_run s.machine s.specials s.objects) _ _ c.free_owner.result (numbered_run n.machine n.specials n.objects) c.in-FreeOwner.is c.free_owner.ensures.outcome

pub returns-in-FreeNumber-clause-outcome : goal.returns-in-FreeNumber-clause-outcome
returns-in-FreeNumber-clause-outcome g c =
    let s = c.args.self.now in
    let n = c.free_by_number.new.self in
    by_variant s.asks (numbered_run s.machine s.specials s.objects) _ _ c.free_by_number.result (numbered_run n.machine n.specials n.objects) c.in-FreeNumber.is c.free_by_number.ensures.outcome
