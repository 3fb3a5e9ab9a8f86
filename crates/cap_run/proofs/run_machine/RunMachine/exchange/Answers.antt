use Rattle.std.proofs.Common.{false, subst, sym, ◌∙◌}
use Rattle.cap_word.specs.declared.word.Cap.{Cap}
use Rattle.cap_run_log.specs.declared.lines.RunStep.TheVariants.{Exchange}
use Rattle.cap_run_log.specs.declared.lines.RunRegister.TheVariants.{General, Special}
use Rattle.cap_run.specs.{Numbers.numbered_run, Run.register_key, RunChanges.run_after, RunChecks.Answers, RunOf.{run_owners, run_state}, RunSteps.{derived_refusal, exchange_end, or_later, step_limit}}
use Rattle.cap_run.proofs.{EndLemmas.neither, HandingLemmas.none_of, RunNumberLemmas.both-numbered}
use Rattle.cap_run.proofs.run_machine.RunMachine.exchange.Goals as goal

pub returns-then-gets-2-clause-outcome : goal.returns-then-gets-2-clause-outcome
returns-then-gets-2-clause-outcome g c =
    let s = c.args.self.now in
    let n = c.write_both_alone.new.self in
    let step = c.args.exchange in
    let limit = step_limit (numbered_run s.machine s.specials s.objects) in
    let state = run_state s.machine s.specials in
    let owners = run_owners s.machine s.specials in
    let key = register_key (Special step.special) in
    let second = derived_refusal (Special step.special) (state step.source) step.special_result in
    let gets = rw (c.number.ensures.number, c.number-2.ensures.number) at c.gets.ensures.value in
    let gets_special = rw (c.number-2.ensures.number, c.number-3.ensures.number) at c.gets-then-gets.ensures.value in
    let writes = rw (c.number.ensures.number, c.number-2.ensures.number, c.number-3.ensures.number) at c.write_both_alone.ensures.writes in (
      neither (derived_refusal (General step.target) (state key) step.result) (or_later second limit)
          (gets c.if-gets.true) (neither second limit (gets_special c.if-gets-2.true) (sym c.step_limit.ensures.value ∙ none_of c.step_limit.result c.if-is_none.ensures)),
      both-numbered s.machine n.machine s.specials n.specials s.objects n.objects n.specials.registers.sized.1 n.counted s.objects.kept.numbered n.objects.kept.numbered
          step.target key (owners key) (owners step.source) step.result step.special_result writes,
    )

pub returns-clause-outcome : goal.returns-clause-outcome
returns-clause-outcome g c =
    let s = c.args.self.now in
    let n = c.exchange_apart.new.self in
    let step = c.args.exchange in
    let old = numbered_run s.machine s.specials s.objects in
    let answers : Cap → Cap → Type 0 = λ one two. Answers (exchange_end old (record step { result = one; special_result = two }))
    (run_after old (Exchange (record step { result = one; special_result = two }))) false old
    c.exchange_apart.result (numbered_run n.machine n.specials n.objects) in
    subst (λ (k : Cap). answers k step.special_result) c.anew.ensures
    (subst (answers c.anew.result) c.anew-2.ensures c.exchange_apart.ensures.outcome)
