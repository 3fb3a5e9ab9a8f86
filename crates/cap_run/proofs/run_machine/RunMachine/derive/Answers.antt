use Rattle.std.proofs.Common.{false, subst, sym, ◌∙◌}
use Rattle.cap_word.specs.declared.word.Cap.{Cap}
use Rattle.cap_run_log.specs.declared.lines.{Derive.Derive as Line, RunStep.TheVariants.Derive}
use Rattle.cap_run.specs.{Numbers.numbered_run, Run.register_key, RunChanges.run_after, RunChecks.Answers, RunOf.{run_owners, run_state}, RunSteps.{derive_end, derived_refusal, step_limit}}
use Rattle.cap_run.proofs.{EndLemmas.neither, HandingLemmas.none_of, RunNumberLemmas.writes-numbered}
use Rattle.cap_run.proofs.run_machine.RunMachine.derive.Goals as goal

pub returns-then-gets-clause-outcome : goal.returns-then-gets-clause-outcome
returns-then-gets-clause-outcome g c =
    let s = c.args.self.now in
    let n = c.write_alone.new.self in
    let step = c.args.derive in
    let key = register_key step.source in
    let gets = rw (c.register-target.ensures.register, c.register-source.ensures.register) at c.gets.ensures.value in
    let writes = rw (c.register-target.ensures.register, c.register-source.ensures.register) at c.write_alone.ensures.writes in (
      neither (derived_refusal step.target (run_state s.machine s.specials key) step.result) (step_limit (numbered_run s.machine s.specials s.objects))
          (gets c.if-gets.true) (sym c.step_limit.ensures.value ∙ none_of c.step_limit.result c.if-is_none.ensures),
      writes-numbered s.machine n.machine s.specials n.specials s.objects n.objects n.specials.registers.sized.1 n.counted s.objects.kept.numbered n.objects.kept.numbered
          (register_key step.target) (run_owners s.machine s.specials key) step.result writes,
    )

pub returns-clause-outcome : goal.returns-clause-outcome
returns-clause-outcome g c =
    let s = c.args.self.now in
    let n = c.derive_apart.new.self in
    let old = numbered_run s.machine s.specials s.objects in
    let answers : Line → Type 0 = λ step. Answers (derive_end old step) (run_after old (Derive step)) false old c.derive_apart.result
    (numbered_run n.machine n.specials n.objects) in
    let made = rw (c.register-target.ensures.register, c.register-source.ensures.register) at c.derive_apart.ensures.outcome in
    subst (λ (k : Cap). answers (record c.args.derive { result = k })) c.anew.ensures made
