use Rattle.std.proofs.Common.{None, ap, sym, ◌∙◌, ◌≡◌, false}
use Rattle.cap_word.specs.declared.word.Cap.{Cap}
use Rattle.cap_machine.specs.{Labels.untagged, States.granule_key}
use Rattle.cap_run.specs.{Numbers.numbered_run, Run.Run, RunChanges.{stepped, with_place}, RunOf.run_state}
use Rattle.cap_run.proofs.{GranuleLemmas.{counts-writes, not_false, not_true, with_named-same}, RunNumberLemmas.{fills-numbered, writes-numbered}}
use Rattle.cap_run.proofs.run_machine.RunMachine.dropped_granule.Goals as goal

pub returns-then-not-cap-clause-outcome : goal.returns-then-not-cap-clause-outcome
returns-then-not-cap-clause-outcome g c =
    let s = c.args.self.now in
    let n = c.count_step.new.self in
    let key = granule_key c.args.granule in
    let none : (run_state s.machine s.specials key).tag ≡ false =
    ap (λ (k : Cap). k.tag) (sym c.granule_cap-cap.ensures.value) ∙ not_true c.granule_cap-cap.result.tag c.if-not-cap.true in (
      sym c.step_limit.ensures.value ∙ c.in_default.is,
      writes-numbered s.machine n.machine s.specials n.specials s.objects n.objects n.specials.registers.sized.1 n.counted s.objects.kept.numbered n.objects.kept.numbered
          key None (untagged (run_state s.machine s.specials key))
          (counts-writes s.machine n.machine s.specials n.specials s.objects n.objects key none (c.granule_cap-cap.ensures.unowned (not_true c.granule_cap-cap.result.tag c.if-not-cap.true))
          c.count_step.ensures.counts),
    )

pub returns-in-Ok-clause-outcome : goal.returns-in-Ok-clause-outcome
returns-in-Ok-clause-outcome g c =
    let s = c.args.self.now in
    let n = c.fill.new.self in
    let old = numbered_run s.machine s.specials s.objects in
    let key = granule_key c.args.granule in (
      sym c.step_limit.ensures.value ∙ c.in_default.is,
      fills-numbered s.machine n.machine s.specials n.specials s.objects n.objects n.specials.registers.sized.1 n.counted s.objects.kept.numbered n.objects.kept.numbered
          c.args.granule _ c.in-Ok.ensures.outcome.1
          ∙ ap (λ (r : Run). stepped (with_place r key (untagged c.granule_cap-cap.result) None)) (with_named-same old c.args.granule (c.granule_cap-cap.ensures.named (not_false c.granule_cap-cap.result.tag c.if-not-cap.false)))
          ∙ ap (λ (k : Cap). stepped (with_place old key (untagged k) None)) c.granule_cap-cap.ensures.value,
    )
