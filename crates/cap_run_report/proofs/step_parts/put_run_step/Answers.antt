use Rattle.std.proofs.Common.{◌≡◌, ℕ, List, [], inl, inr, refl, subst, sym}
use Rattle.cap_streams.specs.Written.{Writes, Writes-nothing}
use Rattle.cap_run.specs.{declared.ends.RunRefusal.RunRefusal, Run.Run}
use Rattle.cap_run_log.specs.declared.lines.{RunRegister.{TheVariants.{General, Special}}, RunStep.RunStep}
use Rattle.cap_run_log.specs.RunLines.{IsRunRegister}
use Rattle.cap_run_report.specs.{CapParts.{placed_in, recorded_for}, InvokedPairs.invoked_lines, StepParts.{AreRunStepLines, derived_lines, exchanged_lines}}
use Rattle.cap_run_report.proofs.StepLemmas.{target_read}
use Rattle.cap_run_report.proofs.step_parts.put_run_step.Goals as goal
use Rattle.cap_run.specs.Machines.{run_in}

abbrev Tells : Run → RunRefusal → ℕ → List ℕ → List ℕ → ℕ → RunStep → Type 0
Tells run refusal at old new end step = (told : List ℕ) × AreRunStepLines run step refusal told × Writes at told old new end

-- what is told of a step is told of what its variant says
by_variant : (run : Run) (refusal : RunRefusal) (at : ℕ) (old new : List ℕ) (end : ℕ) (step it : RunStep) → step ≡ it
    → Tells run refusal at old new end it → Tells run refusal at old new end step
by_variant run refusal at old new end step it is = subst (Tells run refusal at old new end) (sym is)

pub recorded_for-target-requires : goal.recorded_for-target-requires
recorded_for-target-requires g c =
    target_read _ (subst (IsRunRegister 1) (sym c.register.ensures.register) c.register.ensures.range)

pub put_object_step-requires-clause-register : goal.put_object_step-requires-clause-register
put_object_step-requires-clause-register g c = rw c.in-Object.is at c.requires.step

pub put_object_step-requires-in-Widen-clause-register : goal.put_object_step-requires-in-Widen-clause-register
put_object_step-requires-in-Widen-clause-register g c = (rw c.in-Widen.is at c.requires.step).0

pub put_object_step-requires-in-FreeOwner-clause-register : goal.put_object_step-requires-in-FreeOwner-clause-register
put_object_step-requires-in-FreeOwner-clause-register g c = rw c.in-FreeOwner.is at c.requires.step

pub returns-in-Drop-clause-written : goal.returns-in-Drop-clause-written
returns-in-Drop-clause-written g c =
    let none = elim c.in-Drop.is as (λ x. AreRunStepLines (run_in c.args.machine.now) c.args.step.now c.args.refusal []) [
      | inl is ↦ rw is.1 refl
      | inr is ↦ rw is.2 refl
    ] in
    ([], none, Writes-nothing)

pub returns-in-Derive-clause-written : goal.returns-in-Derive-clause-written
returns-in-Derive-clause-written g c =
    let run = run_in c.args.machine.now in
    let step = c.in-Derive.step in
    by_variant run c.args.refusal c.args.at c.args.buffer.now c.put_derived.new.buffer c.put_derived.result _ _ c.in-Derive.is (
      derived_lines (recorded_for step.target step.result) (placed_in run step.source) c.args.refusal,
      refl,
      rw (c.recorded_for-target.ensures.value, c.placed_in-source.ensures.value, c.register.ensures.register, c.register-in-Derive.ensures.register)
          at c.put_derived.ensures.written,
    )

pub returns-in-Exchange-clause-written : goal.returns-in-Exchange-clause-written
returns-in-Exchange-clause-written g c =
    let run = run_in c.args.machine.now in
    let step = c.in-Exchange.step in
    let target = recorded_for (General step.target) step.result in
    let special = recorded_for (Special step.special) step.special_result in
    by_variant run c.args.refusal c.args.at c.args.buffer.now c.put_exchanged.new.buffer c.put_exchanged.result _ _ c.in-Exchange.is (
      exchanged_lines target (placed_in run (Special step.special)) special (placed_in run (General step.source)) c.args.refusal,
      refl,
      rw (c.recorded_for-target-in-Exchange.ensures.value, c.placed_in-held.ensures.value, c.recorded_for-special.ensures.value, c.placed_in-source-in-Exchange.ensures.value, c.number.ensures.number, c.number-in-Exchange.ensures.number, c.number-in-Exchange-2.ensures.number)
          at c.put_exchanged.ensures.written,
    )

pub returns-in-Invoke-clause-written : goal.returns-in-Invoke-clause-written
returns-in-Invoke-clause-written g c =
    let run = run_in c.args.machine.now in
    let step = c.in-Invoke.step in
    by_variant run c.args.refusal c.args.at c.args.buffer.now c.put_invoked.new.buffer c.put_invoked.result _ _ c.in-Invoke.is (
      invoked_lines (placed_in run (General step.code)) (placed_in run (General step.datum)) step.code_word step.datum_word c.args.refusal,
      refl,
      rw (c.placed_in-code.ensures.value, c.placed_in-datum.ensures.value, c.number-in-Invoke.ensures.number, c.number-in-Invoke-2.ensures.number)
          at c.put_invoked.ensures.written,
    )

pub returns-in-Object-clause-written : goal.returns-in-Object-clause-written
returns-in-Object-clause-written g c =
    let run = run_in c.args.machine.now in
    by_variant run c.args.refusal c.args.at c.args.buffer.now c.put_object_step.new.buffer c.put_object_step.result _ _ c.in-Object.is
    c.put_object_step.ensures.written

pub returns-in-Widen-clause-written : goal.returns-in-Widen-clause-written
returns-in-Widen-clause-written g c =
    let run = run_in c.args.machine.now in
    by_variant run c.args.refusal c.args.at c.args.buffer.now c.put_object_step-in-Widen.new.buffer c.put_object_step-in-Widen.result _ _ c.in-Widen.is
    c.put_object_step-in-Widen.ensures.written

pub returns-in-FreeOwner-clause-written : goal.returns-in-FreeOwner-clause-written
returns-in-FreeOwner-clause-written g c =
    let run = run_in c.args.machine.now in
    by_variant run c.args.refusal c.args.at c.args.buffer.now c.put_object_step-in-FreeOwner.new.buffer c.put_object_step-in-FreeOwner.result _ _ c.in-FreeOwner.is
    c.put_object_step-in-FreeOwner.ensures.written

pub returns-in-FreeNumber-clause-written : goal.returns-in-FreeNumber-clause-written
returns-in-FreeNumber-clause-written g c =
    let run = run_in c.args.machine.now in
    by_variant run c.args.refusal c.args.at c.args.buffer.now c.put_free_step.new.buffer c.put_free_step.result _ _ c.in-FreeNumber.is
    c.put_free_step.ensures.written
