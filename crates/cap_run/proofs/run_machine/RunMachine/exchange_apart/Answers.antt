use Rattle.std.proofs.Common.{sym, refl, ◌∙◌}
use Rattle.cap_run_log.specs.declared.lines.RunRegister.TheVariants.{General, Special}
use Rattle.cap_run.specs.declared.ends.RunEnd.TheVariants.{Refused}
use Rattle.cap_run.specs.{Numbers.numbered_run, Run.register_key, RunOf.{run_owners, run_state}, RunSteps.{derived_refusal, or_later, step_limit}}
use Rattle.cap_run.proofs.{EndLemmas.{first, later, neither}, RunNumberLemmas.both-numbered}
use Rattle.cap_run.proofs.run_machine.RunMachine.exchange_apart.Goals as goal

pub returns-clause-outcome : goal.returns-clause-outcome
returns-clause-outcome g c =
    let s = c.args.self.now in
    let n = c.write_both.new.self in
    let limit = step_limit (numbered_run s.machine s.specials s.objects) in
    let state = run_state s.machine s.specials in
    let owners = run_owners s.machine s.specials in
    let key = register_key (Special c.args.number) in
    let second = derived_refusal (Special c.args.number) (state c.args.source) c.args.special_recorded in
    let value = rw (c.number.ensures.number, c.number-2.ensures.number) at c.refusal_of_derived.ensures.value in
    let second_value = rw (c.number-2.ensures.number, c.number-3.ensures.number) at c.refusal_of_derived-2.ensures.value in
    let writes = rw (c.number.ensures.number, c.number-2.ensures.number, c.number-3.ensures.number) at c.write_both.ensures.writes in (
      neither (derived_refusal (General c.args.target) (state key) c.args.recorded) (or_later second limit)
          (sym value ∙ c.in_default.is)
          (neither second limit (sym second_value ∙ c.in_default-refusal_of_derived.is) (sym c.step_limit.ensures.value ∙ c.in_default-step_limit.is)),
      both-numbered s.machine n.machine s.specials n.specials s.objects n.objects n.specials.registers.sized.1 n.counted s.objects.kept.numbered n.objects.kept.numbered
          c.args.target key (owners key) (owners c.args.source) c.args.recorded c.args.special_recorded writes,
    )

pub returns-in-Some-clause-outcome : goal.returns-in-Some-clause-outcome
returns-in-Some-clause-outcome g c =
    let value = rw (c.number.ensures.number, c.number-2.ensures.number) at c.refusal_of_derived.ensures.value in
    (first _ _ c.in-Some.refusal (sym value ∙ c.in-Some.is), refl)

pub returns-in-Some-step_limit-clause-outcome : goal.returns-in-Some-step_limit-clause-outcome
returns-in-Some-step_limit-clause-outcome g c =
    let value = rw (c.number.ensures.number, c.number-2.ensures.number) at c.refusal_of_derived.ensures.value in
    let second_value = rw (c.number-2.ensures.number, c.number-3.ensures.number) at c.refusal_of_derived-2.ensures.value in
    let limit = sym c.step_limit.ensures.value ∙ c.in-Some-step_limit.is in
    let end = Refused c.in-Some-step_limit.refusal in
    let second = later _ _ end (sym second_value ∙ c.in_default-refusal_of_derived.is) limit in
    (later _ _ end (sym value ∙ c.in_default.is) second, refl)

pub write_both-requires-clause-sound : goal.write_both-requires-clause-sound
write_both-requires-clause-sound g c =
    let first = c.refusal_of_derived.ensures.within c.in_default.is in
    let second = c.refusal_of_derived-2.ensures.within c.in_default-refusal_of_derived.is in (
      λ tag. let within = first tag in within.sound tag (c.refusal_of_derived.ensures.sound (within.from_tagged tag)),
      λ tag. let within = second tag in within.sound tag (c.refusal_of_derived-2.ensures.sound (within.from_tagged tag)),
    )

pub write_both-requires-clause-first_within : goal.write_both-requires-clause-first_within
write_both-requires-clause-first_within g c = c.refusal_of_derived.ensures.within c.in_default.is

pub write_both-requires-clause-source_sound : goal.write_both-requires-clause-source_sound
write_both-requires-clause-source_sound g c = (c.refusal_of_derived.ensures.sound, c.refusal_of_derived-2.ensures.sound)

pub write_both-requires-clause-second_within : goal.write_both-requires-clause-second_within
write_both-requires-clause-second_within g c = c.refusal_of_derived-2.ensures.within c.in_default-refusal_of_derived.is
