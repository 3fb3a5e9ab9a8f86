use Rattle.std.proofs.Common.{◌≡◌, ◌∙◌, ◌+◌, ◌<◌, Bool, ap, length, refl, rules, slice_set, subst, sym}
use Rattle.cap_word.specs.declared.word.Cap.{Cap}
use Rattle.cap_machine.specs.{Changes.{code_for}, Helds.{Held, IsKept, Makes, code_in}}
use Rattle.cap_machine.specs.{Helds.state_of, Parents.IsSoundCap, Places.IsCoded, Steps.row_of}
use Rattle.cap_machine.proofs.MadeLemmas.{concluded_made, concluded_past, concluded_unlike}
use Rattle.cap_machine.proofs.{MadeLemmas.{concluded_within, result_coded, result_sound}, SoundLemmas.equal_caps}
use Rattle.cap_machine.proofs.{SoundLemmas.kept_register}
use Rattle.cap_machine.proofs.machine.Machine.conclude.Goals as goal

pub returns-then-ne-clause-outcome : goal.returns-then-ne-clause-outcome
returns-then-ne-clause-outcome g c =
    concluded_unlike c.args.self.now (g.O.Operands.step c.args.step.now) c.args.target c.args.recorded c.args.given
    c.requires.writes c.requires.derives (sym c.ne.ensures ∙ c.if-ne.true)

pub returns-then-self-ge-MOST_STEPS-clause-outcome : goal.returns-then-self-ge-MOST_STEPS-clause-outcome
returns-then-self-ge-MOST_STEPS-clause-outcome g c =
    concluded_past c.args.self.now (g.O.Operands.step c.args.step.now) c.args.target c.args.recorded c.args.given
    c.requires.writes c.requires.derives (sym c.ne.ensures ∙ c.if-ne.false) (search rules)

pub invariant_of-self : goal.invariant_of-self
invariant_of-self g c =
    let machine = c.self.inside in
    let memory = g.M.TaggedStore.contents machine.memory in
    let old = c.args.self.now in
    let step = g.O.Operands.step c.args.step.now in
    let target = c.args.target in
    let recorded = c.args.recorded in
    let given = c.args.given in
    let parent = (row_of (state_of old) step).parent in
    let within = concluded_within old step target recorded given c.requires.writes c.requires.derives c.in_range.ensures.range in
    let same : given ≡ recorded = sym (equal_caps recorded given (sym c.ne.ensures ∙ c.if-ne.false)) in
    let kept = subst (λ (held : Held). IsKept held.registers held.codes held.memory) c.self.view_is c.self.invariant in
    let sound = subst IsSoundCap same (result_sound (state_of old) parent _ given kept.sound within) in
    let coded = subst (IsCoded given.tag) (sym c.requires.code.2)
    (result_coded (state_of old) (code_in old) parent _ given c.requires.code.0 kept.coded within c.requires.code.1) in
    rw (c.overwrite.ensures, c.number-target.ensures.number)
    (kept_register machine.registers machine.codes memory target recorded c.args.code c.self.invariant (search rules)
    c.number-target.ensures.range sound (subst (λ (cap : Cap). IsCoded cap.tag c.args.code) same coded))

pub returns-clause-outcome : goal.returns-clause-outcome
returns-clause-outcome g c =
    let old = c.args.self.now in
    let step = g.O.Operands.step c.args.step.now in
    let target = c.args.target in
    let recorded = c.args.recorded in
    rw (c.overwrite.ensures, c.number-target.ensures.number) (subst (λ (held : Held). Makes old step (record held {
      registers = slice_set held.registers target recorded;
      codes = slice_set held.codes target c.args.code;
      steps = held.steps + 1;
    })) (sym c.self.view_is)
    (concluded_made old step target recorded c.args.given c.requires.writes c.requires.derives c.requires.code.0 c.args.code
    (subst (λ (held : Held). length held.registers ≡ 32) c.self.view_is (search rules))
    (subst (λ (held : Held). length held.codes ≡ 32) c.self.view_is (search rules)) c.number-target.ensures.range.1 c.requires.code.1 c.requires.code.2
    (sym c.ne.ensures ∙ c.if-ne.false)
    (subst (λ (held : Held). held.steps < 4294967295) c.self.view_is c.if-self-ge-MOST_STEPS.false)))
