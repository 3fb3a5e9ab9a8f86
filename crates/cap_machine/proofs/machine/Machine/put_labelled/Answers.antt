use Rattle.std.proofs.Common.{◌≡◌, length, refl, rules, slice_set, subst, sym}
use Rattle.cap_machine.specs.{Helds.{Held, account_of}, Labels.labelled}
use Rattle.cap_machine.proofs.{CodeLemmas.account-register, SoundLemmas.kept_register}
use Rattle.cap_machine.proofs.machine.Machine.put_labelled.Goals as goal

pub invariant_of-self : goal.invariant_of-self
invariant_of-self g c =
    let machine = c.self.inside in
    rw c.overwrite.ensures
    (kept_register machine.registers machine.codes (g.M.TaggedStore.contents machine.memory) c.args.target c.args.cap c.args.label
    c.self.invariant (search rules) c.requires.target c.requires.sound c.requires.coded)

pub returns-clause-account : goal.returns-clause-account
returns-clause-account g c =
    let old = c.args.self.now in
    let target = c.args.target in
    rw c.overwrite.ensures (subst (λ (held : Held). account_of (record held {
      registers = slice_set held.registers target c.args.cap;
      codes = slice_set held.codes target c.args.label;
    }) ≡ labelled (account_of old) target c.args.cap c.args.label) (sym c.self.view_is)
    (account-register old target c.args.cap c.args.label _
    (subst (λ (held : Held). length held.registers ≡ 32) c.self.view_is (search rules))
    (subst (λ (held : Held). length held.codes ≡ 32) c.self.view_is (search rules)) c.requires.target.1 refl))
