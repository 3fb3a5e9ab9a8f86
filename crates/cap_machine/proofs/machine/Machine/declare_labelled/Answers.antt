use Rattle.std.proofs.Common.{◌≡◌, sym, ◌∙◌, subst, ◌+◌, rules, ap}
use Rattle.cap_machine.specs.{Helds.{Held, account_of}, Labels.with_labelled_root}
use Rattle.cap_machine.proofs.LabelLemmas.{rooted-with}
use Rattle.cap_machine.proofs.machine.Machine.declare_labelled.Goals as goal

pub returns : goal.returns
returns g c =
    let old = c.args.self.now in
    record {
      outcome = (
        sym c.root_fault.ensures ∙ c.in_default.is,
        subst (λ (held : Held). account_of (record held { roots = held.roots + 1 }) ≡ with_labelled_root (account_of old) c.args.place c.args.word c.args.label)
            (sym (c.self.view_is ∙ c.in_ok-place_labelled.ensures.ok))
            (rooted-with old c.args.place c.args.word c.args.label (search rules) (search rules) c.requires.in_range (search rules)),
      );
    }
