use Rattle.std.proofs.Common.{sym, ◌∙◌, subst, ◌+◌, rules}
use Rattle.cap_machine.specs.Helds.{Held, TakesRoot}
use Rattle.cap_machine.proofs.RootLemmas.{took}
use Rattle.cap_machine.proofs.machine.Machine.declare.Goals as goal

pub returns : goal.returns
returns g c =
    let old = c.args.self.now in
    record {
      outcome =
          subst (λ (held : Held). TakesRoot old c.args.place c.args.word (record held { roots = held.roots + 1 }))
          (sym (c.self.view_is ∙ c.in_ok-place_root.ensures.ok))
          (took old c.args.place c.args.word (search rules) (search rules) c.requires (search rules)
          (sym c.root_fault.ensures ∙ c.in_default.is));
    }
