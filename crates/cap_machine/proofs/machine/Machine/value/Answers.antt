use Rattle.std.proofs.Common.{◌≡◌, subst, sym, ◌∙◌}
use Rattle.cap_machine.specs.{Helds.{Held, state_of}, States.value_at}
use Rattle.cap_machine.proofs.MadeLemmas.{value_in}
use Rattle.cap_machine.proofs.machine.Machine.value.Goals as goal

pub returns : goal.returns
returns g c =
    let inside : Held = record {
      rules = c.self.inside.rules;
      limits = c.self.inside.limits;
      registers = c.self.inside.registers;
      codes = c.self.inside.codes;
      memory = g.M.TaggedStore.contents c.self.inside.memory;
      least_room = g.M.TaggedStore.least_room c.self.inside.memory;
      roots = c.self.inside.roots;
      steps = c.self.inside.steps;
    } in
    record {
      value =
          subst (λ (held : Held). c.number_in.result ≡ value_at (state_of held) c.args.address c.args.size) c.self.view_is
          (c.number_in.ensures.value
          ∙ sym (value_in inside c.args.address c.args.size (g.met.M.TaggedStore.are_stored c.self.inside.memory)));
    }
