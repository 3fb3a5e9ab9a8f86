use Rattle.std.proofs.Common.{◌+◌, ap, sym, ◌∙◌}
use Rattle.cap_run_log.specs.declared.lines.RunPlace.{RunPlace}
use Rattle.cap_run.specs.{HartPlaces.away_place, RunOf.run_owners}
use Rattle.cap_run.proofs.HartRunLemmas.{owner-away, owner-other}
use Rattle.cap_run.proofs.run_machine.RunMachine.slot_in.Goals as goal

pub returns-in-Special : goal.returns-in-Special
returns-in-Special g c =
    let s = c.args.self.now in
    record {
      value = c.slot_by-in-Special.ensures.value
          ∙ owner-away s.machine s.specials c.args.hart (32 + c.in-Special.number) c.away-in-Special.result.1 c.away-in-Special.ensures.label
          ∙ ap (λ (place : RunPlace). run_owners s.machine s.specials (away_place c.args.hart place)) (sym c.in-Special.is)
          ∙ sym (owner-other s.machine s.specials c.args.hart c.args.place (λ same. c.if-hart-current.false (same ∙ sym c.current.ensures.value)));
    }
