use Rattle.std.proofs.Common.{IfSome, subst, sym, ap, ◌∙◌, Option}
use Rattle.cap_log.specs.{declared.lines.Place.Place, Lines.IsPlace}
use Rattle.cap_machine.specs.{Places.place_at, States.key_of}
use Rattle.cap_machine.proofs.CodeLemmas.{place_in_range}
use Rattle.cap_machine.proofs.machine.Machine.origin.Goals as goal

pub returns-clause-in_range : goal.returns-clause-in_range
returns-clause-in_range g c =
    let coded = c.kept.ensures.kept.coded (key_of c.args.place) in
    subst (λ (o : Option Place). IfSome o IsPlace) (sym (c.place_at.ensures.value ∙ ap place_at c.code.ensures)) (place_in_range _ coded.1)
