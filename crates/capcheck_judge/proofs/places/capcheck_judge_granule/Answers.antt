use Rattle.std.proofs.Common.{◌≡◌, ◌∙◌, ◌/◌, ap, sym, Some}
use Rattle.cap_machine.specs.States.{granule_key}
use Rattle.capcheck_judge.proofs.HandleLemmas.{held_state}
use Rattle.capcheck_judge.proofs.places.capcheck_judge_granule.Goals as goal

pub returns-in-Some-clause-granule : goal.returns-in-Some-clause-granule
returns-in-Some-clause-granule c = λ bytes holds.
    let is : c.args.judge.now.judge ≡ Some c.deref.result.now = c.in-Some.ensures.taken ∙ ap Some (sym c.deref.ensures) in (
      c.there.ensures.present,
      c.there.ensures.cap
          ∙ held_state c.args.judge.now.judge bytes holds c.deref.result.now is c.granule-cap.result
          (granule_key (c.args.address / 16)) c.granule-cap.ensures.holds,
    )
