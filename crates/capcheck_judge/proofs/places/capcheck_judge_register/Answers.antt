use Rattle.std.proofs.Common.{◌≡◌, ◌∙◌, ap, sym, Some}
use Rattle.capcheck_judge.proofs.HandleLemmas.{held_state}
use Rattle.capcheck_judge.proofs.places.capcheck_judge_register.Goals as goal

pub returns-in-Some-clause-register : goal.returns-in-Some-clause-register
returns-in-Some-clause-register c = λ small bytes holds.
    let is : c.args.judge.now.judge ≡ Some c.deref.result.now = c.in-Some.ensures.taken ∙ ap Some (sym c.deref.ensures) in (
      c.there.ensures.present,
      c.there.ensures.cap
          ∙ held_state c.args.judge.now.judge bytes holds c.deref.result.now is c.register-cap.result c.args.number
          c.register-cap.ensures.holds,
    )
