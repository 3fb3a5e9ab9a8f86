use Rattle.std.proofs.Common.{◌/◌, ◌∙◌, ◌≡◌, ◌≢◌, ◌↔◌, Bool, IsTrue, Option, ap, refl, subst, sym, Some}
use Rattle.cap_word.specs.declared.word.Cap.{Cap}
use Rattle.cap_log.specs.declared.lines.Place.{Place, TheVariants.{Granule, Register}}
use Rattle.cap_machine.specs.States.{key_of}
use Rattle.capcheck_judge.specs.Handles.{Holds, IsPassed, origin_behind, tag_behind}
use Rattle.capcheck_judge.proofs.HandleLemmas.{held_origin, held_state, passed_some}
use Rattle.capcheck_judge.proofs.places.capcheck_judge_origin.Goals as goal

-- the root that a judge tells is that of the place
told : (c : goal.After-passed-in-Some-take) (bytes : _) (holds : Holds c.args.judge.now.judge bytes) (place : Place)
    → c.place_of.result ≡ Some place → IsPassed (origin_behind holds (key_of place)) c.passed-in-Some-take.result
told c bytes holds place named =
    let is : c.args.judge.now.judge ≡ Some c.deref.result.now = c.in-Some-take.ensures.taken ∙ ap Some (sym c.deref.ensures) in
    let some = c.in-Some.is in
    let same : c.in-Some.of ≡ place = cc (some, named) in
    let root = held_origin c.args.judge.now.judge bytes holds c.deref.result.now is c.origin-root.result (key_of c.in-Some.of)
    c.origin-root.ensures.holds in
    subst (λ (r : Option Place). IsPassed r c.passed-in-Some-take.result)
    (root ∙ ap (λ (p : Place). origin_behind holds (key_of p)) same) c.passed-in-Some-take.ensures.passed

-- and there is one exactly if the place is tagged
tells_tag : (c : goal.After-passed-in-Some-take) (bytes : _) (holds : Holds c.args.judge.now.judge bytes) (place : Place)
    → c.place_of.result ≡ Some place → (c.passed-in-Some-take.result.kind ≢ 0) ↔ IsTrue (tag_behind holds (key_of place))
tells_tag c bytes holds place named =
    let is : c.args.judge.now.judge ≡ Some c.deref.result.now = c.in-Some-take.ensures.taken ∙ ap Some (sym c.deref.ensures) in
    let some = c.in-Some.is in
    let same : c.in-Some.of ≡ place = cc (some, named) in
    let tag = c.origin-root.ensures.tagged
    ∙ ap (λ (cap : Cap). cap.tag) (held_state c.args.judge.now.judge bytes holds c.deref.result.now is _ (key_of c.in-Some.of) refl) in
    subst (λ (b : Bool). (c.passed-in-Some-take.result.kind ≢ 0) ↔ IsTrue b) (tag ∙ ap (λ (p : Place). tag_behind holds (key_of p)) same)
    (passed_some c.origin-root.result c.passed-in-Some-take.result c.passed-in-Some-take.ensures.passed)

pub returns-in-Some-take-clause-register_tag : goal.returns-in-Some-take-clause-register_tag
returns-in-Some-take-clause-register_tag c = λ kind from to bytes holds.
    tells_tag c bytes holds (Register c.args.place.number) (c.place_of.ensures.register kind from to)

pub returns-in-Some-take-clause-granule_tag : goal.returns-in-Some-take-clause-granule_tag
returns-in-Some-take-clause-granule_tag c = λ kind bytes holds.
    tells_tag c bytes holds (Granule (c.args.place.number / 16)) (c.place_of.ensures.granule kind)

pub returns-in-Some-take-clause-register : goal.returns-in-Some-take-clause-register
returns-in-Some-take-clause-register c = λ kind from to bytes holds.
    told c bytes holds (Register c.args.place.number) (c.place_of.ensures.register kind from to)

pub returns-in-Some-take-clause-granule : goal.returns-in-Some-take-clause-granule
returns-in-Some-take-clause-granule c = λ kind bytes holds.
    told c bytes holds (Granule (c.args.place.number / 16)) (c.place_of.ensures.granule kind)
