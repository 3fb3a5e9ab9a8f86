use Rattle.std.proofs.Common.{◌≡◌, ℕ, Some, None, is_some, min, max, ap, sym, subst, ◌∙◌, arith}
use Rattle.cap_word.specs.declared.word.Cap.{Cap}
use Rattle.cap_bounds.specs.Bounds.{base_of, top_of}
use Rattle.cap_machine.specs.States.{State}
use Rattle.cap_objects.specs.{Counts.Owners, declared.objects.Object.Object, Handed.{HasRoom, RefusesExtent, widened}, HandoutsIn.objects_of, Objects.top_of_extent}
use Rattle.cap_run.specs.{ObjectSteps.ExtentEnds, Owned.IsWithin, RunOf.run_of, RunSteps.step_limit}
use Rattle.cap_run.proofs.HandingLemmas.{extent-ended, limit-some, long-sound, none_of, refusal-none, run-same}
use Rattle.cap_run.proofs.{ObjectLemmas.{some_and, to_some_and, widened-grows}, WideningLemmas.{wide-owners, wide-state, widens-empty, widens-long, within-wide}}
use Rattle.cap_run.proofs.run_machine.RunMachine.widen_for.Goals as goal

pub late_widening-requires-clause-late : goal.late_widening-requires-clause-late
late_widening-requires-clause-late g c =
    let s = c.args.self.now in
    limit-some (run_of s.machine s.specials s.objects) (ap is_some (sym c.step_limit.ensures.value) ∙ sym c.if-is_some.ensures)

pub late_widening-requires-clause-in_memory : goal.late_widening-requires-clause-in_memory
late_widening-requires-clause-in_memory g c =
    let s = c.args.self.now in
    let old = run_of s.machine s.specials s.objects in
    (long-sound c.register.result (old.state c.args.register) c.register.ensures.value (refusal-none old c.args.register c.requires.can).0
    c.register.ensures.sound c.bounds-bounds.result.base c.bounds-bounds.result.top c.bounds-bounds.ensures.base c.bounds-bounds.ensures.top).1

pub widen_object-requires-clause-long : goal.widen_object-requires-clause-long
widen_object-requires-clause-long g c =
    let s = c.args.self.now in
    let old = run_of s.machine s.specials s.objects in
    (long-sound c.register.result (old.state c.args.register) c.register.ensures.value (refusal-none old c.args.register c.requires.can).0
    c.register.ensures.sound c.bounds-bounds.result.base c.bounds-bounds.result.top c.bounds-bounds.ensures.base c.bounds-bounds.ensures.top).0

pub widen_object-requires-clause-in_memory : goal.widen_object-requires-clause-in_memory
widen_object-requires-clause-in_memory g c =
    let s = c.args.self.now in
    let old = run_of s.machine s.specials s.objects in
    (long-sound c.register.result (old.state c.args.register) c.register.ensures.value (refusal-none old c.args.register c.requires.can).0
    c.register.ensures.sound c.bounds-bounds.result.base c.bounds-bounds.result.top c.bounds-bounds.ensures.base c.bounds-bounds.ensures.top).1

pub widen_object-requires-clause-few : goal.widen_object-requires-clause-few
widen_object-requires-clause-few g c = c.step_limit.ensures.few (none_of c.step_limit.result (sym c.if-is_some.ensures))

pub returns-then-is_some-clause-end : goal.returns-then-is_some-clause-end
returns-then-is_some-clause-end g c o there =
    let s = c.args.self.now in
    let old = run_of s.machine s.specials s.objects in
    let base : c.bounds-bounds.result.base ≡ base_of (old.state c.args.register).word.0 =
    c.bounds-bounds.ensures.base ∙ ap (λ (k : Cap). base_of k.word.0) c.register.ensures.value in
    let top : c.bounds-bounds.result.top ≡ top_of (old.state c.args.register).word.0 =
    c.bounds-bounds.ensures.top ∙ ap (λ (k : Cap). top_of k.word.0) c.register.ensures.value in
    subst (λ (t : ℕ). ExtentEnds old s.objects.keeps (Some c.args.slot) (min o.base (base_of (old.state c.args.register).word.0)) (max (top_of_extent o) t) c.late_widening.result) top
    (subst (λ (b : ℕ). ExtentEnds old s.objects.keeps (Some c.args.slot) (min o.base b) (max (top_of_extent o) c.bounds-bounds.result.top) c.late_widening.result) base
    (c.late_widening.ensures o there))

pub give-requires-clause-within : goal.give-requires-clause-within
give-requires-clause-within g c =
    let s = c.args.self.now in
    let old = run_of s.machine s.specials s.objects in
    let base : c.bounds-bounds.result.base ≡ base_of (old.state c.args.register).word.0 =
    c.bounds-bounds.ensures.base ∙ ap (λ (k : Cap). base_of k.word.0) c.register.ensures.value in
    let top : c.bounds-bounds.result.top ≡ top_of (old.state c.args.register).word.0 =
    c.bounds-bounds.ensures.top ∙ ap (λ (k : Cap). top_of k.word.0) c.register.ensures.value in
    let capable = refusal-none old c.args.register c.requires.can in
    let o = some_and (objects_of s.objects c.args.slot) _ c.requires.live in
    let set = c.in-Ok.ensures.ok o.0 o.1 in
    to_some_and (objects_of c.widen_object.new.self.objects c.args.slot) _ (widened o.0 c.bounds-bounds.result.base c.bounds-bounds.result.top) set.0
    (subst (λ (st : State). IsWithin (st c.args.register) (widened o.0 c.bounds-bounds.result.base c.bounds-bounds.result.top)) (sym (wide-state s.machine c.widen_object.new.self.machine s.specials c.widen_object.new.self.specials c.in-Ok.ensures.held c.in-Ok.ensures.specials))
    (within-wide (old.state c.args.register) o.0 c.bounds-bounds.result.base c.bounds-bounds.result.top capable.0 base top (omega (arith, c.if-bounds-from.true))))

pub give-requires-clause-unowned : goal.give-requires-clause-unowned
give-requires-clause-unowned g c =
    let s = c.args.self.now in
    let old = run_of s.machine s.specials s.objects in
    ap (λ (o : Owners). o c.args.register) (wide-owners s.machine c.widen_object.new.self.machine s.specials c.widen_object.new.self.specials c.in-Ok.ensures.held c.in-Ok.ensures.specials)
    ∙ (refusal-none old c.args.register c.requires.can).1

pub returns-in-Err-clause-end : goal.returns-in-Err-clause-end
returns-in-Err-clause-end g c o there =
    let s = c.args.self.now in
    let old = run_of s.machine s.specials s.objects in
    let base : c.bounds-bounds.result.base ≡ base_of (old.state c.args.register).word.0 =
    c.bounds-bounds.ensures.base ∙ ap (λ (k : Cap). base_of k.word.0) c.register.ensures.value in
    let top : c.bounds-bounds.result.top ≡ top_of (old.state c.args.register).word.0 =
    c.bounds-bounds.ensures.top ∙ ap (λ (k : Cap). top_of k.word.0) c.register.ensures.value in
    let few : step_limit old ≡ None = sym c.step_limit.ensures.value ∙ none_of c.step_limit.result (sym c.if-is_some.ensures) in
    let low = min o.base (base_of (old.state c.args.register).word.0) in
    let is = subst (λ (t : ℕ). RefusesExtent s.objects.keeps (Some c.args.slot) old.objects low (max (top_of_extent o) t) c.in-Err.fault) top
    (subst (λ (b : ℕ). RefusesExtent s.objects.keeps (Some c.args.slot) old.objects (min o.base b) (max (top_of_extent o) c.bounds-bounds.result.top) c.in-Err.fault) base
    (c.in-Err.ensures.fault o there)) in
    subst (λ (e : _). ExtentEnds old s.objects.keeps (Some c.args.slot) low (max (top_of_extent o) (top_of (old.state c.args.register).word.0)) e) (sym c.ended.ensures)
    (extent-ended old s.objects.keeps (Some c.args.slot) low (max (top_of_extent o) (top_of (old.state c.args.register).word.0)) c.in-Err.fault few is)

pub returns-in-Err-clause-err : goal.returns-in-Err-clause-err
returns-in-Err-clause-err g c =
    let s = c.args.self.now in
    let e = c.in-Err.ensures in
    run-same s.machine c.widen_object.new.self.machine s.specials c.widen_object.new.self.specials s.objects c.widen_object.new.self.objects e.err_rest
    e.specials e.same.0 e.err

pub returns-then-bounds-from-clause-ok : goal.returns-then-bounds-from-clause-ok
returns-then-bounds-from-clause-ok g c =
    let s = c.args.self.now in
    let old = run_of s.machine s.specials s.objects in
    let base : c.bounds-bounds.result.base ≡ base_of (old.state c.args.register).word.0 =
    c.bounds-bounds.ensures.base ∙ ap (λ (k : Cap). base_of k.word.0) c.register.ensures.value in
    let top : c.bounds-bounds.result.top ≡ top_of (old.state c.args.register).word.0 =
    c.bounds-bounds.ensures.top ∙ ap (λ (k : Cap). top_of k.word.0) c.register.ensures.value in
    let capable = refusal-none old c.args.register c.requires.can in
    let grows : (o : Object) → objects_of s.objects c.args.slot ≡ Some o → (let w = widened o c.bounds-bounds.result.base c.bounds-bounds.result.top in w.held ≡ o.held) =
    λ o there. (widened-grows o c.bounds-bounds.result.base c.bounds-bounds.result.top).2 in
    widens-long s.machine c.widen_object.new.self.machine s.specials c.widen_object.new.self.specials c.in-Ok.ensures.held c.in-Ok.ensures.specials s.objects c.widen_object.new.self.objects
    c.args.register c.args.slot c.bounds-bounds.result.base c.bounds-bounds.result.top base top c.in-Ok.ensures.ok c.in-Ok.ensures.same.0
    c.give.new.self.machine c.give.new.self.specials c.give.new.self.objects c.give.ensures.rest c.give.ensures.same.0 c.give.ensures.harts capable.0
    (omega (arith, c.if-bounds-from.true)) c.give.ensures.objects grows c.give.ensures.state c.give.ensures.owners

pub returns-else-bounds-from-clause-ok : goal.returns-else-bounds-from-clause-ok
returns-else-bounds-from-clause-ok g c =
    let s = c.args.self.now in
    let old = run_of s.machine s.specials s.objects in
    let base : c.bounds-bounds.result.base ≡ base_of (old.state c.args.register).word.0 =
    c.bounds-bounds.ensures.base ∙ ap (λ (k : Cap). base_of k.word.0) c.register.ensures.value in
    let top : c.bounds-bounds.result.top ≡ top_of (old.state c.args.register).word.0 =
    c.bounds-bounds.ensures.top ∙ ap (λ (k : Cap). top_of k.word.0) c.register.ensures.value in
    let capable = refusal-none old c.args.register c.requires.can in
    let grows : (o : Object) → objects_of s.objects c.args.slot ≡ Some o → (let w = widened o c.bounds-bounds.result.base c.bounds-bounds.result.top in w.held ≡ o.held) =
    λ o there. (widened-grows o c.bounds-bounds.result.base c.bounds-bounds.result.top).2 in
    widens-empty s.machine c.widen_object.new.self.machine s.specials c.widen_object.new.self.specials c.in-Ok.ensures.held c.in-Ok.ensures.specials s.objects c.widen_object.new.self.objects
    c.args.register c.args.slot c.bounds-bounds.result.base c.bounds-bounds.result.top base top c.in-Ok.ensures.ok c.in-Ok.ensures.same.0 capable.1
    (λ some. omega (arith, some, c.if-bounds-from.false)) grows

pub returns-then-bounds-from-clause-room : goal.returns-then-bounds-from-clause-room
returns-then-bounds-from-clause-room g c o there =
    let s = c.args.self.now in
    let old = run_of s.machine s.specials s.objects in
    let base : c.bounds-bounds.result.base ≡ base_of (old.state c.args.register).word.0 =
    c.bounds-bounds.ensures.base ∙ ap (λ (k : Cap). base_of k.word.0) c.register.ensures.value in
    let top : c.bounds-bounds.result.top ≡ top_of (old.state c.args.register).word.0 =
    c.bounds-bounds.ensures.top ∙ ap (λ (k : Cap). top_of k.word.0) c.register.ensures.value in
    subst (λ (t : ℕ). HasRoom s.objects.keeps (Some c.args.slot) old.objects (min o.base (base_of (old.state c.args.register).word.0)) (max (top_of_extent o) t)) top
    (subst (λ (b : ℕ). HasRoom s.objects.keeps (Some c.args.slot) old.objects (min o.base b) (max (top_of_extent o) c.bounds-bounds.result.top)) base
    (c.in-Ok.ensures.room o there))

pub returns-else-bounds-from-clause-room : goal.returns-else-bounds-from-clause-room
returns-else-bounds-from-clause-room g c o there =
    let s = c.args.self.now in
    let old = run_of s.machine s.specials s.objects in
    let base : c.bounds-bounds.result.base ≡ base_of (old.state c.args.register).word.0 =
    c.bounds-bounds.ensures.base ∙ ap (λ (k : Cap). base_of k.word.0) c.register.ensures.value in
    let top : c.bounds-bounds.result.top ≡ top_of (old.state c.args.register).word.0 =
    c.bounds-bounds.ensures.top ∙ ap (λ (k : Cap). top_of k.word.0) c.register.ensures.value in
    subst (λ (t : ℕ). HasRoom s.objects.keeps (Some c.args.slot) old.objects (min o.base (base_of (old.state c.args.register).word.0)) (max (top_of_extent o) t)) top
    (subst (λ (b : ℕ). HasRoom s.objects.keeps (Some c.args.slot) old.objects (min o.base b) (max (top_of_extent o) c.bounds-bounds.result.top)) base
    (c.in-Ok.ensures.room o there))

pub returns-then-bounds-from-clause-few : goal.returns-then-bounds-from-clause-few
returns-then-bounds-from-clause-few g c = sym c.step_limit.ensures.value ∙ none_of c.step_limit.result (sym c.if-is_some.ensures)

pub returns-else-bounds-from-clause-few : goal.returns-else-bounds-from-clause-few
returns-else-bounds-from-clause-few g c = sym c.step_limit.ensures.value ∙ none_of c.step_limit.result (sym c.if-is_some.ensures)
