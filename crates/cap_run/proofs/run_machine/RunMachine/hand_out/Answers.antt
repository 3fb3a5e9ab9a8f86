use Rattle.std.proofs.Common.{◌≡◌, ◌+◌, ℕ, None, is_some, ap, refl, sym, subst, ◌∙◌, arith}
use Rattle.cap_word.specs.declared.word.Cap.{Cap}
use Rattle.cap_bounds.specs.Bounds.{base_of, top_of}
use Rattle.cap_machine.specs.{States.State}
use Rattle.cap_objects.specs.{Counts.Owners, Handed.{HasRoom, RefusesExtent, handed_out}, HandoutsIn.objects_of}
use Rattle.cap_run.specs.ObjectSteps.{ExtentEnds, object_refusal}
use Rattle.cap_run.specs.{Numbers.numbered_run, Owned.IsWithin, Run.moment, RunChecks.extent_end, RunOf.run_of, RunSteps.{or_later, step_limit}}
use Rattle.cap_run.proofs.AnswerLemmas.{hand-out-err, hand-out-ok}
use Rattle.cap_run.proofs.EndLemmas.{first, refusal-number}
use Rattle.cap_run.proofs.HandingLemmas.{extent-ended, hands-out-empty, hands-out-long, limit-some, long-sound, match_none, mid-owners, mid-state, none_of, refusal-none, run-same, within-new}
use Rattle.cap_run.proofs.ObjectLemmas.{to_some_and}
use Rattle.cap_run.proofs.run_machine.RunMachine.hand_out.Goals as goal

pub returns-in-Some-clause-outcome : goal.returns-in-Some-clause-outcome
returns-in-Some-clause-outcome g c =
    let s = c.args.self.now in
    let run = numbered_run s.machine s.specials s.objects in
    let w = (run.state c.args.register).word.0 in (
      first (object_refusal run c.args.register) (or_later (extent_end s.asks run None (base_of w) (top_of w)) (step_limit run)) c.in-Some.refusal
          (refusal-number s.machine s.specials s.objects s.specials.registers.sized.1 s.counted s.asks s.asked c.args.register ∙ sym c.object_refusal.ensures ∙ c.in-Some.is),
      refl,
    )

pub late_end-requires-clause-late : goal.late_end-requires-clause-late
late_end-requires-clause-late g c =
    let s = c.args.self.now in
    limit-some (run_of s.machine s.specials s.objects) (ap is_some (sym c.step_limit.ensures.value) ∙ sym c.if-is_some.ensures)

pub late_end-requires-clause-in_memory : goal.late_end-requires-clause-in_memory
late_end-requires-clause-in_memory g c =
    let s = c.args.self.now in
    let old = run_of s.machine s.specials s.objects in
    (long-sound c.register.result (old.state c.args.register) c.register.ensures.value (refusal-none old c.args.register (sym c.object_refusal.ensures ∙ c.in_default.is)).0
    c.register.ensures.sound c.bounds-bounds.result.base c.bounds-bounds.result.top c.bounds-bounds.ensures.base c.bounds-bounds.ensures.top).1

pub add_object-requires-clause-long : goal.add_object-requires-clause-long
add_object-requires-clause-long g c =
    let s = c.args.self.now in
    let old = run_of s.machine s.specials s.objects in
    (long-sound c.register.result (old.state c.args.register) c.register.ensures.value (refusal-none old c.args.register (sym c.object_refusal.ensures ∙ c.in_default.is)).0
    c.register.ensures.sound c.bounds-bounds.result.base c.bounds-bounds.result.top c.bounds-bounds.ensures.base c.bounds-bounds.ensures.top).0

pub add_object-requires-clause-in_memory : goal.add_object-requires-clause-in_memory
add_object-requires-clause-in_memory g c =
    let s = c.args.self.now in
    let old = run_of s.machine s.specials s.objects in
    (long-sound c.register.result (old.state c.args.register) c.register.ensures.value (refusal-none old c.args.register (sym c.object_refusal.ensures ∙ c.in_default.is)).0
    c.register.ensures.sound c.bounds-bounds.result.base c.bounds-bounds.result.top c.bounds-bounds.ensures.base c.bounds-bounds.ensures.top).1

pub add_object-requires-clause-few : goal.add_object-requires-clause-few
add_object-requires-clause-few g c = c.step_limit.ensures.few (none_of c.step_limit.result (sym c.if-is_some.ensures))

pub returns-then-is_some-clause-outcome : goal.returns-then-is_some-clause-outcome
returns-then-is_some-clause-outcome g c =
    let s = c.args.self.now in
    let old = run_of s.machine s.specials s.objects in
    let base : c.bounds-bounds.result.base ≡ base_of (old.state c.args.register).word.0 =
    c.bounds-bounds.ensures.base ∙ ap (λ (k : Cap). base_of k.word.0) c.register.ensures.value in
    let top : c.bounds-bounds.result.top ≡ top_of (old.state c.args.register).word.0 =
    c.bounds-bounds.ensures.top ∙ ap (λ (k : Cap). top_of k.word.0) c.register.ensures.value in
    hand-out-err s.machine s.machine s.specials s.specials s.objects s.objects s.specials.registers.sized.1 s.specials.registers.sized.1 s.counted s.counted s.asks s.asked
    c.args.register c.late_end.result
    (match_none _ _ _ (sym c.object_refusal.ensures ∙ c.in_default.is)
    (subst (λ (t : ℕ). ExtentEnds old s.objects.keeps None (base_of (old.state c.args.register).word.0) t c.late_end.result) top
    (subst (λ (b : ℕ). ExtentEnds old s.objects.keeps None b c.bounds-bounds.result.top c.late_end.result) base c.late_end.ensures))) refl

pub give-requires-clause-within : goal.give-requires-clause-within
give-requires-clause-within g c =
    let s = c.args.self.now in
    let old = run_of s.machine s.specials s.objects in
    let add = c.in-Ok.ensures in
    let capable = refusal-none old c.args.register (sym c.object_refusal.ensures ∙ c.in_default.is) in
    let base : c.bounds-bounds.result.base ≡ base_of (old.state c.args.register).word.0 =
    c.bounds-bounds.ensures.base ∙ ap (λ (k : Cap). base_of k.word.0) c.register.ensures.value in
    let top : c.bounds-bounds.result.top ≡ top_of (old.state c.args.register).word.0 =
    c.bounds-bounds.ensures.top ∙ ap (λ (k : Cap). top_of k.word.0) c.register.ensures.value in
    let new = handed_out (s.objects.count + 1) (moment old) c.bounds-bounds.result.base c.bounds-bounds.result.top in
    let state = mid-state s.machine c.add_object.new.self.machine s.specials c.add_object.new.self.specials s.objects c.add_object.new.self.objects
    c.args.register c.in-Ok.slot c.bounds-bounds.result.base c.bounds-bounds.result.top add.held add.specials base top add.ok add.count capable.0 capable.1 in
    to_some_and (objects_of c.add_object.new.self.objects c.in-Ok.slot) _ new add.ok.1.0
    (subst (λ (st : State). IsWithin (st c.args.register) new) (sym state)
    (within-new (old.state c.args.register) _ _ c.bounds-bounds.result.base c.bounds-bounds.result.top capable.0 base top (omega (arith, c.if-from-bounds.true))))

pub give-requires-clause-unowned : goal.give-requires-clause-unowned
give-requires-clause-unowned g c =
    let s = c.args.self.now in
    let old = run_of s.machine s.specials s.objects in
    let add = c.in-Ok.ensures in
    let capable = refusal-none old c.args.register (sym c.object_refusal.ensures ∙ c.in_default.is) in
    let base : c.bounds-bounds.result.base ≡ base_of (old.state c.args.register).word.0 =
    c.bounds-bounds.ensures.base ∙ ap (λ (k : Cap). base_of k.word.0) c.register.ensures.value in
    let top : c.bounds-bounds.result.top ≡ top_of (old.state c.args.register).word.0 =
    c.bounds-bounds.ensures.top ∙ ap (λ (k : Cap). top_of k.word.0) c.register.ensures.value in
    ap (λ (o : Owners). o c.args.register) (mid-owners s.machine c.add_object.new.self.machine s.specials c.add_object.new.self.specials s.objects
    c.add_object.new.self.objects c.args.register c.in-Ok.slot c.bounds-bounds.result.base c.bounds-bounds.result.top add.held add.specials base top add.ok
    add.count capable.0 capable.1) ∙ capable.1

pub returns-in-Err-clause-outcome : goal.returns-in-Err-clause-outcome
returns-in-Err-clause-outcome g c =
    let s = c.args.self.now in
    let old = run_of s.machine s.specials s.objects in
    let base : c.bounds-bounds.result.base ≡ base_of (old.state c.args.register).word.0 =
    c.bounds-bounds.ensures.base ∙ ap (λ (k : Cap). base_of k.word.0) c.register.ensures.value in
    let top : c.bounds-bounds.result.top ≡ top_of (old.state c.args.register).word.0 =
    c.bounds-bounds.ensures.top ∙ ap (λ (k : Cap). top_of k.word.0) c.register.ensures.value in
    let few : step_limit old ≡ None = sym c.step_limit.ensures.value ∙ none_of c.step_limit.result (sym c.if-is_some.ensures) in
    let is = subst (λ (t : ℕ). RefusesExtent s.objects.keeps None old.objects (base_of (old.state c.args.register).word.0) t c.in-Err.fault) top
    (subst (λ (b : ℕ). RefusesExtent s.objects.keeps None old.objects b c.bounds-bounds.result.top c.in-Err.fault) base c.in-Err.ensures.fault) in
    let n = c.add_object.new.self in
    let e = c.in-Err.ensures in
    hand-out-err s.machine n.machine s.specials n.specials s.objects n.objects s.specials.registers.sized.1 n.specials.registers.sized.1 s.counted n.counted s.asks s.asked
    c.args.register c.ended.result
    (match_none _ _ _ (sym c.object_refusal.ensures ∙ c.in_default.is)
    (subst (λ (e : _). ExtentEnds old s.objects.keeps None (base_of (old.state c.args.register).word.0) (top_of (old.state c.args.register).word.0) e)
    (sym c.ended.ensures)
    (extent-ended old s.objects.keeps None (base_of (old.state c.args.register).word.0) (top_of (old.state c.args.register).word.0) c.in-Err.fault few is)))
    (run-same s.machine n.machine s.specials n.specials s.objects n.objects e.err_rest.0 e.specials e.err_rest.1 e.err)

pub returns-then-from-bounds-clause-outcome : goal.returns-then-from-bounds-clause-outcome
returns-then-from-bounds-clause-outcome g c =
    let s = c.args.self.now in
    let old = run_of s.machine s.specials s.objects in
    let add = c.in-Ok.ensures in
    let none : object_refusal old c.args.register ≡ None = sym c.object_refusal.ensures ∙ c.in_default.is in
    let capable = refusal-none old c.args.register none in
    let base : c.bounds-bounds.result.base ≡ base_of (old.state c.args.register).word.0 =
    c.bounds-bounds.ensures.base ∙ ap (λ (k : Cap). base_of k.word.0) c.register.ensures.value in
    let top : c.bounds-bounds.result.top ≡ top_of (old.state c.args.register).word.0 =
    c.bounds-bounds.ensures.top ∙ ap (λ (k : Cap). top_of k.word.0) c.register.ensures.value in
    let room : HasRoom s.objects.keeps None old.objects (base_of (old.state c.args.register).word.0) (top_of (old.state c.args.register).word.0) =
    subst (λ (t : ℕ). HasRoom s.objects.keeps None old.objects (base_of (old.state c.args.register).word.0) t) top
    (subst (λ (b : ℕ). HasRoom s.objects.keeps None old.objects b c.bounds-bounds.result.top) base c.in-Ok.ensures.room) in
    let few : step_limit old ≡ None = sym c.step_limit.ensures.value ∙ none_of c.step_limit.result (sym c.if-is_some.ensures) in
    let n = c.give.new.self in
    hand-out-ok s.machine n.machine s.specials n.specials s.objects n.objects s.specials.registers.sized.1 n.specials.registers.sized.1 s.counted n.counted s.asks s.asked
    c.args.register c.in-Ok.slot
    (hands-out-long s.machine c.add_object.new.self.machine s.specials c.add_object.new.self.specials s.objects c.add_object.new.self.objects
    c.args.register c.in-Ok.slot c.bounds-bounds.result.base c.bounds-bounds.result.top add.held add.specials base top add.ok add.count capable.0 capable.1
    n.machine n.specials n.objects c.give.ensures.rest c.give.ensures.same.0 c.give.ensures.harts (omega (arith, c.if-from-bounds.true))
    c.give.ensures.objects c.give.ensures.state c.give.ensures.owners) (none, room, few)

pub returns-else-from-bounds-clause-outcome : goal.returns-else-from-bounds-clause-outcome
returns-else-from-bounds-clause-outcome g c =
    let s = c.args.self.now in
    let old = run_of s.machine s.specials s.objects in
    let add = c.in-Ok.ensures in
    let none : object_refusal old c.args.register ≡ None = sym c.object_refusal.ensures ∙ c.in_default.is in
    let capable = refusal-none old c.args.register none in
    let base : c.bounds-bounds.result.base ≡ base_of (old.state c.args.register).word.0 =
    c.bounds-bounds.ensures.base ∙ ap (λ (k : Cap). base_of k.word.0) c.register.ensures.value in
    let top : c.bounds-bounds.result.top ≡ top_of (old.state c.args.register).word.0 =
    c.bounds-bounds.ensures.top ∙ ap (λ (k : Cap). top_of k.word.0) c.register.ensures.value in
    let room : HasRoom s.objects.keeps None old.objects (base_of (old.state c.args.register).word.0) (top_of (old.state c.args.register).word.0) =
    subst (λ (t : ℕ). HasRoom s.objects.keeps None old.objects (base_of (old.state c.args.register).word.0) t) top
    (subst (λ (b : ℕ). HasRoom s.objects.keeps None old.objects b c.bounds-bounds.result.top) base c.in-Ok.ensures.room) in
    let few : step_limit old ≡ None = sym c.step_limit.ensures.value ∙ none_of c.step_limit.result (sym c.if-is_some.ensures) in
    let n = c.add_object.new.self in
    hand-out-ok s.machine n.machine s.specials n.specials s.objects n.objects s.specials.registers.sized.1 n.specials.registers.sized.1 s.counted n.counted s.asks s.asked
    c.args.register c.in-Ok.slot
    (hands-out-empty s.machine n.machine s.specials n.specials s.objects n.objects
    c.args.register c.in-Ok.slot c.bounds-bounds.result.base c.bounds-bounds.result.top add.held add.specials base top add.ok add.count capable.0 capable.1
    (λ some. omega (arith, some, c.if-from-bounds.false))) (none, room, few)
