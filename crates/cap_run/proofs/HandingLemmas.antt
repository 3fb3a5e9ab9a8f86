-- Steps that hand out objects.
use Rattle.std.specs.FinMap as map
use Rattle.std.proofs.{Common.{◌≡◌, ◌==◌, ◌+◌, ◌-◌, ◌<◌, ◌≤◌, ◌^◌, ◌&&◌, not, nat_le, nat_lt, ℕ, Bool, true, false, Some, None, Option, inl, inr}, Math.Path.fun_ext}
use Rattle.std.proofs.Common.{if◌then◌else◌, is_some, MatchOption, le-ltb, lt-ltb, refl, sym, ap, subst, ◌∙◌, arith}
use Rattle.std.proofs.lemmas.{Bool.{and_parts, cases_Bool, cases_lt, cond-true, cond-false, false≢true, lt-leb, Decides.{eqb_tells, nat_tests}}, Option.{none-some}}
use Rattle.cap_word.specs.declared.word.Cap.{Cap}
use Rattle.cap_bounds.specs.Bounds.{base_of, top_of}
use Rattle.cap_ops.specs.Permissions.{is_sealed}
use Rattle.tagmem.specs.Granules.{Granules}
use Rattle.cap_machine.specs.{Helds.Held, Parents.IsSoundCap}
use Rattle.cap_objects.specs.{Counts.{Owners, at_key}, declared.{handouts.Handouts.Handouts, moments.Moment.Moment, objects.Object.Object}, Extents.{Objects, Sets}, HandoutsIn.objects_of}
use Rattle.cap_objects.specs.declared.handouts.HandOutFault.{HandOutFault, TheVariants.{Overlaps, StillHeld, NoMemory}}
use Rattle.cap_objects.specs.{Handed.{AddsObject, RefusesExtent, handed_out, last_below, with_held}, Objects.top_of_extent}
use Rattle.cap_ops.specs.declared.refusal.Refusal.TheVariants.{LimitPassed}
use Rattle.cap_machine.specs.Accounts.{most_steps}
use Rattle.cap_run.specs.declared.{ends.RunRefusal.{RunRefusal, TheVariants.Usual}, specials.Specials.Specials}
use Rattle.cap_run.specs.ObjectSteps.{ExtentEnds, ended, first_holders, is_capability, object_refusal}
use Rattle.cap_run.specs.{Owned.{IsWithin, is_empty, owner_for}, Run.{Run, moment}, RunOf.{run_of, run_owners, run_state}, RunSteps.{IsUnstepped, step_limit}, Specials.harts_in}
use Rattle.cap_run.proofs.ObjectEnds.{HandsOut}

pub match_none : {A : Type 0} (o : Option A) (N : Type 0) (S : A → Type 0) → o ≡ None → N → MatchOption o N S
match_none {A} o N S is n = subst (λ (v : Option A). MatchOption v N S) (sym is) n

-- a register that can be an object's
refused-none : (b : Bool) (o : Option ℕ) (one two : RunRefusal) → (if b then (if is_some o then Some one else None) else Some two) ≡ None
    → (b ≡ true) × (o ≡ None)
refused-none true None one two is = (refl, refl)
refused-none true (Some x) one two is = absurd (none-some one (sym is))
refused-none false o one two is = absurd (none-some two (sym is))

pub refusal-none : (old : Run) (register : ℕ) → object_refusal old register ≡ None
    → (is_capability (old.state register) ≡ true) × (old.owners register ≡ None)
refusal-none old register is = refused-none (is_capability (old.state register)) (old.owners register) _ _ is

-- the refusal of a step past the limit
limit_some : (b : Bool) (one : RunRefusal) → is_some (if b then Some one else None) ≡ true → (if b then Some one else None) ≡ Some one
limit_some true one is = refl
limit_some false one is = absurd (false≢true is)

pub limit-some : (run : Run) → is_some (step_limit run) ≡ true → step_limit run ≡ Some (Usual LimitPassed)
limit-some run is = limit_some (nat_le most_steps run.steps) (Usual LimitPassed) is

-- the extent of a new object
pub extent-top : (number : ℕ) (step : Moment) (base top : ℕ) → base < top → top_of_extent (handed_out number step base top) ≡ top
extent-top number step base top some =
    let is : nat_lt base top ≡ true = lt-ltb base top some in
    let last : last_below base top ≡ top - 1 = cond-true (nat_lt base top) (top - 1) base is in
    cond-true (nat_lt base top) (last_below base top + 1) base is ∙ (let e : last_below base top + 1 ≡ top = omega (arith, last) in e)

extent-until : (number : ℕ) (step : Moment) (base top : ℕ) → base ≤ top → top ≤ top_of_extent (handed_out number step base top)
extent-until number step base top holds = elim (cases_lt base top) [
  | inl some ↦ let end = extent-top number step base top some in omega (arith, end)
  | inr none ↦
      let short : nat_lt base top ≡ false = le-ltb base top (omega (arith, none)) in
      let end : top_of_extent (handed_out number step base top) ≡ base = cond-false (nat_lt base top) _ base short in
      omega (arith, end, none)
]

-- what was handed out lies inside its object's extent
pub within-new : (cap : Cap) (number : ℕ) (step : Moment) (base top : ℕ) → is_capability cap ≡ true → base ≡ base_of cap.word.0 → top ≡ top_of cap.word.0 → base ≤ top
    → IsWithin cap (handed_out number step base top)
within-new cap number step base top capable base_is top_is holds =
    let end = extent-until number step base top holds in
    record {
      tagged = (and_parts cap.tag (not (is_sealed cap.word.0)) capable).0;
      from = omega (arith, base_is);
      until = omega (arith, top_is, end);
    }

-- the bounds of a capability that can be handed out
pub long-sound : (cap held : Cap) → cap ≡ held → is_capability held ≡ true → IsSoundCap cap → (base top : ℕ) → base ≡ base_of cap.word.0
    → top ≡ top_of cap.word.0 → (base ≤ top) × (top ≤ 2 ^ 64)
long-sound cap held is capable sound base top base_is top_is =
    let s = sound (and_parts cap.tag (not (is_sealed cap.word.0)) (ap is_capability is ∙ capable)).0 in
    (omega (arith, s.0, base_is, top_is), omega (arith, s.1, top_is))

-- how handing out ends
pub extent-ended : (old : Run) (keeps : Bool) (left_out : Option ℕ) (base top : ℕ) (fault : HandOutFault) → step_limit old ≡ None
    → RefusesExtent keeps left_out old.objects base top fault → ExtentEnds old keeps left_out base top (ended fault)
extent-ended old keeps left_out base top (Overlaps slot) few is = (slot, is)
extent-ended old keeps left_out base top (StillHeld slot) few is = (slot, is)
extent-ended old keeps left_out base top NoMemory few is = (is, few)

both_true : (a b : Bool) → a ≡ true → b ≡ false → (a && not b) ≡ true
both_true true true is no_b = absurd (false≢true (sym no_b))
both_true true false is no_b = refl
both_true false b is no_b = absurd (false≢true is)

neither : (a b : Bool) → b ≡ true → (a && not b) ≡ false
neither true true is = refl
neither true false is = absurd (false≢true is)
neither false b is = refl

-- the owner of a capability of bounds that aren't empty, and of one of empty bounds
pub owner_for-all : (cap : Cap) (owner : Option ℕ) → is_capability cap ≡ true → base_of cap.word.0 < top_of cap.word.0 → owner_for cap owner ≡ owner
owner_for-all cap owner capable some =
    let tag = (and_parts cap.tag (not (is_sealed cap.word.0)) capable).0 in
    let short : is_empty cap.word.0 ≡ false = lt-leb (top_of cap.word.0) (base_of cap.word.0) some in
    cond-true (cap.tag && not (is_empty cap.word.0)) owner None (both_true cap.tag (is_empty cap.word.0) tag short)

pub owner_for-empty : (cap : Cap) (owner : Option ℕ) → is_empty cap.word.0 ≡ true → owner_for cap owner ≡ None
owner_for-empty cap owner short = cond-false (cap.tag && not (is_empty cap.word.0)) owner None (neither cap.tag (is_empty cap.word.0) short)

-- runs of the same parts
pub run-same : (held new : Held) (specials sp : Specials) (h after : Handouts) → new ≡ held → sp ≡ specials → after.count ≡ h.count
    → ((slot : ℕ) → objects_of after slot ≡ objects_of h slot) → run_of new sp after ≡ run_of held specials h
run-same held new specials sp h after is sp_is count same =
    ap (λ (x : Held). run_of x sp after) is ∙ ap (λ (x : Specials). run_of held x after) sp_is
    ∙ ap (λ (o : Objects). record (run_of held specials after) { objects = o }) (fun_ext same)
    ∙ ap (λ (n : ℕ). record (run_of held specials h) { count = n }) count

module _ (held mid : Held) (specials sp : Specials) (h mid_h : Handouts) (register slot b t : ℕ) (mid_is : mid ≡ record held { steps = held.steps + 1 })
    (sp_is : sp ≡ specials)
    (b_is : b ≡ base_of (run_state held specials register).word.0) (t_is : t ≡ top_of (run_state held specials register).word.0)
    (adds : AddsObject (objects_of h) slot (handed_out (h.count + 1) (moment (run_of held specials h)) b t) (objects_of mid_h)) (count : mid_h.count ≡ h.count + 1)
    (capable : is_capability (run_state held specials register) ≡ true) (unowned : run_owners held specials register ≡ None) where
  pub mid-state : run_state mid sp ≡ run_state held specials
  mid-state = ap (λ (x : Held). run_state x sp) mid_is ∙ ap (run_state held) sp_is

  pub mid-owners : run_owners mid sp ≡ run_owners held specials
  mid-owners = ap (λ (x : Held). run_owners x sp) mid_is ∙ ap (run_owners held) sp_is

  new_object : Object
  new_object = handed_out (h.count + 1) (moment (run_of held specials h)) (base_of (run_state held specials register).word.0) (top_of (run_state held specials register).word.0)

  new_is : handed_out (h.count + 1) (moment (run_of held specials h)) b t ≡ new_object
  unfolding new_object
  new_is = ap (λ (x : ℕ). handed_out (h.count + 1) (moment (run_of held specials h)) x t) b_is
      ∙ ap (handed_out (h.count + 1) (moment (run_of held specials h)) (base_of (run_state held specials register).word.0)) t_is

  module _ (new : Held) (new_sp : Specials) (new_h : Handouts) (rest : IsUnstepped mid new) (same : new_h.count ≡ mid_h.count)
      (harts : harts_in new_sp ≡ harts_in sp) where
    hands-out : (holders : ℕ) → holders ≡ first_holders (run_state held specials register)
        → Sets (objects_of mid_h) slot (Some (with_held (handed_out (h.count + 1) (moment (run_of held specials h)) b t) holders)) (objects_of new_h)
        → run_state new new_sp ≡ run_state mid sp
        → ((other : ℕ) → run_owners new new_sp other ≡ at_key (run_owners held specials) register (owner_for (run_state held specials register) (Some slot)) other)
        → HandsOut (run_of held specials h) register slot (run_of new new_sp new_h)
    unfolding new_object
    hands-out holders holders_is set state owners = record {
      adds = (
        adds.0,
        (
          set.0 ∙ ap (λ (o : Object). Some (with_held o holders)) new_is ∙ ap (λ (n : ℕ). Some (with_held new_object n)) holders_is,
          λ other differ. set.1 other differ ∙ adds.1.1 other differ,
        ),
      );
      state = state ∙ mid-state;
      owners = owners;
      count = same ∙ count;
      harts = harts ∙ ap harts_in sp_is;
      rules = rest.0 ∙ ap (λ (x : Held). x.rules) mid_is;
      limits = rest.4 ∙ ap (λ (x : Held). x.limits) mid_is;
      roots = rest.2 ∙ ap (λ (x : Held). x.roots) mid_is;
      steps = rest.3 ∙ ap (λ (x : Held). x.steps) mid_is;
      is_named = ap {B = ℕ → Bool} (λ (m : Granules) (granule : ℕ). is_some (map.get m granule)) (rest.1 ∙ ap (λ (x : Held). x.memory) mid_is);
      granules = ap (λ (m : Granules). map.len m) (rest.1 ∙ ap (λ (x : Held). x.memory) mid_is);
    }

    pub hands-out-long : b < t → ((o : Object) → objects_of mid_h slot ≡ Some o → Sets (objects_of mid_h) slot (Some (with_held o (o.held + 1))) (objects_of new_h))
        → run_state new new_sp ≡ run_state mid sp
        → ((other : ℕ) → run_owners new new_sp other ≡ at_key (run_owners mid sp) register (Some slot) other)
        → HandsOut (run_of held specials h) register slot (run_of new new_sp new_h)
    hands-out-long some given state owners =
        let cap_is = run_state held specials register in
        let long : base_of cap_is.word.0 < top_of cap_is.word.0 = omega (arith, some, b_is, t_is) in
        let short : is_empty cap_is.word.0 ≡ false = lt-leb (top_of cap_is.word.0) (base_of cap_is.word.0) long in
        hands-out 1 (sym (cond-false (is_empty cap_is.word.0) 0 1 short)) (given (handed_out (h.count + 1) (moment (run_of held specials h)) b t) adds.1.0) state
        (λ other. owners other ∙ ap (λ (o : Owners). at_key o register (Some slot) other) mid-owners
        ∙ ap (λ (o : Option ℕ). at_key (run_owners held specials) register o other) (sym (owner_for-all cap_is (Some slot) capable long)))

  unowned-put : (other : ℕ) → owner_for (run_state held specials register) (Some slot) ≡ None
      → at_key (run_owners held specials) register (owner_for (run_state held specials register) (Some slot)) other ≡ run_owners held specials other
  unowned-put other is = elim (eqb_tells register other) [
    | inl same ↦
        cond-true (register == other) _ (run_owners held specials other) same.0 ∙ is ∙ sym unowned ∙ ap (run_owners held specials) same.1
    | inr unlike ↦ cond-false (register == other) _ (run_owners held specials other) unlike.0
  ]

  pub hands-out-empty : (b < t → ⊥) → HandsOut (run_of held specials h) register slot (run_of mid sp mid_h)
  hands-out-empty none =
      let cap_is = run_state held specials register in
      let short : is_empty cap_is.word.0 ≡ true = elim (cases_Bool (is_empty cap_is.word.0)) [
        | inl empty ↦ empty
        | inr long ↦ absurd (none (grind (arith, nat_tests, long, b_is, t_is)))
      ] in
      hands-out mid sp mid_h (refl, refl, refl, refl, refl) refl refl 0 (sym (cond-true (is_empty cap_is.word.0) 0 1 short))
      (adds.1.0, λ other differ. refl) refl
      (λ other. ap (λ (o : Owners). o other) mid-owners ∙ sym (unowned-put other (owner_for-empty cap_is (Some slot) short)))

pub none_of : {A : Type 0} (o : Option A) → is_some o ≡ false → o ≡ None
none_of None is = refl
none_of (Some x) is = absurd (false≢true (sym is))
