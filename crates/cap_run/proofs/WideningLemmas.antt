-- Steps that widen objects.
use Rattle.std.specs.FinMap as map
use Rattle.std.proofs.Common.{◌≡◌, ◌==◌, ◌+◌, ◌-◌, ◌<◌, nat_lt, ℕ, Bool, true, Some, None, Option, inl, inr, min, max}
use Rattle.std.proofs.Common.{is_some, lt-ltb, refl, sym, ap, ◌∙◌, arith}
use Rattle.std.proofs.lemmas.{Bool.{and_parts, cases_Bool, cond-true, cond-false, lt-leb, Decides.{eqb_tells, nat_tests}}}
use Rattle.cap_word.specs.declared.word.Cap.{Cap}
use Rattle.cap_bounds.specs.Bounds.{base_of, top_of}
use Rattle.cap_ops.specs.Permissions.{is_sealed}
use Rattle.tagmem.specs.Granules.{Granules}
use Rattle.cap_machine.specs.Helds.{Held}
use Rattle.cap_objects.specs.{Counts.{Owners, at_key}, declared.{handouts.Handouts.Handouts, objects.Object.Object}, Extents.{Sets}, HandoutsIn.objects_of}
use Rattle.cap_objects.specs.{Handed.{widened, with_held}, Objects.top_of_extent}
use Rattle.cap_run.specs.declared.specials.Specials.{Specials}
use Rattle.cap_run.specs.ObjectSteps.{Widens, first_holders, is_capability}
use Rattle.cap_run.specs.{Owned.{IsWithin, is_empty, owner_for}, RunOf.{run_of, run_owners, run_state}, RunSteps.{IsStepped, IsUnstepped}, Specials.harts_in}
use Rattle.cap_run.proofs.HandingLemmas.{owner_for-all, owner_for-empty}
use Rattle.std.proofs.Common.{not}

-- the top of an extent that was widened to hold an interval of an address
pub widened-top : (o : Object) (base top : ℕ) → base < top → max (top_of_extent o) top ≡ top_of_extent (widened o base top)
widened-top o base top some =
    let low = min o.base base in
    let high = max (top_of_extent o) top in
    let more : low < high = omega (arith, some) in
    let wide : Object = record o { base = low; last = high - 1; long = true } in
    let is : widened o base top ≡ wide = cond-true (nat_lt low high) wide o (lt-ltb low high more) in
    let whole : high ≡ high - 1 + 1 = omega (arith, more) in
    whole ∙ sym (ap top_of_extent is)

pub widened-base : (o : Object) (base top : ℕ) → base < top → min o.base base ≡ (let w = widened o base top in w.base)
widened-base o base top some =
    let low = min o.base base in
    let high = max (top_of_extent o) top in
    let more : low < high = omega (arith, some) in
    let wide : Object = record o { base = low; last = high - 1; long = true } in
    sym (ap (λ (w : Object). w.base) (cond-true (nat_lt low high) wide o (lt-ltb low high more)))

pub within-wide : (cap : Cap) (o : Object) (base top : ℕ) → is_capability cap ≡ true → base ≡ base_of cap.word.0 → top ≡ top_of cap.word.0 → base < top
    → IsWithin cap (widened o base top)
within-wide cap o base top capable base_is top_is some =
    let end = widened-top o base top some in
    let start = widened-base o base top some in
    record {
      tagged = (and_parts cap.tag (not (is_sealed cap.word.0)) capable).0;
      from = omega (arith, base_is, start);
      until = omega (arith, top_is, end);
    }

module _ (held mid : Held) (specials sp : Specials) (mid_is : mid ≡ record held { steps = held.steps + 1 }) (sp_is : sp ≡ specials) where
  pub wide-state : run_state mid sp ≡ run_state held specials
  wide-state = ap (λ (x : Held). run_state x sp) mid_is ∙ ap (run_state held) sp_is

  pub wide-owners : run_owners mid sp ≡ run_owners held specials
  wide-owners = ap (λ (x : Held). run_owners x sp) mid_is ∙ ap (run_owners held) sp_is

  wide-stepped : (new : Held) (new_sp : Specials) (h new_h : Handouts) → IsUnstepped mid new → new_h.count ≡ h.count → harts_in new_sp ≡ harts_in sp
      → IsStepped (run_of held specials h) (run_of new new_sp new_h)
  wide-stepped new new_sp h new_h rest count harts = record {
    count = count;
    harts = harts ∙ ap harts_in sp_is;
    rules = rest.0 ∙ ap (λ (x : Held). x.rules) mid_is;
    limits = rest.4 ∙ ap (λ (x : Held). x.limits) mid_is;
    roots = rest.2 ∙ ap (λ (x : Held). x.roots) mid_is;
    steps = rest.3 ∙ ap (λ (x : Held). x.steps) mid_is;
    is_named = ap {B = ℕ → Bool} (λ (m : Granules) (granule : ℕ). is_some (map.get m granule)) (rest.1 ∙ ap (λ (x : Held). x.memory) mid_is);
    granules = ap (λ (m : Granules). map.len m) (rest.1 ∙ ap (λ (x : Held). x.memory) mid_is);
  }

  module _ (h mid_h : Handouts) (register slot b t : ℕ)
      (b_is : b ≡ base_of (run_state held specials register).word.0) (t_is : t ≡ top_of (run_state held specials register).word.0)
      (set : (o : Object) → objects_of h slot ≡ Some o → Sets (objects_of h) slot (Some (widened o b t)) (objects_of mid_h)) (count : mid_h.count ≡ h.count) where
    wide_is : (o : Object) → widened o b t
        ≡ widened o (base_of (run_state held specials register).word.0) (top_of (run_state held specials register).word.0)
    wide_is o = ap (λ (x : ℕ). widened o x t) b_is ∙ ap (widened o (base_of (run_state held specials register).word.0)) t_is

    pub widens-long : (new : Held) (new_sp : Specials) (new_h : Handouts) → IsUnstepped mid new → new_h.count ≡ mid_h.count → harts_in new_sp ≡ harts_in sp
        → is_capability (run_state held specials register) ≡ true → b < t
        → ((o : Object) → objects_of mid_h slot ≡ Some o → Sets (objects_of mid_h) slot (Some (with_held o (o.held + 1))) (objects_of new_h))
        → ((o : Object) → objects_of h slot ≡ Some o → let w = widened o b t in w.held ≡ o.held)
        → run_state new new_sp ≡ run_state mid sp
        → ((other : ℕ) → run_owners new new_sp other ≡ at_key (run_owners mid sp) register (Some slot) other)
        → Widens (run_of held specials h) register slot (run_of new new_sp new_h)
    widens-long new new_sp new_h rest same harts capable some given holders state owners =
        let cap_is = run_state held specials register in
        let long : base_of cap_is.word.0 < top_of cap_is.word.0 = omega (arith, some, b_is, t_is) in
        let one : first_holders cap_is ≡ 1 = cond-false (is_empty cap_is.word.0) 0 1 (lt-leb (top_of cap_is.word.0) (base_of cap_is.word.0) long) in
        record {
          objects = λ o there.
              let first = set o there in
              let second = given (widened o b t) first.0 in
              let counts : (let w = widened o b t in w.held + 1) ≡ o.held + first_holders cap_is = omega (arith, holders o there, one) in (
                second.0 ∙ ap (λ (w : Object). Some (with_held w (w.held + 1))) refl
                    ∙ ap (λ (n : ℕ). Some (with_held (widened o b t) n)) counts
                    ∙ ap (λ (w : Object). Some (with_held w (o.held + first_holders cap_is))) (wide_is o),
                λ other differ. second.1 other differ ∙ first.1 other differ,
              );
          state = state ∙ wide-state;
          owners = λ other. owners other ∙ ap (λ (o : Owners). at_key o register (Some slot) other) wide-owners
              ∙ ap (λ (o : Option ℕ). at_key (run_owners held specials) register o other) (sym (owner_for-all cap_is (Some slot) capable long));
          rest = wide-stepped new new_sp h new_h rest (same ∙ count) harts;
        }

    unowned-put : (run_owners held specials register ≡ None) → (other : ℕ) → owner_for (run_state held specials register) (Some slot) ≡ None
        → at_key (run_owners held specials) register (owner_for (run_state held specials register) (Some slot)) other ≡ run_owners held specials other
    unowned-put unowned other is = elim (eqb_tells register other) [
      | inl same ↦
          cond-true (register == other) _ (run_owners held specials other) same.0 ∙ is ∙ sym unowned ∙ ap (run_owners held specials) same.1
      | inr unlike ↦ cond-false (register == other) _ (run_owners held specials other) unlike.0
    ]

    pub widens-empty : run_owners held specials register ≡ None → (b < t → ⊥)
        → ((o : Object) → objects_of h slot ≡ Some o → let w = widened o b t in w.held ≡ o.held)
        → Widens (run_of held specials h) register slot (run_of mid sp mid_h)
    widens-empty unowned none holders =
        let cap_is = run_state held specials register in
        let short : is_empty cap_is.word.0 ≡ true = elim (cases_Bool (is_empty cap_is.word.0)) [
          | inl empty ↦ empty
          | inr long ↦ absurd (none (grind (arith, nat_tests, long, b_is, t_is)))
        ] in
        let zero_holders : first_holders cap_is ≡ 0 = cond-true (is_empty cap_is.word.0) 0 1 short in
        record {
          objects = λ o there.
              let first = set o there in
              let counts : (let w = widened o b t in w.held) ≡ o.held + first_holders cap_is = omega (arith, holders o there, zero_holders) in (
                first.0 ∙ ap (λ (n : ℕ). Some (with_held (widened o b t) n)) counts
                    ∙ ap (λ (w : Object). Some (with_held w (o.held + first_holders cap_is))) (wide_is o),
                first.1,
              );
          state = wide-state;
          owners = λ other. ap (λ (o : Owners). o other) wide-owners
              ∙ sym (unowned-put unowned other (owner_for-empty cap_is (Some slot) short));
          rest = wide-stepped mid sp h mid_h (refl, refl, refl, refl, refl) count refl;
        }
