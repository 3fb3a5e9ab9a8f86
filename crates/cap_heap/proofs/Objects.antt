-- Objects with one more and with one less.
use Rattle.std.proofs.Common.{◌≡◌, ℕ, eqb, Some, None, inl, inr, sym, ap, ◌∙◌, arith, ◌≢◌, if◌then◌else◌, ◌⊎◌, eqb-true}
use Rattle.std.proofs.lemmas.{Bool.{cases_Bool, Decides.nat_tests}, Option.{none-some, same_Some}}
use Rattle.cap_bounds.specs.declared.decoding.Interval.{Interval}
use Rattle.cap_heap.specs.{declared.events.Event.TheVariants.{Malloc, Free}, Events.{HasRoom, after_event}}
use Rattle.cap_heap.specs.Objects.{Objects, IsApart, LieApart}

pub with_object-some : (objects : Objects) (at length other size : ℕ) → after_event objects (Malloc at length) other ≡ Some size
    → ((at ≡ other) × (length ≡ size)) ⊎ ((at ≢ other) × (objects other ≡ Some size))
with_object-some objects at length other size h = elim (cases_Bool (eqb at other)) [
  | inl same ↦ inl (eqb-true at other same, same_Some _ _ (ap (λ b. if b then Some length else objects other) (sym same) ∙ h))
  | inr differs ↦ inr (grind (arith, nat_tests), ap (λ b. if b then Some length else objects other) (sym differs) ∙ h)
]

pub without_object-some : (objects : Objects) (at other size : ℕ) → after_event objects (Free at) other ≡ Some size → objects other ≡ Some size
without_object-some objects at other size h = elim (cases_Bool (eqb at other)) [
  | inl same ↦ absurd (none-some size (ap (λ b. if b then None else objects other) (sym same) ∙ h))
  | inr differs ↦ ap (λ b. if b then None else objects other) (sym differs) ∙ h
]

pub with_object-at : (objects : Objects) (at length : ℕ) → after_event objects (Malloc at length) at ≡ Some length
with_object-at objects at length = grind (arith, nat_tests)

pub with_object-other : (objects : Objects) (at length other : ℕ) → at ≢ other → after_event objects (Malloc at length) other ≡ objects other
with_object-other objects at length other differs = grind (arith, nat_tests)

LieApart-sym : (at length other size : ℕ) → LieApart at length other size → LieApart other size at length
LieApart-sym at length other size h address c d = h address d c

-- objects whose bounds keep apart lie apart, two by two
pub apart_of : (heap : Interval) (objects : Objects) → IsApart heap objects → (at other length size : ℕ) → objects at ≡ Some length
    → objects other ≡ Some size → at ≢ other → LieApart at length other size
apart_of heap objects known at other length size is is2 differ byte c d =
    known.apart at other length size is differ (is2, byte, c.0, c.1, d.0, d.1)

-- bounds stay apart with an object for which there is room
module _ (heap : Interval) (old new : Objects) (at length : ℕ) (known : IsApart heap old) (room : HasRoom heap old at length)
    (told : (other : ℕ) → new other ≡ after_event old (Malloc at length) other) where
  with-apart : (one two size size2 : ℕ) → new one ≡ Some size → new two ≡ Some size2 → one ≢ two → LieApart one size two size2
  with-apart one two size size2 is is2 differ = elim (with_object-some old at length one size (sym (told one) ∙ is)) [
    | inl same ↦ elim (with_object-some old at length two size2 (sym (told two) ∙ is2)) [
      | inl same2 ↦ absurd (differ (sym same.0 ∙ same2.0))
      | inr was2 ↦ rw (sym same.0) (rw (sym same.1) (room.apart two size2 was2.1))
    ]
    | inr was ↦ elim (with_object-some old at length two size2 (sym (told two) ∙ is2)) [
      | inl same2 ↦ rw (sym same2.0) (rw (sym same2.1) (LieApart-sym at length one size (room.apart one size was.1)))
      | inr was2 ↦ apart_of heap old known one two size size2 was.1 was2.1 differ
    ]
  ]

  pub IsApart-with : IsApart heap new
  IsApart-with = record {
    inside = λ one size is. elim (with_object-some old at length one size (sym (told one) ∙ is)) [
      | inl same ↦ rw (sym same.0) (rw (sym same.1) room.inside)
      | inr was ↦ known.inside one size was.1
    ];
    apart = λ one two size size2 is differ shares.
        with-apart one two size size2 is shares.0 differ shares.1 (shares.2, shares.3) (shares.4, shares.5);
  }

-- and without one
pub IsApart-without : (heap : Interval) (old new : Objects) (at : ℕ) → IsApart heap old
    → ((other : ℕ) → new other ≡ after_event old (Free at) other) → IsApart heap new
IsApart-without heap old new at known told =
    let was : (one size : ℕ) → new one ≡ Some size → old one ≡ Some size = λ one size is.
    without_object-some old at one size (sym (told one) ∙ is) in
    record {
      inside = λ one size is. known.inside one size (was one size is);
      apart = λ one two size size2 is differ shares. known.apart one two size size2 (was one size is) differ (was two size2 shares.0, shares.1, shares.2, shares.3, shares.4, shares.5);
    }

-- and with the same
pub IsApart-same : (heap : Interval) (old new : Objects) → IsApart heap old → ((other : ℕ) → new other ≡ old other) → IsApart heap new
IsApart-same heap old new known told = record {
  inside = λ one size is. known.inside one size (sym (told one) ∙ is);
  apart = λ one two size size2 is differ shares. known.apart one two size size2 (sym (told one) ∙ is) differ (sym (told two) ∙ shares.0, shares.1, shares.2, shares.3, shares.4, shares.5);
}
