-- Objects whose bounds lie apart lie in the order of their addresses, so that a neighbour tells of all.
use Rattle.std.proofs.Common.{◌≡◌, ℕ, ◌<◌, ◌≤◌, Bool, Some, None, Option, inl, inr, sym, ap, subst, ◌∙◌, arith, ◌≢◌}
use Rattle.std.proofs.{Common.{IfSome, MatchOption}, lemmas.{Bool.cases_lt, Option.{none-some, same_Some}}}
use Rattle.cap_bounds.specs.{declared.decoding.Interval.Interval, Rounding.{rounded_base, rounded_top}}
use Rattle.cap_bounds.proofs.Roundings.{rounded_base-le, rounded_top-ge}
use Rattle.cap_heap.specs.{Kept.length_from, Neighbours.{IsLastBelow, IsFirstFrom}}
use Rattle.cap_heap.specs.Objects.{IsApart, Shares, Covers, LieApart}
use Rattle.cap_heap.proofs.{Objects.apart_of, Rounded.{empty-apart, covers-own, length_from-long}}

module _ (heap : Interval) (lengths : ℕ → Option ℕ) (empty : ℕ → Bool) (known : IsApart heap (λ at. length_from (lengths at) (empty at)))
    (long : (at length : ℕ) → lengths at ≡ Some length → 0 < length) (at length : ℕ) (some : 0 < length) where
  lives : (other size : ℕ) → lengths other ≡ Some size → length_from (lengths other) (empty other) ≡ Some size
  lives other size is = ap (λ o. length_from o (empty other)) is

  same_size : (one two size size2 : ℕ) → one ≡ two → lengths one ≡ Some size → lengths two ≡ Some size2 → size ≡ size2
  same_size one two size size2 same is is2 = same_Some size size2 (sym is ∙ ap lengths same ∙ is2)

  pub none-below : IsLastBelow lengths (rounded_top at length) None → (other size : ℕ) → other < rounded_top at length
      → length_from (lengths other) (empty other) ≡ Some size → LieApart at length other size
  none-below none other size below is = elim (cases_lt 0 size) [
    | inl more ↦ absurd (none-some size (sym (none other below) ∙ length_from-long (lengths other) (empty other) size is more))
    | inr zero ↦ empty-apart at length other size (omega arith)
  ]

  pub none-above : IsFirstFrom lengths at None → (other size : ℕ) → at ≤ other → length_from (lengths other) (empty other) ≡ Some size
      → LieApart at length other size
  none-above none other size from is = elim (cases_lt 0 size) [
    | inl more ↦ absurd (none-some size (sym (none other from) ∙ length_from-long (lengths other) (empty other) size is more))
    | inr zero ↦ empty-apart at length other size (omega arith)
  ]

  module _ (near near_size : ℕ) (here : lengths near ≡ Some near_size) where
    apart-near : (other size : ℕ) → lengths other ≡ Some size → other ≢ near → Covers other size near → ⊥
    apart-near other size is differs covers =
        apart_of heap (λ a. length_from (lengths a) (empty a)) known other near size near_size (lives other size is) (lives near near_size here)
        differs near covers (covers-own near near_size (long near near_size here))

    pub apart-below : IsLastBelow lengths (rounded_top at length) (Some (near, near_size)) → rounded_top near near_size ≤ rounded_base at length
        → (other size : ℕ) → other < rounded_top at length → length_from (lengths other) (empty other) ≡ Some size → LieApart at length other size
    apart-below last clear other size below is = elim (cases_lt 0 size) [
      | inr zero ↦ empty-apart at length other size (omega arith)
      | inl more ↦
          let stands = length_from-long (lengths other) (empty other) size is more in
          λ address c d. elim (cases_lt other near) [
            | inl less ↦ apart-near other size stands (λ same. omega arith)
                (omega (arith, rounded_base-le other size), omega (arith, rounded_top-ge near near_size, c.0, d.1))
            | inr more ↦
                let same : other ≡ near = omega (arith, last.2 other size below stands) in
                let sizes : size ≡ near_size = same_size other near size near_size same stands here in
                let top : rounded_top other size ≡ rounded_top near near_size = ap (λ a. rounded_top a size) same ∙ ap (rounded_top near) sizes in
                omega (arith, c.0, d.1)
          ]
    ]

    pub apart-above : IsFirstFrom lengths at (Some (near, near_size)) → rounded_top at length ≤ rounded_base near near_size
        → (other size : ℕ) → at ≤ other → length_from (lengths other) (empty other) ≡ Some size → LieApart at length other size
    apart-above first clear other size from is = elim (cases_lt 0 size) [
      | inr zero ↦ empty-apart at length other size (omega arith)
      | inl more ↦
          let stands = length_from-long (lengths other) (empty other) size is more in
          λ address c d. elim (cases_lt near other) [
            | inl less ↦ apart-near other size stands (λ same. omega arith) (
              omega (arith, c.1, d.0, rounded_base-le near near_size),
              omega (arith, rounded_top-ge other size),
            )
            | inr more ↦
                let same : other ≡ near = omega (arith, first.2 other size from stands) in
                let sizes : size ≡ near_size = same_size other near size near_size same stands here in
                let base : rounded_base other size ≡ rounded_base near near_size = ap (λ a. rounded_base a size) same ∙ ap (rounded_base near) sizes in
                omega (arith, c.1, d.0)
          ]
    ]

    -- a neighbour whose bounds reach those of the request shares an address with it
    shares-below : near < rounded_top at length → rounded_base at length < rounded_top near near_size
        → Shares rounded_base rounded_top (λ a. length_from (lengths a) (empty a)) at length near near_size
    shares-below below reach = elim (cases_lt (rounded_base at length) (rounded_base near near_size)) [
      | inl lower ↦ (
        lives near near_size here,
        near,
        omega (arith, rounded_base-le near near_size),
        below,
        (covers-own near near_size (long near near_size here)).0,
        (covers-own near near_size (long near near_size here)).1,
      )
      | inr higher ↦ (
        lives near near_size here,
        rounded_base at length,
        omega arith,
        omega (arith, rounded_base-le at length, rounded_top-ge at length),
        higher,
        reach,
      )
    ]

    shares-above : at ≤ near → rounded_base near near_size < rounded_top at length
        → Shares rounded_base rounded_top (λ a. length_from (lengths a) (empty a)) at length near near_size
    shares-above above reach = elim (cases_lt (rounded_base near near_size) (rounded_base at length)) [
      | inl lower ↦ (
        lives near near_size here,
        at,
        (covers-own at length some).0,
        (covers-own at length some).1,
        omega (arith, rounded_base-le at length),
        omega (arith, rounded_top-ge near near_size, long near near_size here),
      )
      | inr higher ↦ (
        lives near near_size here,
        rounded_base near near_size,
        higher,
        reach,
        omega arith,
        omega (arith, rounded_base-le near near_size, rounded_top-ge near near_size, long near near_size here),
      )
    ]

  apart-under : (below : Option (ℕ × ℕ)) → IsLastBelow lengths (rounded_top at length) below
      → IfSome below (λ entry. rounded_top entry.0 entry.1 ≤ rounded_base at length)
      → (other size : ℕ) → other < rounded_top at length → length_from (lengths other) (empty other) ≡ Some size → LieApart at length other size
  apart-under None last clear = none-below last
  apart-under (Some entry) last clear = apart-below entry.0 entry.1 last.1 last clear

  apart-over : (above : Option (ℕ × ℕ)) → IsFirstFrom lengths at above → IfSome above (λ entry. rounded_top at length ≤ rounded_base entry.0 entry.1)
      → (other size : ℕ) → at ≤ other → length_from (lengths other) (empty other) ≡ Some size → LieApart at length other size
  apart-over None first clear = none-above first
  apart-over (Some entry) first clear = apart-above entry.0 entry.1 first.1 first clear

  -- where the last object that begins below the request's top does not reach it, and neither does one that begins above, none does
  apart-all : (below : Option (ℕ × ℕ)) → IsLastBelow lengths (rounded_top at length) below
      → IfSome below (λ entry. rounded_top entry.0 entry.1 ≤ rounded_base at length)
      → ((other size : ℕ) → rounded_top at length ≤ other → length_from (lengths other) (empty other) ≡ Some size → LieApart at length other size)
      → (other size : ℕ) → length_from (lengths other) (empty other) ≡ Some size → LieApart at length other size
  apart-all below last clear above other size is = elim (cases_lt other (rounded_top at length)) [
    | inl under ↦ apart-under below last clear other size under is
    | inr over ↦ above other size over is
  ]

  -- one that does shares an address with it
  pub shares-under : (entry : ℕ × ℕ) → IsLastBelow lengths (rounded_top at length) (Some entry) → rounded_base at length < rounded_top entry.0 entry.1
      → Shares rounded_base rounded_top (λ a. length_from (lengths a) (empty a)) at length entry.0 entry.1
  shares-under entry last reach = shares-below entry.0 entry.1 last.1 last.0 reach

  -- no object that begins above does where all bounds begin at their object's address
  pub apart-straight : (below : Option (ℕ × ℕ)) → IsLastBelow lengths (rounded_top at length) below
      → IfSome below (λ entry. rounded_top entry.0 entry.1 ≤ rounded_base at length)
      → ((other size : ℕ) → lengths other ≡ Some size → rounded_base other size ≡ other)
      → (other size : ℕ) → length_from (lengths other) (empty other) ≡ Some size → LieApart at length other size
  apart-straight below last clear begins = apart-all below last clear (λ other size over is. elim (cases_lt 0 size) [
    | inl more ↦ λ byte c d. omega (arith, over, c.1, d.0, begins other size (length_from-long (lengths other) (empty other) size is more))
    | inr zero ↦ empty-apart at length other size (omega arith)
  ])

  -- and elsewhere the first one tells
  pub from-above : (below above found : Option (ℕ × ℕ)) → IsLastBelow lengths (rounded_top at length) below → IsFirstFrom lengths at above
      → IfSome below (λ entry. rounded_top entry.0 entry.1 ≤ rounded_base at length)
      → MatchOption found (IfSome above (λ entry. rounded_top at length ≤ rounded_base entry.0 entry.1))
      (λ entry. (above ≡ Some entry) × (rounded_base entry.0 entry.1 < rounded_top at length))
      → MatchOption found ((other size : ℕ) → length_from (lengths other) (empty other) ≡ Some size → LieApart at length other size)
      (λ entry. Shares rounded_base rounded_top (λ a. length_from (lengths a) (empty a)) at length entry.0 entry.1)
  from-above below above None last first clear told =
      apart-all below last clear (λ other size over. apart-over above first told other size (omega (arith, over, rounded_top-ge at length)))
  from-above below above (Some entry) last first clear told =
      let here = subst (IsFirstFrom lengths at) told.0 first in shares-above entry.0 entry.1 here.1 here.0 told.1
