-- The rounded bounds of objects lie apart exactly where sound words can guard them.
use Rattle.std.proofs.Common.{◌≡◌, ℕ, ◌+◌, ◌^◌, ◌<◌, ◌≤◌, Some, None, Option, sym, ap, subst, ◌∙◌, arith}
use Rattle.cap_bounds.specs.{declared.decoding.Interval.Interval, Bounds.{IsInside, IsSound, base_of, top_of}}
use Rattle.cap_bounds.specs.Rounding.{rounded_base, rounded_top, rounded_word}
use Rattle.cap_bounds.proofs.{LeastRounding.IsInside-rounded, RoundedWords.{base_of-rounded_word, top_of-rounded_word}}
use Rattle.cap_bounds.proofs.RoundedWords.{IsSound-rounded_word, above-rounded_word}
use Rattle.cap_bounds.proofs.Roundings.{rounded_base-le, rounded_top-ge}
use Rattle.cap_heap.specs.Objects.{Objects, CanBeGuarded, IsApart}

-- addresses and lengths are numbers of 64 bits
abbrev pub AreRequests : Objects → Type 0
AreRequests objects = (at length : ℕ) → objects at ≡ Some length → (at < 2 ^ 64) × (length < 2 ^ 64)

size_or_none : Option ℕ → ℕ
size_or_none None = 0
size_or_none (Some size) = size

-- the word with the rounded bounds of the object at an address
word_for : Objects → ℕ → ℕ
word_for objects at = rounded_word 0 at (size_or_none (objects at))

module _ (heap : Interval) (objects : Objects) (ends : heap.top ≤ 2 ^ 64) (requests : AreRequests objects) where
  word_is : (at length : ℕ) → objects at ≡ Some length → word_for objects at ≡ rounded_word 0 at length
  unfolding word_for size_or_none
  word_is at length is = ap (λ o. rounded_word 0 at (size_or_none o)) is

  pub guards : IsApart heap objects → CanBeGuarded heap objects
  guards known = (
    word_for objects,
    record {
      inside = λ at size is. (
        omega (arith, base at size is, (known.inside at size is).0),
        omega (arith, top at size is, (known.inside at size is).1),
      );
      apart = λ at other size length is differ shares. known.apart at other size length is differ (
        shares.0,
        shares.1,
        omega (arith, base at size is, shares.2),
        omega (arith, top at size is, shares.3),
        omega (arith, base other length shares.0, shares.4),
        omega (arith, top other length shares.0, shares.5),
      );
    },
    λ at size is. (
      subst (λ (word : ℕ). word < 2 ^ 128) (sym (word_is at size is)) (narrow at size is),
      subst IsSound (sym (word_is at size is)) (sound at size is),
      (omega (arith, base at size is, rounded_base-le at size), omega (arith, top at size is, rounded_top-ge at size)),
    ),
  )
    where
      within : (at length : ℕ) → objects at ≡ Some length → at + length ≤ 2 ^ 64
      within at length is = omega (arith, ends, (known.inside at length is).1, rounded_top-ge at length)

      narrow : (at length : ℕ) → objects at ≡ Some length → rounded_word 0 at length < 2 ^ 128
      narrow at length is = omega (arith, above-rounded_word 0 at length (requests at length is).0 (requests at length is).1)

      sound : (at length : ℕ) → objects at ≡ Some length → IsSound (rounded_word 0 at length)
      sound at length is = IsSound-rounded_word 0 at length (requests at length is).0 (requests at length is).1 (within at length is)

      base : (at length : ℕ) → objects at ≡ Some length → base_of (word_for objects at) ≡ rounded_base at length
      base at length is =
          ap base_of (word_is at length is)
          ∙ base_of-rounded_word 0 at length (requests at length is).0 (requests at length is).1 (within at length is)

      top : (at length : ℕ) → objects at ≡ Some length → top_of (word_for objects at) ≡ rounded_top at length
      top at length is =
          ap top_of (word_is at length is)
          ∙ top_of-rounded_word 0 at length (requests at length is).0 (requests at length is).1 (within at length is)

  -- least rounding: any sound words that guard have bounds around the rounded ones
  pub guarded : CanBeGuarded heap objects → IsApart heap objects
  guarded (word, g, fits) = record {
    inside = λ at size is. (
      omega (arith, (around at size is).0, (g.inside at size is).0),
      omega (arith, (around at size is).1, (g.inside at size is).1),
    );
    apart = λ at other size length is differ shares. g.apart at other size length is differ (
      shares.0,
      shares.1,
      omega (arith, (around at size is).0, shares.2),
      omega (arith, (around at size is).1, shares.3),
      omega (arith, (around other length shares.0).0, shares.4),
      omega (arith, (around other length shares.0).1, shares.5),
    );
  }
    where
      around : (at length : ℕ) → objects at ≡ Some length
          → IsInside (rounded_base at length) (rounded_top at length) (base_of (word at)) (top_of (word at))
      around at length is = IsInside-rounded (word at) at length (requests at length is).1 (fits at length is).1 (fits at length is).2
