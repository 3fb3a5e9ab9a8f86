-- The rounded bounds of objects.
use Rattle.std.proofs.Common.{◌≡◌, ℕ, ◌<◌, true, false, Bool, Some, None, Option, ap, arith}
use Rattle.std.proofs.lemmas.Option.{none-some, same_Some}
use Rattle.cap_bounds.proofs.Roundings.{rounded_base-short, rounded_top-short, rounded_base-le, rounded_top-ge}
use Rattle.cap_heap.specs.{Kept.length_from, Objects.{Covers, LieApart}}
use Rattle.cap_heap.proofs.Keeping.{none_from, some_is}

-- an object of no byte covers no address
pub empty-apart : (at length other size : ℕ) → size ≡ 0 → LieApart at length other size
empty-apart at length other size none address c d =
    omega (arith, rounded_base-short other size (omega arith), rounded_top-short other size (omega arith), d.0, d.1)

pub apart-empty : (at length other size : ℕ) → length ≡ 0 → LieApart at length other size
apart-empty at length other size none address c d = empty-apart other size at length none address d c

-- a longer one covers its own address
pub covers-own : (at length : ℕ) → 0 < length → Covers at length at
covers-own at length long = (rounded_base-le at length, omega (arith, rounded_top-ge at length))

-- what is kept with a length of a byte or more is kept in the map
pub length_from-long : (o : Option ℕ) (b : Bool) (size : ℕ) → length_from o b ≡ Some size → 0 < size → o ≡ Some size
length_from-long (Some length) b size h long = h
length_from-long None true size h long = absurd (omega (arith, same_Some 0 size h))
length_from-long None false size h long = absurd (none-some size h)

-- where all objects lie apart from a request of a byte or more, none of a byte or more has its address
pub none-at : (lengths : ℕ → Option ℕ) (empty : ℕ → Bool) → ((at length : ℕ) → lengths at ≡ Some length → 0 < length)
    → (at length : ℕ) → 0 < length
    → ((other size : ℕ) → length_from (lengths other) (empty other) ≡ Some size → LieApart at length other size) → lengths at ≡ None
none-at lengths empty long at length some apart = none_from (lengths at) (λ is.
    let there = some_is (lengths at) is in
    absurd (apart at there.0 (ap (λ o. length_from o (empty at)) there.1) at (covers-own at length some) (covers-own at there.0 (long at there.0 there.1))))
