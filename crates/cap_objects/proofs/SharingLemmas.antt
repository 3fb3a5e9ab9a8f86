-- Extents that share an address.
use Rattle.std.proofs.Common.{◌≡◌, ◌<◌, ◌≤◌, ◌+◌, ◌-◌, ◌↔◌, ◌&&◌, ◌||◌, not, ℕ, Bool, true, false, Some, None, Option, inl, inr}
use Rattle.std.proofs.Common.{option_and_then, slice_get, refl, sym, ap, ◌∙◌, arith, List}
use Rattle.std.proofs.lemmas.{Bool.{cases_Bool, cases_lt, cond-true, cond-false, false≢true}, Option.{none-some, same_Some}}
use Rattle.cap_objects.specs.{declared.objects.Object.Object, Extents.{Meets, is_present}, Handed.{AreKept, ArePresent}}
use Rattle.cap_objects.specs.{Indexes.{kept, object_at}, Objects.{Share, top_of_extent}}
use Rattle.cap_objects.proofs.KeptLemmas.{either-apart, number_at}

-- what is in a slot is present
kept_present : (o x : Object) → kept o ≡ Some x → is_present x ≡ true
kept_present o x is = elim (cases_Bool (is_present o)) [
  | inl there ↦ ap is_present (sym (same_Some o x (sym (cond-true (is_present o) (Some o) None there) ∙ is))) ∙ there
  | inr gone ↦ absurd (none-some x (sym (cond-false (is_present o) (Some o) None gone) ∙ is))
]

and_kept : (o : Option Object) (x : Object) → option_and_then kept o ≡ Some x → is_present x ≡ true
and_kept None x is = absurd (none-some x is)
and_kept (Some o) x is = kept_present o x is

pub present_at : (xs : List Object) (slot : ℕ) (x : Object) → object_at xs slot ≡ Some x → is_present x ≡ true
present_at xs slot x is = and_kept (slice_get xs slot) x is

long_top : (o : Object) → o.long ≡ true → top_of_extent o ≡ o.last + 1
long_top o long = cond-true o.long (o.last + 1) o.base long

-- the greater base lies in both
pub meets-shares : (object : Object) (base top : ℕ) → object.long ≡ true → object.base ≤ object.last → base < top
    → Meets base (top - 1) object ↔ Share base top object.base (top_of_extent object)
meets-shares object base top long holds some =
    let end = long_top object long in (
      λ meets. elim (cases_lt base object.base) [
        | inl below ↦ (object.base, omega arith, omega (arith, meets.0), omega arith, omega (arith, end))
        | inr above ↦ (base, omega arith, omega arith, omega arith, omega (arith, meets.1, end))
      ],
      λ shares. (omega (arith, shares.2, shares.3), omega (arith, shares.1, shares.4, end)),
    )

-- an extent of no address shares none
long_where : (o : Object) (address : ℕ) → o.base ≤ address → address < top_of_extent o → o.long ≡ true
long_where o address low high = elim (cases_Bool o.long) [
  | inl long ↦ long
  | inr short ↦ absurd (let e : top_of_extent o ≡ o.base = cond-false o.long (o.last + 1) o.base short in omega (arith, e))
]

compared_where : (keeps long freed : Bool) → long ≡ true → (keeps ≡ false → freed ≡ false) → (long && (keeps || not freed)) ≡ true
compared_where true true freed is live = refl
compared_where false true true is live = absurd (false≢true (sym (live refl)))
compared_where false true false is live = refl
compared_where keeps false freed is live = absurd (false≢true is)

pub present-known : (keeps : Bool) (count : ℕ) (xs : List Object) (numbers bases : ℕ → Option ℕ) → AreKept keeps count (object_at xs) numbers bases
    → ArePresent keeps count (object_at xs)
present-known keeps count xs numbers bases known = record {
  present = present_at xs;
  some = known.some;
  few = known.few;
  alone = λ one two a b is is2 same.
      same_Some one two (sym (number_at keeps count (object_at xs) numbers bases known one a is)
      ∙ ap numbers same ∙ number_at keeps count (object_at xs) numbers bases known two b is2);
  apart = λ one two a b is is2 differ live s.
      let a_long = long_where a s.0 s.1 s.2 in
      let b_long = long_where b s.0 s.3 s.4 in
      let a_top = long_top a a_long in
      let b_top = long_top b b_long in
      elim (either-apart keeps count (object_at xs) numbers bases known one two a b is is2 differ
      (compared_where keeps a.long a.freed a_long (λ k. (live k).0)) (compared_where keeps b.long b.freed b_long (λ k. (live k).1))) [
        | inl above ↦ omega (arith, s.2, s.3, a_top)
        | inr under ↦ omega (arith, s.1, s.4, b_top)
      ];
}
