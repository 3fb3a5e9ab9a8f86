-- Which extents an interval shares an address with.
use Rattle.std.proofs.Common.{◌≡◌, ◌+◌, ◌&&◌, ◌<◌, ◌≤◌, ℕ, zero, suc, Bool, true, false, not, min, max, Option, Some, None, refl, ap, ◌∙◌, arith, inl, inr, lt-ltb}
use Rattle.std.proofs.lemmas.{Bool.{and_from, and_parts, cases_Bool, false≢true, ltb-true}}
use Rattle.std.specs.Option.{option_map_or}
use Rattle.cap_objects.specs.{Counts.{count_below, is_owner}, declared.objects.Object.Object, Objects.{Share, top_of_extent}}
use Rattle.cap_objects.proofs.BelowLemmas.{below-where, one}
use Rattle.cap_run.specs.{Run.Run, RunChecks.{meets, shares}}

-- an object of a number, of which this holds, and whose extent shares an address with an interval
pub record IsMet (run : Run) (left_out : Option ℕ) (asked : Object → Bool) (base top number : ℕ) (object : Object) : Type 0 where
  pub there : run.objects number ≡ Some object
  pub few : number ≤ run.count
  pub other : is_owner number left_out ≡ false
  pub asked_is : asked object ≡ true
  pub share : Share base top object.base (top_of_extent object)

shares-true : (base top : ℕ) (object : Object) → Share base top object.base (top_of_extent object) → shares base top object ≡ true
shares-true base top object (address, a, b, c, d) = lt-ltb (max base object.base) (min top (top_of_extent object)) (omega (arith, a, b, c, d))

shares-share : (base top : ℕ) (object : Object) → shares base top object ≡ true → Share base top object.base (top_of_extent object)
shares-share base top object is =
    let low : max base object.base < min top (top_of_extent object) = ltb-true (max base object.base) (min top (top_of_extent object)) is in
    (max base object.base, omega arith, omega (arith, low), omega arith, omega (arith, low))

-- a fact that holds below a number holds of one
pub below-which : (holds : ℕ → Bool) (n : ℕ) → 0 < count_below holds n → (key : ℕ) × (key < n) × (holds key ≡ true)
unfolding count_below
below-which holds zero some = absurd (omega (arith, some))
below-which holds (suc n) some = elim (cases_Bool (holds n)) [
  | inl here ↦ (n, omega arith, here)
  | inr free ↦
      let e : one (holds n) ≡ 0 = ap one free in
      let rest = below-which holds n (omega (arith, some, e)) in
      (rest.0, omega (arith, rest.1), rest.2)
]

-- what `meets` counts
abbrev is_met : Run → Option ℕ → (Object → Bool) → ℕ → ℕ → ℕ → Bool
is_met run left_out asked base top number =
    not (is_owner number left_out) && option_map_or (λ object. asked object && shares base top object) (run.objects number) false

pub meets-where : (run : Run) (left_out : Option ℕ) (asked : Object → Bool) (base top number : ℕ) (object : Object)
    → IsMet run left_out asked base top number object → meets run left_out asked base top ≡ true
meets-where run left_out asked base top number object met =
    let one_is : is_met run left_out asked base top number ≡ true =
    and_from _ _ (ap not met.other)
    (ap (λ (o : Option Object). option_map_or (λ x. asked x && shares base top x) o false) met.there
    ∙ and_from _ _ met.asked_is (shares-true base top object met.share)) in
    lt-ltb 0 _ (below-where (is_met run left_out asked base top) number (run.count + 1) (let few = met.few in omega (arith, few)) one_is)

met_here : (asked : Object → Bool) (base top : ℕ) (found : Option Object) → option_map_or (λ x. asked x && shares base top x) found false ≡ true
    → (object : Object) × (found ≡ Some object) × (asked object ≡ true) × (shares base top object ≡ true)
met_here asked base top None is = absurd (false≢true is)
met_here asked base top (Some object) is = let both = and_parts (asked object) (shares base top object) is in (object, refl, both.0, both.1)

not_not : (b : Bool) → not b ≡ true → b ≡ false
not_not true is = absurd (false≢true is)
not_not false is = refl

pub meets-which : (run : Run) (left_out : Option ℕ) (asked : Object → Bool) (base top : ℕ) → meets run left_out asked base top ≡ true
    → (number : ℕ) × (object : Object) × IsMet run left_out asked base top number object
meets-which run left_out asked base top is =
    let one_is = below-which (is_met run left_out asked base top) (run.count + 1) (ltb-true 0 _ is) in
    let both = and_parts _ _ one_is.2 in
    let o = met_here asked base top (run.objects one_is.0) both.1 in (
      one_is.0,
      o.0,
      record {
        there = o.1;
        few = (let low = one_is.1 in omega (arith, low));
        other = not_not _ both.0;
        asked_is = o.2;
        share = shares-share base top o.0 o.3;
      },
    )
