-- Which place holds an object first, and which object an interval meets first.
use Rattle.std.proofs.Common.{◌≡◌, ◌⊎◌, ℕ, ◌+◌, ◌<◌, ◌≤◌, Bool, true, false, nat_lt, Option, Some, None, MatchOption, IfSome, IfNone, inl, inr, sym, ap, subst, ◌∙◌, arith}
use Rattle.std.proofs.Common.{lt-ltb, le-ltb}
use Rattle.std.proofs.lemmas.{Bool.{cases_lt, cond-true, cond-false, false≢true}, Option.{none-some, same_Some}}
use Rattle.cap_objects.specs.declared.objects.Object.{Object}
use Rattle.cap_run_log.specs.{declared.lines.RunPlace.{RunPlace, TheVariants.{General, Special, Granule}}, RunLines.IsRunPlace}
use Rattle.cap_run.specs.Run.{Run}
use Rattle.cap_run_report.specs.{CapParts.IsReadable, ObjectParts.{IsLeastMet, MeetsNone, is_met, lesser}}

-- a place that can be written can be read
pub readable : (place : RunPlace) → IsRunPlace place → IsReadable place
readable (General number) is = is.1
readable (Special number) is = is
readable (Granule number) is = is

module _ (run : Run) (left_out : Option ℕ) (freed : Bool) (base top from : ℕ) (object : Object)
    (there : run.objects object.number ≡ Some object) (least : from ≤ object.number)
    (skipped : (n : ℕ) → from ≤ n → n < object.number → run.objects n ≡ None) where
  abbrev pub meets : ℕ → Object → Bool
  meets number it = is_met left_out freed base top number it

  -- an object whose number is at most this object's has a lesser one than all from here on, or is this object
  known : (other : ℕ) (it : Object) → other < object.number + 1 → run.objects other ≡ Some it
      → (other < from) ⊎ ((it ≡ object) × (meets other it ≡ meets object.number object))
  known other it below is = elim (cases_lt other from) [
    | inl before ↦ inl before
    | inr behind ↦ elim (cases_lt other object.number) [
      | inl between ↦ absurd (none-some it (sym (skipped other behind between) ∙ is))
      | inr here ↦
          let same : other ≡ object.number = omega (arith, below, here) in
          let one : it ≡ object = same_Some it object (sym is ∙ ap run.objects same ∙ there) in
          inr (one, ap (λ (n : ℕ). meets n it) same ∙ ap (meets object.number) one)
    ]
  ]

  -- where it isn't met
  none_more : meets object.number object ≡ false → MeetsNone run left_out freed base top from
      → MeetsNone run left_out freed base top (object.number + 1)
  none_more unmet none other it below is = elim (known other it below is) [
    | inl before ↦ none other it before is
    | inr same ↦ same.1 ∙ unmet
  ]

  least_more : (found : Object) → meets object.number object ≡ false → IsLeastMet run left_out freed base top from found
      → IsLeastMet run left_out freed base top (object.number + 1) found
  least_more found unmet is = record {
    number = is.number;
    there = is.there;
    meets = is.meets;
    least = λ other it below at met. elim (known other it below at) [
      | inl before ↦ is.least other it before at met
      | inr same ↦ absurd (false≢true (sym unmet ∙ sym same.1 ∙ met))
    ];
  }

  -- where it is met
  first_met : meets object.number object ≡ true → MeetsNone run left_out freed base top from
      → IsLeastMet run left_out freed base top (object.number + 1) object
  first_met met none = record {
    number = object.number;
    there = there;
    meets = met;
    least = λ other it below at also. elim (known other it below at) [
      | inl before ↦ absurd (false≢true (sym (none other it before at) ∙ also))
      | inr same ↦ let one : it.base ≡ object.base = ap (λ (o : Object). o.base) same.0 in omega (arith, one)
    ];
  }

  lower : (found : Object) → meets object.number object ≡ true → object.base < found.base
      → IsLeastMet run left_out freed base top from found → IsLeastMet run left_out freed base top (object.number + 1) object
  lower found met less is = record {
    number = object.number;
    there = there;
    meets = met;
    least = λ other it below at also. elim (known other it below at) [
      | inl before ↦ let more = is.least other it before at also in omega (arith, more, less)
      | inr same ↦ let one : it.base ≡ object.base = ap (λ (o : Object). o.base) same.0 in omega (arith, one)
    ];
  }

  higher : (found : Object) → found.base ≤ object.base → IsLeastMet run left_out freed base top from found
      → IsLeastMet run left_out freed base top (object.number + 1) found
  higher found less is = record {
    number = is.number;
    there = is.there;
    meets = is.meets;
    least = λ other it below at also. elim (known other it below at) [
      | inl before ↦ is.least other it before at also
      | inr same ↦ let one : it.base ≡ object.base = ap (λ (o : Object). o.base) same.0 in omega (arith, one, less)
    ];
  }

  -- what is found after one object more
  pub found_more : (found : Option Object) (met : Bool) → met ≡ meets object.number object
      → MatchOption found (MeetsNone run left_out freed base top from) (IsLeastMet run left_out freed base top from)
      → MatchOption (lesser found object met) (MeetsNone run left_out freed base top (object.number + 1))
      (IsLeastMet run left_out freed base top (object.number + 1))
  found_more None false is none = none_more (sym is) none
  found_more (Some found) false is least_is = least_more found (sym is) least_is
  found_more None true is none = first_met (sym is) none
  found_more (Some found) true is least_is = elim (cases_lt object.base found.base) [
    | inl less ↦ subst (λ (o : Option Object). MatchOption o (MeetsNone run left_out freed base top (object.number + 1))
        (IsLeastMet run left_out freed base top (object.number + 1)))
        (sym (cond-true (nat_lt object.base found.base) (Some object) (Some found) (lt-ltb object.base found.base less)))
        (lower found (sym is) less least_is)
    | inr more ↦ subst (λ (o : Option Object). MatchOption o (MeetsNone run left_out freed base top (object.number + 1))
        (IsLeastMet run left_out freed base top (object.number + 1)))
        (sym (cond-false (nat_lt object.base found.base) (Some object) (Some found) (le-ltb object.base found.base more)))
        (higher found more least_is)
  ]

-- what is found among fewer objects
pub all_found : (run : Run) (left_out : Option ℕ) (freed : Bool) (base top below less : ℕ) (found : Option Object) → less ≤ below
    → MatchOption found (MeetsNone run left_out freed base top below) (IsLeastMet run left_out freed base top below)
    → IfSome found (IsLeastMet run left_out freed base top less)
all_found run left_out freed base top below less None fits is = tt
all_found run left_out freed base top below less (Some found) fits is = record {
  number = is.number;
  there = is.there;
  meets = is.meets;
  least = λ other it at. is.least other it (omega (arith, at, fits));
}

-- where no object has a number from this one on, what is found is found among all
module _ (run : Run) (left_out : Option ℕ) (freed : Bool) (base top from to : ℕ) (absent : (n : ℕ) → from ≤ n → run.objects n ≡ None) where
  pub none_left : (found : Option Object)
      → MatchOption found (MeetsNone run left_out freed base top from) (IsLeastMet run left_out freed base top from)
      → IfNone found (MeetsNone run left_out freed base top to)
  none_left None is = λ other it below at. elim (cases_lt other from) [
    | inl before ↦ is other it before at
    | inr behind ↦ absurd (none-some it (sym (absent other behind) ∙ at))
  ]
  none_left (Some found) is = tt

  pub least_left : (found : Option Object)
      → MatchOption found (MeetsNone run left_out freed base top from) (IsLeastMet run left_out freed base top from)
      → IfSome found (IsLeastMet run left_out freed base top to)
  least_left None is = tt
  least_left (Some found) is = record {
    number = is.number;
    there = is.there;
    meets = is.meets;
    least = λ other it below at met. elim (cases_lt other from) [
      | inl before ↦ is.least other it before at met
      | inr behind ↦ absurd (none-some it (sym (absent other behind) ∙ at))
    ];
  }
