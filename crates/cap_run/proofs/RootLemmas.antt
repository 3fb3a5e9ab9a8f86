-- Roots of a run.
use Rattle.std.proofs.Common.{◌≡◌, ◌≢◌, ◌==◌, ◌+◌, ◌-◌, ◌<◌, ◌||◌, not, nat_lt, nat_le, ℕ, Bool, true, false, IsTrue, Some, None, Option}
use Rattle.std.proofs.Common.{if◌then◌else◌, refl, sym, ap, subst, ◌∙◌, arith, lt-ltb, le-ltb, ne_eqb, List, [], ◌∷◌, map, option_map}
use Rattle.std.specs.Prelude.{Result, Ok, Err, MatchResult}
use Rattle.std.proofs.Math.Path.{fun_ext}
use Rattle.std.proofs.lemmas.{Bool.{cond-true, cond-false, false≢true}, Option.{none-some}}
use Rattle.cap_word.specs.declared.word.{Cap.Cap, Word.Word}
use Rattle.cap_bounds.specs.Bounds.{is_sound}
use Rattle.cap_log.specs.{declared.lines.Place.{Place, TheVariants.{Granule, Register}}, Lines.IsPlace}
use Rattle.cap_ops.specs.{declared.refusal.Refusal.{Refusal, TheVariants.{LimitPassed, PlaceTaken, UnsoundRoot}}, Checks.first_of}
use Rattle.cap_machine.specs.{Accounts.{Account, granule_of, is_new, passes_granule_limit, root_checks}, declared.ends.StepEnd.{StepEnd, TheVariants.{NoMemory, Refused}}}
use Rattle.cap_machine.specs.Helds.{EndsRoot, Held, IsKept, account_of, code_in, state_of}
use Rattle.cap_machine.specs.{Labels.{labelled, with_labelled_root}, Places.{IsCoded, place_at}, States.{State, key_of, put, tagged}}
use Rattle.cap_objects.specs.{Counts.{CountsAre, Owners}, declared.{handouts.Handouts.Handouts}}
use Rattle.cap_objects.specs.{Handed.held_of, HandoutsIn.objects_of}
use Rattle.cap_run_log.specs.declared.lines.{RunPlace.TheVariants.Special}
use Rattle.cap_run.specs.declared.{ends.{RunRefusal.{RunRefusal, TheVariants.Usual}}, specials.Specials.Specials}
use Rattle.cap_run.specs.{Numbers.{by_number, numbered, numbered_run}, Owned.{AreWithin, IsWithin, object_by}, RootSteps.{CountsRoot, EndsCount, count_checks}, Run.{Run, first_special, with_specials}}
use Rattle.cap_run_log.specs.UsualLines.{in_run}
use Rattle.cap_run.specs.{RunChanges.root_after, RunChecks.{Answers, root_end, root_wants, usual_ended}, RunOf.{run_owners, run_state}}
use Rattle.cap_run.specs.Specials.{cap_in, harts_in, label_in}
use Rattle.cap_run.proofs.{GranuleLemmas.put-kept, PlaceLemmas.{choice_under, with-main, with-special}, RunNumberLemmas.{index_in, run-is}, UsualLemmas.place-low}

-- the first of the checks of version 2 that fails
usual_or : (b : Bool) (refusal : Refusal) (rest : Option RunRefusal) (usual : Option Refusal) → rest ≡ option_map Usual usual
    → (if b then Some (Usual refusal) else rest) ≡ option_map Usual (if b then Some refusal else usual)
usual_or true refusal rest usual is = refl
usual_or false refusal rest usual is = is

pub first-usual : (checks : List (Bool × Refusal)) → first_of (map (λ (c : Bool × Refusal). (c.0, Usual c.1)) checks) ≡ option_map Usual (first_of checks)
first-usual [] = refl
first-usual (check ∷ checks) = usual_or check.0 check.1 _ _ (first-usual checks)

-- a register or a granule without a tag has no owner
pub main-unowned : (held : Held) (specials : Specials) (key : ℕ) → key < first_special → IsKept held.registers held.codes held.memory
    → (state_of held key).tag ≡ false → run_owners held specials key ≡ None
main-unowned held specials key low known none =
    cond-true (nat_lt key first_special) (object_by (place_at (code_in held key))) _ (lt-ltb key first_special low)
    ∙ ap (λ (code : ℕ). object_by (place_at code)) ((known.coded key).0.1 none)

pub special-unowned : (held : Held) (specials : Specials) (number : ℕ) → IsCoded (cap_in specials number).tag (label_in specials number)
    → (cap_in specials number).tag ≡ false → run_owners held specials (first_special + number) ≡ None
special-unowned held specials number coded none =
    let back : first_special + number - first_special ≡ number = omega arith in
    cond-false (nat_lt (first_special + number) first_special) _ (object_by (place_at (label_in specials (first_special + number - first_special))))
    (le-ltb (first_special + number) first_special (omega arith))
    ∙ ap (λ (n : ℕ). object_by (place_at (label_in specials n))) back ∙ ap (λ (l : ℕ). object_by (place_at l)) (coded.0.1 none)

-- what a register or a granule, and a special register, holds
pub main-holds : (held : Held) (specials : Specials) (key : ℕ) → key < first_special → run_state held specials key ≡ state_of held key
main-holds held specials key low = cond-true (nat_lt key first_special) (state_of held key) _ (lt-ltb key first_special low)

pub special-holds : (held : Held) (specials : Specials) (number : ℕ) → run_state held specials (first_special + number) ≡ cap_in specials number
special-holds held specials number =
    let back : first_special + number - first_special ≡ number = omega arith in
    cond-false (nat_lt (first_special + number) first_special) _ (cap_in specials (first_special + number - first_special))
    (le-ltb (first_special + number) first_special (omega arith))
    ∙ ap (cap_in specials) back

-- a place that no object owns got a root
module _ (held new : Held) (specials sp : Specials) (h : Handouts) (key : ℕ) (word : Word)
    (state_is : run_state new sp ≡ put (run_state held specials) key (tagged word))
    (unowned : run_owners held specials key ≡ None)
    (owners_are : (other : ℕ) → run_owners new sp other ≡ put (run_owners held specials) key None other) where
  pub root-owners : run_owners new sp ≡ run_owners held specials
  root-owners = fun_ext (λ other. owners_are other ∙ put-kept (run_owners held specials) key None (sym unowned) other)

  pub root-counted : CountsAre (run_owners held specials) (λ n. held_of (objects_of h n)) → CountsAre (run_owners new sp) (λ n. held_of (objects_of h n))
  root-counted are = subst (λ (o : Owners). CountsAre o (λ n. held_of (objects_of h n))) (sym root-owners) are

  pub root-within : AreWithin (run_state held specials) (run_owners held specials) (objects_of h) → AreWithin (run_state new sp) (run_owners new sp) (objects_of h)
  root-within within other slot o owned there =
      let was : run_owners held specials other ≡ Some slot = ap (λ (f : Owners). f other) (sym root-owners) ∙ owned in
      let differ : key ≢ other = λ same. none-some slot (sym (ap (run_owners held specials) (sym same) ∙ unowned) ∙ was) in
      subst (λ (c : Cap). IsWithin c o)
      (sym (ap (λ (f : State). f other) state_is ∙ cond-false (key == other) (tagged word) (run_state held specials other) (ne_eqb key other differ)))
      (within other slot o was there)

module _ (held : Held) (specials : Specials) (h : Handouts) (place : Place) (word : Word) (low : IsPlace place) where
  -- what the machine's registers and granules then hold
  put_in : (p : Place) (account : Account) → (let after = with_labelled_root account p word 1 in
      (after.state ≡ put account.state (key_of p) (tagged word)) × (after.origin ≡ put account.origin (key_of p) (place_at 1))
      × (after.steps ≡ account.steps))
  put_in (Register n) account = (refl, refl, refl)
  put_in (Granule n) account = (refl, refl, refl)

  -- a root that was put into a register or a granule
  pub main-state : (new : Held) → account_of new ≡ with_labelled_root (account_of held) place word 1
      → run_state new specials ≡ put (run_state held specials) (key_of place) (tagged word)
  main-state new account =
      ap (λ (a : Account). with_specials a.state (cap_in specials)) account
      ∙ ap (λ (m : State). with_specials m (cap_in specials)) (put_in place (account_of held)).0
      ∙ fun_ext (with-main (state_of held) (cap_in specials) (key_of place) (tagged word) (place-low place low))

  pub main-owners : (new : Held) → account_of new ≡ with_labelled_root (account_of held) place word 1
      → (other : ℕ) → run_owners new specials other ≡ put (run_owners held specials) (key_of place) None other
  main-owners new account other =
      let by : (ℕ → Option Place) → ℕ → Option ℕ = λ origin key. object_by (origin key) in
      let special : ℕ → Option ℕ = λ number. object_by (place_at (label_in specials number)) in
      ap (λ (a : Account). with_specials (by a.origin) special other) account
      ∙ ap (λ (o : ℕ → Option Place). with_specials (by o) special other) (put_in place (account_of held)).1
      ∙ ap (λ (m : ℕ → Option ℕ). with_specials m special other)
      (fun_ext (λ k. choice_under object_by (key_of place == k) (place_at 1) ((account_of held).origin k)))
      ∙ with-main (by (account_of held).origin) special (key_of place) None (place-low place low) other

  pub root-end : held.steps ≡ 0 → root_end (numbered_run held specials h) (in_run place) word ≡ option_map Usual (first_of (root_checks (account_of held) place word))
  root-end first =
      let run = numbered_run held specials h in
      let none : nat_lt 0 held.steps ≡ false = ap (nat_lt 0) first in
      by place low none
    where
      by : (p : Place) → IsPlace p → nat_lt 0 held.steps ≡ false
          → root_end (numbered_run held specials h) (in_run p) word ≡ option_map Usual (first_of (root_checks (account_of held) p word))
      by (Register n) low none =
          let run = numbered_run held specials h in
          let limit = nat_le run.limits.roots run.roots || passes_granule_limit (account_of held) None in
          let checks : Bool → List (Bool × Refusal) = λ t. (t, PlaceTaken) ∷ (not (is_sound word.0), UnsoundRoot) ∷ (limit, LimitPassed) ∷ [] in
          cond-false (nat_lt 0 held.steps) _ (first_of (map (λ (c : Bool × Refusal). (c.0, Usual c.1)) (checks (run.state n).tag))) none
          ∙ first-usual (checks (run.state n).tag)
          ∙ ap (λ (c : Cap). option_map Usual (first_of (checks c.tag))) (main-holds held specials n (place-low (Register n) low))
      by (Granule g) low none =
          let run = numbered_run held specials h in
          let key = key_of (Granule g) in
          let limit = nat_le run.limits.roots run.roots || passes_granule_limit (account_of held) (Some g) in
          let checks : Bool → List (Bool × Refusal) = λ t. (t, PlaceTaken) ∷ (not (is_sound word.0), UnsoundRoot) ∷ (limit, LimitPassed) ∷ [] in
          cond-false (nat_lt 0 held.steps) _ (first_of (map (λ (c : Bool × Refusal). (c.0, Usual c.1)) (checks (run.state key).tag))) none
          ∙ first-usual (checks (run.state key).tag)
          ∙ ap (λ (c : Cap). option_map Usual (first_of (checks c.tag))) (main-holds held specials key (place-low (Granule g) low))

  pub root-refused : (end : StepEnd) (new : Held) → held.steps ≡ 0 → EndsRoot held place word end new
      → (let run = numbered_run held specials h in
      Answers (root_end run (in_run place) word) (root_after run (in_run place) word) (root_wants run (in_run place)) run (Err (usual_ended end))
      (numbered_run new specials h))
  root-refused (Refused refusal) new first is =
      (root-end first ∙ ap (option_map Usual) is.0, ap (λ (x : Held). numbered_run x specials h) is.1)
  root-refused NoMemory new first is =
      (root-end first ∙ ap (option_map Usual) is.0, wants place is.1, ap (λ (x : Held). numbered_run x specials h) is.2)
    where
      wants : (p : Place) → IsTrue (is_new (account_of held) (granule_of p)) → IsTrue (root_wants (numbered_run held specials h) (in_run p))
      wants (Register n) new_is = new_is
      wants (Granule g) new_is = new_is

put-over : {A : Type 0} (told : ℕ → A) (key : ℕ) (under value : A) (other : ℕ) → put (put told key under) key value other ≡ put told key value other
put-over told key under value other = over (key == other) value under (told other)
  where
    over : {A : Type 0} (b : Bool) (x y z : A) → (if b then x else (if b then y else z)) ≡ (if b then x else z)
    over true x y z = refl
    over false x y z = refl

or_false : (b : Bool) → (b || false) ≡ b
or_false true = refl
or_false false = refl

-- a root that c1 held for a moment was counted
module _ (old one two new : Held) (nothing held : Cap) (label : ℕ) (word : Word) (none : nothing.tag ≡ false)
    (first : account_of one ≡ labelled (account_of old) 1 nothing 0) (last : account_of new ≡ labelled (account_of two) 1 held label)
    (held_is : held ≡ state_of old 1) (label_is : label ≡ code_in old 1) where
  -- c1 holds again what it held
  back : (roots : ℕ) (mid : State) (origin : ℕ → Option Place) (under : Cap) (code : Option Place)
      → mid ≡ put (state_of old) 1 under → origin ≡ put (λ key. place_at (code_in old key)) 1 code
      → account_of two ≡ record (account_of old) { state = mid; origin = origin; roots = roots }
      → account_of new ≡ record (account_of old) { roots = roots }
  back roots mid origin under code mid_is origin_is is =
      let A = account_of old in
      last ∙ ap (λ (a : Account). labelled a 1 held label) is
      ∙ ap (λ (m : State). record A { state = put m 1 held; origin = put origin 1 (place_at label); roots = roots }) mid_is
      ∙ ap (λ (m : ℕ → Option Place). record A { state = put (put A.state 1 under) 1 held; origin = put m 1 (place_at label); roots = roots }) origin_is
      ∙ ap (λ (m : State). record A { state = m; origin = put (put A.origin 1 code) 1 (place_at label); roots = roots })
      (fun_ext (λ k. put-over A.state 1 under held k ∙ put-kept A.state 1 held held_is k))
      ∙ ap (λ (m : ℕ → Option Place). record A { origin = m; roots = roots })
      (fun_ext (λ k. put-over A.origin 1 code (place_at label) k ∙ put-kept A.origin 1 (place_at label) (ap place_at label_is) k))

  -- its checks
  counted-checks : first_of (root_checks (account_of one) (Register 1) word) ≡ first_of (count_checks old word)
  counted-checks =
      ap (λ (a : Account). first_of (root_checks a (Register 1) word)) first
      ∙ ap (λ (t : Bool). first_of ((t, PlaceTaken) ∷ (not (is_sound word.0), UnsoundRoot) ∷ (nat_le old.limits.roots old.roots || false, LimitPassed) ∷ [])) none
      ∙ ap (λ (l : Bool). first_of ((not (is_sound word.0), UnsoundRoot) ∷ (l, LimitPassed) ∷ [])) (or_false (nat_le old.limits.roots old.roots))

  pub count-root : (result : Result (Unit {0}) StepEnd)
      → MatchResult result
      (λ _. (first_of (root_checks (account_of one) (Register 1) word) ≡ None) × (account_of two ≡ with_labelled_root (account_of one) (Register 1) word 1))
      (λ end. EndsRoot one (Register 1) word end two)
      → MatchResult result (λ _. CountsRoot old word new) (λ end. EndsCount old word end new)
  count-root (Ok done) is = record {
    checks = sym counted-checks ∙ is.0;
    account = back (old.roots + 1) _ _ (tagged word) (place_at 1)
        (fun_ext (put-over (state_of old) 1 nothing (tagged word))) (fun_ext (put-over (λ key. place_at (code_in old key)) 1 (place_at 0) (place_at 1)))
        (is.1 ∙ ap (λ (a : Account). with_labelled_root a (Register 1) word 1) first);
  }
  count-root (Err (Refused refusal)) is = (
    sym counted-checks ∙ is.0,
    back old.roots _ _ nothing (place_at 0) refl refl (ap account_of is.1 ∙ first),
  )
  count-root (Err NoMemory) is = absurd (false≢true is.1)

-- a run depends on a machine's account alone
abbrev run_by : Account → Specials → Handouts → Run
run_by account specials h =
    let objects = objects_of h in
    record {
      state = with_specials account.state (cap_in specials);
      owners = numbered objects (with_specials (λ key. object_by (account.origin key)) (λ number. object_by (place_at (label_in specials number))));
      objects = by_number (index_in h) objects;
      count = h.count;
      harts = harts_in specials;
      rules = account.rules;
      limits = account.limits;
      roots = account.roots;
      steps = account.steps;
      is_named = account.is_named;
      granules = account.granules;
    }

pub run-account : (held new : Held) (specials : Specials) (h : Handouts) → account_of new ≡ account_of held → numbered_run new specials h ≡ numbered_run held specials h
run-account held new specials h is = ap (λ (a : Account). run_by a specials h) is

pub same-counted : (held new : Held) (specials : Specials) (h : Handouts) → account_of new ≡ account_of held
    → CountsAre (run_owners held specials) (λ n. held_of (objects_of h n)) → CountsAre (run_owners new specials) (λ n. held_of (objects_of h n))
same-counted held new specials h is are =
    subst (λ (a : Account). CountsAre (with_specials (λ key. object_by (a.origin key)) (λ number. object_by (place_at (label_in specials number))))
    (λ n. held_of (objects_of h n))) (sym is) are

pub same-within : (held new : Held) (specials : Specials) (h : Handouts) → account_of new ≡ account_of held
    → AreWithin (run_state held specials) (run_owners held specials) (objects_of h) → AreWithin (run_state new specials) (run_owners new specials) (objects_of h)
same-within held new specials h is within =
    subst (λ (a : Account). AreWithin (with_specials a.state (cap_in specials))
    (with_specials (λ key. object_by (a.origin key)) (λ number. object_by (place_at (label_in specials number)))) (objects_of h)) (sym is) within

pub ended-account : (old : Held) (word : Word) (end : StepEnd) (new : Held) → EndsCount old word end new → account_of new ≡ account_of old
ended-account old word (Refused refusal) new is = is.1
ended-account old word NoMemory new is = absurd is

pub ended-root : (old : Held) (place : Place) (word : Word) (end : StepEnd) (new : Held) → EndsRoot old place word end new → new ≡ old
ended-root old place word (Refused refusal) new is = is.1
ended-root old place word NoMemory new is = is.2

-- a root that was put into a special register
module _ (held new : Held) (specials sp : Specials) (h : Handouts) (number : ℕ) (word : Word)
    (caps : cap_in sp ≡ put (cap_in specials) number (tagged word)) (labels : label_in sp ≡ put (label_in specials) number 1)
    (harts : harts_in sp ≡ harts_in specials)
    (counts : CountsRoot held word new) where
  pub special-state : run_state new sp ≡ put (run_state held specials) (first_special + number) (tagged word)
  special-state =
      ap (λ (a : Account). with_specials a.state (cap_in sp)) counts.account
      ∙ ap (λ (s : ℕ → Cap). with_specials (state_of held) s) caps
      ∙ fun_ext (with-special (state_of held) (cap_in specials) number (tagged word))

  pub special-owners : (other : ℕ) → run_owners new sp other ≡ put (run_owners held specials) (first_special + number) None other
  special-owners other =
      let main : ℕ → Option ℕ = λ key. object_by ((account_of held).origin key) in
      let special : ℕ → Option ℕ = λ n. object_by (place_at (label_in specials n)) in
      ap (λ (a : Account). with_specials (λ key. object_by (a.origin key)) (λ n. object_by (place_at (label_in sp n))) other) counts.account
      ∙ ap (λ (l : ℕ → ℕ). with_specials main (λ n. object_by (place_at (l n))) other) labels
      ∙ ap (λ (s : ℕ → Option ℕ). with_specials main s other)
      (fun_ext (λ k. choice_under (λ l. object_by (place_at l)) (number == k) 1 (label_in specials k)))
      ∙ with-special main special number None other

  pub special-after : run_owners held specials (first_special + number) ≡ None
      → numbered_run new sp h ≡ root_after (numbered_run held specials h) (Special number) word
  special-after unowned =
      let run = numbered_run held specials h in
      run-is (numbered_run new sp h) (root_after run (Special number) word) special-state
      (ap (numbered (objects_of h)) (root-owners held new specials sp h (first_special + number) word special-state unowned special-owners))
      refl refl (ap (λ (a : Account). a.rules) counts.account) (ap (λ (a : Account). a.limits) counts.account) (ap (λ (a : Account). a.roots) counts.account) (ap (λ (a : Account). a.steps) counts.account)
      (ap (λ (a : Account). a.is_named) counts.account) (ap (λ (a : Account). a.granules) counts.account) harts

-- why it isn't put
pub special-end : (held : Held) (specials : Specials) (h : Handouts) (number : ℕ) (word : Word) → held.steps ≡ 0 → (cap_in specials number).tag ≡ false
    → root_end (numbered_run held specials h) (Special number) word ≡ option_map Usual (first_of (count_checks held word))
special-end held specials h number word first none =
    let run = numbered_run held specials h in
    let zero : nat_lt 0 held.steps ≡ false = ap (nat_lt 0) first in
    let limit = nat_le held.limits.roots held.roots || false in
    let free : (run.state (first_special + number)).tag ≡ false = ap (λ (c : Cap). c.tag) (special-holds held specials number) ∙ none in
    cond-false (nat_lt 0 held.steps) _ _ zero
    ∙ cond-false (run.state (first_special + number)).tag _ _ free
    ∙ ap (λ (l : Bool). first_of ((not (is_sound word.0), Usual UnsoundRoot) ∷ (l, Usual LimitPassed) ∷ [])) (or_false (nat_le held.limits.roots held.roots))
    ∙ first-usual (count_checks held word)

pub special-refused : (held new : Held) (specials : Specials) (h : Handouts) (number : ℕ) (word : Word) → held.steps ≡ 0 → (cap_in specials number).tag ≡ false
    → (end : StepEnd) → EndsCount held word end new
    → (let run = numbered_run held specials h in
    Answers (root_end run (Special number) word) (root_after run (Special number) word) (root_wants run (Special number)) run (Err (usual_ended end))
    (numbered_run new specials h))
special-refused held new specials h number word first none (Refused refusal) is = (
  special-end held specials h number word first none ∙ ap (option_map Usual) is.0,
  run-account held new specials h is.1,
)
special-refused held new specials h number word first none NoMemory is = absurd is

-- a root that was put into a general-purpose register or a granule
pub main-after : (held new : Held) (specials : Specials) (h : Handouts) (place : Place) (word : Word) → IsPlace place → run_owners held specials (key_of place) ≡ None
    → account_of new ≡ with_labelled_root (account_of held) place word 1
    → numbered_run new specials h ≡ root_after (numbered_run held specials h) (in_run place) word
main-after held new specials h (Register n) word low unowned account =
    let run = numbered_run held specials h in
    let state = main-state held specials h (Register n) word low new account in
    run-is (numbered_run new specials h) (root_after run (in_run (Register n)) word) state
    (ap (numbered (objects_of h)) (root-owners held new specials specials h n word state unowned (main-owners held specials h (Register n) word low new account)))
    refl refl (ap (λ (a : Account). a.rules) account) (ap (λ (a : Account). a.limits) account) (ap (λ (a : Account). a.roots) account) (ap (λ (a : Account). a.steps) account)
    (ap (λ (a : Account). a.is_named) account) (ap (λ (a : Account). a.granules) account) refl
main-after held new specials h (Granule n) word low unowned account =
    let run = numbered_run held specials h in
    let state = main-state held specials h (Granule n) word low new account in
    run-is (numbered_run new specials h) (root_after run (in_run (Granule n)) word) state
    (ap (numbered (objects_of h)) (root-owners held new specials specials h (key_of (Granule n)) word state unowned (main-owners held specials h (Granule n) word low new account)))
    refl refl (ap (λ (a : Account). a.rules) account) (ap (λ (a : Account). a.limits) account) (ap (λ (a : Account). a.roots) account) (ap (λ (a : Account). a.steps) account)
    (ap (λ (a : Account). a.is_named) account) (ap (λ (a : Account). a.granules) account) refl

-- the place of a root that was taken held no tag
pub taken-free : (account : Account) (place : Place) (word : Word) → first_of (root_checks account place word) ≡ None → (account.state (key_of place)).tag ≡ false
taken-free account place word is = by (account.state (key_of place)).tag _ is
  where
    by : (b : Bool) (rest : Option Refusal) → (if b then Some PlaceTaken else rest) ≡ None → b ≡ false
    by true rest is = absurd (none-some PlaceTaken (sym is))
    by false rest is = refl

-- what is kept where a root is put, or isn't
pub main-kept : (held new : Held) (specials : Specials) (h : Handouts) (place : Place) (word : Word) → IsPlace place → IsKept held.registers held.codes held.memory
    → CountsAre (run_owners held specials) (λ n. held_of (objects_of h n)) → AreWithin (run_state held specials) (run_owners held specials) (objects_of h)
    → (result : Result (Unit {0}) StepEnd)
    → MatchResult result (λ _. (first_of (root_checks (account_of held) place word) ≡ None) × (account_of new ≡ with_labelled_root (account_of held) place word 1))
    (λ end. EndsRoot held place word end new)
    → CountsAre (run_owners new specials) (λ n. held_of (objects_of h n)) × AreWithin (run_state new specials) (run_owners new specials) (objects_of h)
    × (new.steps ≡ held.steps)
main-kept held new specials h place word low known counts within (Ok done) took =
    let key = key_of place in
    let unowned = main-unowned held specials key (place-low place low) known (taken-free (account_of held) place word took.0) in
    let state = main-state held specials h place word low new took.1 in
    let owners = main-owners held specials h place word low new took.1 in (
      root-counted held new specials specials h key word state unowned owners counts,
      root-within held new specials specials h key word state unowned owners within,
      ap (λ (a : Account). a.steps) took.1 ∙ (put_in held specials h place word low place (account_of held)).2,
    )
main-kept held new specials h place word low known counts within (Err end) is =
    let same = sym (ended-root held place word end new is) in (
      subst (λ (x : Held). CountsAre (run_owners x specials) (λ n. held_of (objects_of h n))) same counts,
      subst (λ (x : Held). AreWithin (run_state x specials) (run_owners x specials) (objects_of h)) same within,
      sym (ap (λ (x : Held). x.steps) same),
    )
