-- What is asked of accesses.
use Rattle.std.specs.Option.{option_map_or}
use Rattle.std.specs.Prelude.{IfNone, IfSome}
use Rattle.std.proofs.Common.{◌≡◌, ◌+◌, ◌&&◌, not, ℕ, Bool, true, false, Some, None, Option, is_none, List, [], ◌∷◌, ◌++◌, map, option_map, option_and_then, if◌then◌else◌}
use Rattle.std.proofs.Common.{refl, sym, ap, subst, ◌∙◌}
use Rattle.std.proofs.lemmas.{List.append_assoc, Option.none-some}
use Rattle.cap_log.specs.declared.kinds.Step.{Step}
use Rattle.cap_ops.specs.{declared.refusal.Refusal.Refusal, Checks.first_of}
use Rattle.tagmem.specs.Granules.{AreStored}
use Rattle.cap_machine.specs.{Accounts.{Account, row_in}, declared.rules.Rules.{Rules, TheVariants.{One, TwoClear, TwoStrict}}, Helds.{Held, account_of, state_of}}
use Rattle.cap_machine.specs.Steps.{Access, Row, clear_row, row_by, row_of}
use Rattle.cap_machine.proofs.StepLemmas.{row_by-access}
use Rattle.cap_objects.specs.{declared.{handouts.Handouts.Handouts, objects.Object.Object}, Handed.{HasRoom, RefusesExtent}, HandoutsIn.objects_of}
use Rattle.cap_objects.specs.declared.handouts.HandOutFault.TheVariants as hand
use Rattle.cap_run.specs.declared.{asks.Asks.Asks, ends.RunRefusal.{RunRefusal, TheVariants.{NotOwned, OwnerFreed, Overlaps, StillHeld, Usual}}, specials.Specials.Specials}
use Rattle.cap_run.specs.{Numbers.{number_at, numbered_run}, Run.Run, RunChecks.{asked_checks, extent_end, is_freed, is_live, is_unowned, meets, usual_end, uses_freed}}
use Rattle.cap_run.specs.{RunOf.run_owners, RunSteps.or_later}
use Rattle.cap_run.proofs.{MeetLemmas.{extent-held, extent-overlaps, extent-room, first_check, no_check, second_check}, NumberLemmas.at-number, RunNumberLemmas.{IsNumbered, index_in}}
pub use Rattle.cap_run.proofs.UsualNumberLemmas.{asks_nothing}
use Rattle.cap_run.proofs.UsualNumberLemmas.{account-is, last_checks, usual_check}

-- whether the first of two checks fails
abbrev pub overlaps : Option RunRefusal → Bool
overlaps (Some Overlaps) = true
overlaps refusal = false

pub overlaps-first : (a b : Bool) → overlaps (first_of ((a, Overlaps) ∷ (b, StillHeld) ∷ [])) ≡ a
overlaps-first true b = refl
overlaps-first false true = refl
overlaps-first false false = refl

-- whether an interval shares an address with a live object's extent
module _ (held : Held) (specials : Specials) (h : Handouts) (asks : Asks) (keeps : h.keeps ≡ asks.held) (base top : ℕ) where
  meets-is : (end : Option RunRefusal) → extent_end asks (numbered_run held specials h) None base top ≡ end
      → meets (numbered_run held specials h) None is_live base top ≡ overlaps end
  meets-is end is =
      let run = numbered_run held specials h in
      sym (overlaps-first (meets run None is_live base top) (asks.held && meets run None is_freed base top)) ∙ ap overlaps is

  left_alone : (slot : ℕ) (o : Object) → objects_of h slot ≡ Some o → None ≡ Some o.number → None ≡ Some slot
  left_alone slot o there is = absurd (none-some o.number is)

  left_alone_too : (slot : ℕ) (o : Object) → objects_of h slot ≡ Some o → None ≡ Some slot → None ≡ Some o.number
  left_alone_too slot o there is = absurd (none-some slot is)

  pub live-room : HasRoom h.keeps None (objects_of h) base top → meets (numbered_run held specials h) None is_live base top ≡ false
  live-room room =
      meets-is None (extent-room (numbered_run held specials h) (objects_of h) (index_in h) h.kept.numbered refl h.kept.few h.kept.long asks None None
      left_alone left_alone_too base top (subst (λ (k : Bool). HasRoom k None (objects_of h) base top) keeps room))

  pub live-overlaps : (slot : ℕ) → RefusesExtent h.keeps None (objects_of h) base top (hand.Overlaps slot)
      → meets (numbered_run held specials h) None is_live base top ≡ true
  live-overlaps slot refuses =
      meets-is (Some Overlaps) (extent-overlaps (numbered_run held specials h) (objects_of h) (index_in h) h.kept.numbered refl h.kept.few h.kept.long asks None None
      left_alone left_alone_too base top slot (subst (λ (k : Bool). RefusesExtent k None (objects_of h) base top (hand.Overlaps slot)) keeps refuses))

  pub live-held : (slot : ℕ) → RefusesExtent h.keeps None (objects_of h) base top (hand.StillHeld slot)
      → meets (numbered_run held specials h) None is_live base top ≡ false
  live-held slot refuses =
      meets-is (Some StillHeld) (extent-held (numbered_run held specials h) (objects_of h) (index_in h) h.kept.numbered refl h.kept.few h.kept.long asks None None
      left_alone left_alone_too base top slot (subst (λ (k : Bool). RefusesExtent k None (objects_of h) base top (hand.StillHeld slot)) keeps refuses))

twice_not : (b : Bool) → not (not b) ≡ b
twice_not true = refl
twice_not false = refl

pub and_none : (b : Bool) → (b && false) ≡ false
and_none true = refl
and_none false = refl

module _ (held : Held) (specials : Specials) (h : Handouts) (index : IsNumbered h) (asks : Asks) (access : Access) where
  -- an authority with an owner
  owner_freed : (slot : ℕ) (o : Object) → run_owners held specials access.authority ≡ Some slot → objects_of h slot ≡ Some o
      → (uses_freed (numbered_run held specials h) access ≡ o.freed) × (is_unowned (numbered_run held specials h) access ≡ false)
  owner_freed slot o owner there =
      let run = numbered_run held specials h in
      let number : run.owners access.authority ≡ Some o.number =
      ap (option_and_then (number_at (objects_of h))) owner ∙ ap (option_map (λ object. object.number)) there in
      let object : run.objects o.number ≡ Some o = at-number (objects_of h) (index_in h) index slot o there in (
        ap (λ (n : Option ℕ). option_map_or (λ number. not (option_map_or is_live (run.objects number) false)) n false) number
            ∙ ap (λ (x : Option Object). not (option_map_or is_live x false)) object ∙ twice_not o.freed,
        ap (λ (n : Option ℕ). is_none n && meets run None is_live access.address (access.address + access.size)) number,
      )

  -- one without
  owner_none : run_owners held specials access.authority ≡ None
      → (uses_freed (numbered_run held specials h) access ≡ false)
      × (is_unowned (numbered_run held specials h) access ≡ meets (numbered_run held specials h) None is_live access.address (access.address + access.size))
  owner_none owner =
      let run = numbered_run held specials h in
      let number : run.owners access.authority ≡ None = ap (option_and_then (number_at (objects_of h))) owner in (
        ap (λ (n : Option ℕ). option_map_or (λ number. not (option_map_or is_live (run.objects number) false)) n false) number,
        ap (λ (n : Option ℕ). is_none n && meets run None is_live access.address (access.address + access.size)) number,
      )

  pub asked-freed : (slot : ℕ) (o : Object) → run_owners held specials access.authority ≡ Some slot → objects_of h slot ≡ Some o
      → (asks.used && o.freed) ≡ true → first_of (asked_checks asks (numbered_run held specials h) (Some access)) ≡ Some OwnerFreed
  asked-freed slot o owner there is =
      let run = numbered_run held specials h in
      first_check (asks.used && uses_freed run access) (asks.owned && is_unowned run access) OwnerFreed NotOwned
      (ap (λ (b : Bool). asks.used && b) (owner_freed slot o owner there).0 ∙ is)

  pub asked-allowed : (slot : ℕ) (o : Object) → run_owners held specials access.authority ≡ Some slot → objects_of h slot ≡ Some o
      → (asks.used && o.freed) ≡ false → first_of (asked_checks asks (numbered_run held specials h) (Some access)) ≡ None
  asked-allowed slot o owner there is =
      let run = numbered_run held specials h in
      no_check (asks.used && uses_freed run access) (asks.owned && is_unowned run access) OwnerFreed NotOwned
      (ap (λ (b : Bool). asks.used && b) (owner_freed slot o owner there).0 ∙ is)
      (ap (λ (b : Bool). asks.owned && b) (owner_freed slot o owner there).1 ∙ and_none asks.owned)

  pub asked-unowned : run_owners held specials access.authority ≡ None → asks.owned ≡ true
      → meets (numbered_run held specials h) None is_live access.address (access.address + access.size) ≡ true
      → first_of (asked_checks asks (numbered_run held specials h) (Some access)) ≡ Some NotOwned
  asked-unowned owner owned is =
      let run = numbered_run held specials h in
      second_check (asks.used && uses_freed run access) (asks.owned && is_unowned run access) OwnerFreed NotOwned
      (ap (λ (b : Bool). asks.used && b) (owner_none owner).0 ∙ and_none asks.used)
      (ap (λ (b : Bool). b && is_unowned run access) owned ∙ (owner_none owner).1 ∙ is)

  pub asked-none : run_owners held specials access.authority ≡ None
      → (asks.owned && meets (numbered_run held specials h) None is_live access.address (access.address + access.size)) ≡ false
      → first_of (asked_checks asks (numbered_run held specials h) (Some access)) ≡ None
  asked-none owner is =
      let run = numbered_run held specials h in
      no_check (asks.used && uses_freed run access) (asks.owned && is_unowned run access) OwnerFreed NotOwned
      (ap (λ (b : Bool). asks.used && b) (owner_none owner).0 ∙ and_none asks.used)
      (ap (λ (b : Bool). asks.owned && b) (owner_none owner).1 ∙ is)

-- checks after one another
pub first-append : (one two : List (Bool × RunRefusal)) → first_of (one ++ two) ≡ or_later (first_of one) (first_of two)
first-append [] two = refl
first-append (check ∷ checks) two = by check.0 check.1 _ (first-append checks two)
  where
    by : (b : Bool) (refusal : RunRefusal) (rest : Option RunRefusal) → rest ≡ or_later (first_of checks) (first_of two)
        → (if b then Some refusal else rest) ≡ or_later (if b then Some refusal else first_of checks) (first_of two)
    by true refusal rest is = refl
    by false refusal rest is = is

usual_none : (checks : List (Bool × Refusal)) → first_of checks ≡ None → first_of (map usual_check checks) ≡ None
usual_none [] is = refl
usual_none (check ∷ checks) is = by check.0 check.1 is (λ e. usual_none checks e)
  where
    by : (b : Bool) (refusal : Refusal) → (if b then Some refusal else first_of checks) ≡ None → (first_of checks ≡ None → first_of (map usual_check checks) ≡ None)
        → (if b then Some (Usual refusal) else first_of (map usual_check checks)) ≡ None
    by true refusal is rest = absurd (none-some refusal (sym is))
    by false refusal is rest = rest is

usual_some : (checks : List (Bool × Refusal)) (refusal : Refusal) → first_of checks ≡ Some refusal → first_of (map usual_check checks) ≡ Some (Usual refusal)
usual_some [] refusal is = absurd (none-some refusal is)
usual_some (check ∷ checks) refusal is = by check.0 check.1 is (λ e. usual_some checks refusal e)
  where
    by : (b : Bool) (other : Refusal) → (if b then Some other else first_of checks) ≡ Some refusal
        → (first_of checks ≡ Some refusal → first_of (map usual_check checks) ≡ Some (Usual refusal))
        → (if b then Some (Usual other) else first_of (map usual_check checks)) ≡ Some (Usual refusal)
    by true other is rest = ap (option_map (λ r. Usual r)) is
    by false other is rest = rest is

-- the checks of a step by what is asked
module _ (checks : List (Bool × Refusal)) (asked nothing last : List (Bool × RunRefusal)) (passes : first_of nothing ≡ None) where
  parts : (middle : List (Bool × RunRefusal)) → first_of (map usual_check checks ++ middle ++ last)
      ≡ or_later (first_of (map usual_check checks)) (or_later (first_of middle) (first_of last))
  parts middle =
      ap first_of (append_assoc (map usual_check checks) middle last) ∙ first-append (map usual_check checks) (middle ++ last)
      ∙ ap (or_later (first_of (map usual_check checks))) (first-append middle last)

  pub asked-first : (refusal : RunRefusal) → first_of checks ≡ None → first_of asked ≡ Some refusal → first_of (map usual_check checks ++ asked ++ last) ≡ Some refusal
  asked-first refusal none some =
      parts asked ∙ ap (λ (o : Option RunRefusal). or_later o (or_later (first_of asked) (first_of last))) (usual_none checks none)
      ∙ ap (λ (o : Option RunRefusal). or_later o (first_of last)) some

  by_first : (o : Option Refusal) → first_of checks ≡ o → (first_of checks ≡ None → first_of asked ≡ None)
      → first_of (map usual_check checks ++ asked ++ last) ≡ first_of (map usual_check checks ++ nothing ++ last)
  by_first (Some refusal) is given =
      let usual = usual_some checks refusal is in
      parts asked ∙ ap (λ (o : Option RunRefusal). or_later o (or_later (first_of asked) (first_of last))) usual
      ∙ sym (parts nothing ∙ ap (λ (o : Option RunRefusal). or_later o (or_later (first_of nothing) (first_of last))) usual)
  by_first None is given =
      parts asked ∙ ap (λ (o : Option RunRefusal). or_later (first_of (map usual_check checks)) (or_later o (first_of last))) (given is ∙ sym passes)
      ∙ sym (parts nothing)

  pub asked-passed : (first_of checks ≡ None → first_of asked ≡ None)
      → first_of (map usual_check checks ++ asked ++ last) ≡ first_of (map usual_check checks ++ nothing ++ last)
  asked-passed given = by_first (first_of checks) refl given

-- a row without an access
pub row-none : (rules_are : Rules) (row : Row) → row.access ≡ None → (row_by rules_are row).access ≡ None
row-none One row is = is
row-none TwoStrict row is = is
row-none TwoClear row is = ap (λ (a : Option Access). (clear_row a row).access) is ∙ is

module _ (held : Held) (specials : Specials) (h : Handouts) (step : Step) (asks : Asks) (stored : AreStored held.memory) where
  run : Run
  run = numbered_run held specials h

  end_of : Asks → Account → Option RunRefusal
  end_of given a = let row = row_in a step in first_of (map usual_check row.checks ++ asked_checks given run row.access ++ map usual_check (last_checks a step))

  -- why a step is refused, by its row in the machine without objects
  pub end-is : (given : Asks) → usual_end given (numbered_run held specials h) step
      ≡ (let row = row_by held.rules (row_of (state_of held) step) in
      first_of (map usual_check row.checks ++ asked_checks given (numbered_run held specials h) row.access ++ map usual_check (last_checks (account_of held) step)))
  unfolding run end_of
  end-is given = ap (end_of given) (account-is held specials h stored)

  passes_nothing : (access : Option Access) → first_of (asked_checks (asks_nothing asks) (numbered_run held specials h) access) ≡ None
  passes_nothing access = refl

  -- no access: nothing is asked
  pub asked-of-none : (row_of (state_of held) step).access ≡ None
      → usual_end asks (numbered_run held specials h) step ≡ usual_end (asks_nothing asks) (numbered_run held specials h) step
  asked-of-none none =
      let row = row_by held.rules (row_of (state_of held) step) in
      let asked = asked_checks asks (numbered_run held specials h) row.access in
      let free : first_of asked ≡ None =
      ap (λ (a : Option Access). first_of (asked_checks asks (numbered_run held specials h) a)) (row-none held.rules (row_of (state_of held) step) none)
      ∙ no_check (asks.used && false) (asks.owned && false) OwnerFreed NotOwned (and_none asks.used) (and_none asks.owned) in
      end-is asks
      ∙ asked-passed row.checks asked (asked_checks (asks_nothing asks) (numbered_run held specials h) row.access) (map usual_check (last_checks (account_of held) step))
      (passes_nothing row.access) (λ e. free)
      ∙ sym (end-is (asks_nothing asks))

  -- an access
  module _ (access : Access) (there : (row_of (state_of held) step).access ≡ Some access) where
    same : row_by held.rules (row_of (state_of held) step) ≡ row_of (state_of held) step
    same = row_by-access held.rules (row_of (state_of held) step) access there

    pub asked-refuses : (refusal : RunRefusal) → first_of (row_of (state_of held) step).checks ≡ None
        → first_of (asked_checks asks (numbered_run held specials h) (Some access)) ≡ Some refusal
        → usual_end asks (numbered_run held specials h) step ≡ Some refusal
    asked-refuses refusal none some =
        let row = row_by held.rules (row_of (state_of held) step) in
        end-is asks
        ∙ asked-first row.checks (asked_checks asks (numbered_run held specials h) row.access) (asked_checks (asks_nothing asks) (numbered_run held specials h) row.access)
        (map usual_check (last_checks (account_of held) step)) (passes_nothing row.access) refusal
        (ap (λ (r : Row). first_of r.checks) same ∙ none)
        (ap (λ (r : Row). first_of (asked_checks asks (numbered_run held specials h) r.access)) same
        ∙ ap (λ (a : Option Access). first_of (asked_checks asks (numbered_run held specials h) a)) there ∙ some)

    pub asked-permits : (first_of (row_of (state_of held) step).checks ≡ None → first_of (asked_checks asks (numbered_run held specials h) (Some access)) ≡ None)
        → usual_end asks (numbered_run held specials h) step ≡ usual_end (asks_nothing asks) (numbered_run held specials h) step
    asked-permits given =
        let row = row_by held.rules (row_of (state_of held) step) in
        end-is asks
        ∙ asked-passed row.checks (asked_checks asks (numbered_run held specials h) row.access) (asked_checks (asks_nothing asks) (numbered_run held specials h) row.access)
        (map usual_check (last_checks (account_of held) step)) (passes_nothing row.access)
        (λ none. ap (λ (r : Row). first_of (asked_checks asks (numbered_run held specials h) r.access)) same
        ∙ ap (λ (a : Option Access). first_of (asked_checks asks (numbered_run held specials h) a)) there
        ∙ given (ap (λ (r : Row). first_of r.checks) (sym same) ∙ none))
        ∙ sym (end-is (asks_nothing asks))

pub if-some : {A : Type 0} (o : Option A) (P Q : A → Type 0) → ((x : A) → P x → Q x) → IfSome o P → IfSome o Q
if-some None P Q f is = is
if-some (Some x) P Q f is = f x is

pub if-none : {A : Type 0} (o : Option A) (P Q : Type 0) → (P → Q) → IfNone o P → IfNone o Q
if-none None P Q f is = f is
if-none (Some x) P Q f is = is
