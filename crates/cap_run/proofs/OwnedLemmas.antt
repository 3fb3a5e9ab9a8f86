-- An access that touches a byte of a live object goes through a capability that an object owns, if that is asked.
use Rattle.std.proofs.Common.{◌≡◌, ◌&&◌, ◌||◌, ◌+◌, ◌++◌, ◌∷◌, ℕ, Bool, true, false, not, IsTrue, is_none, List, map, Option, Some, None, refl, sym, ap, subst, ◌∙◌, arith, inl, inr}
use Rattle.std.proofs.lemmas.{Bool.{false≢true, Decides.eqb_tells}, Option.none-some}
use Rattle.std.specs.Option.{option_map_or}
use Rattle.cap_bounds.specs.Bounds.{IsInside}
use Rattle.cap_ops.specs.{Checks.first_of, declared.refusal.Refusal.Refusal}
use Rattle.cap_ops.proofs.TestLemmas.{first_of-append_free, none_hold}
use Rattle.cap_log.specs.declared.kinds.Step.{Step}
use Rattle.cap_machine.specs.Accounts.{row_in}
use Rattle.cap_machine.specs.Steps.{Access, Row, row_of}
use Rattle.cap_machine.proofs.StepLemmas.{row_by-access}
use Rattle.cap_objects.specs.{declared.objects.Object.Object, Objects.{top_of_extent}}
use Rattle.cap_run_log.specs.declared.lines.RunLine.{RunLine}
use Rattle.cap_run_log.specs.declared.lines.RunLine.TheVariants as lines
use Rattle.cap_run.specs.declared.{asks.Asks.Asks}
use Rattle.cap_run.specs.declared.ends.RunRefusal.TheVariants.{Usual}
use Rattle.cap_run.specs.{Allowed.{AreAllowed, IsLineAllowed}, OwnedAccesses.{AccessesOwn, IsOwnersAccess}, Choices.IsOwnedAccess, Descents.{access_of, run_along}, Run.Run, Safety.IsSafe, RunChanges.{account_in, main_of, no_run}}
use Rattle.cap_run.specs.RunChecks.{asked_checks, is_live, is_unowned, meets, uses_freed, usual_end}
use Rattle.cap_run.proofs.{ChoiceLemmas.last_checks, ApartLemmas.safe_at_each, DescentLemmas.{along-fold, allowed_parts, granted_in}, MeetingLemmas.{meets-where}, PresentLemmas.{AreFew, all_counted, few_of}}

module _ (asks : Asks) (run : Run) (step : Step) (free : usual_end asks run step ≡ None) where
  -- the checks of what is asked of an access
  asked_free : (access : Access) → access_of run (lines.Step step) ≡ Some access → first_of (asked_checks asks run (Some access)) ≡ None
  asked_free access is =
      let row = row_in (account_in run) step in
      let own = map (λ (check : Bool × Refusal). (check.0, Usual check.1)) row.checks in
      let before = (first_of-append_free (own ++ asked_checks asks run row.access) (last_checks run step) free).0 in
      let row_is : row.access ≡ Some access =
      ap (λ (r : Row). r.access) (row_by-access run.rules (row_of (main_of run.state) step) access is) ∙ is in
      ap (λ (o : Option Access). first_of (asked_checks asks run o)) (sym row_is)
      ∙ (first_of-append_free own (asked_checks asks run row.access) before).1

  unowned : (access : Access) → asks.owned ≡ true → access_of run (lines.Step step) ≡ Some access → is_unowned run access ≡ false
  unowned access asked is =
      ap (λ (b : Bool). b && is_unowned run access) (sym asked) ∙ (none_hold (asked_checks asks run (Some access)) (asked_free access is)).1.0

  unfreed : (access : Access) → asks.used ≡ true → access_of run (lines.Step step) ≡ Some access → uses_freed run access ≡ false
  unfreed access asked is =
      ap (λ (b : Bool). b && uses_freed run access) (sym asked) ∙ (none_hold (asked_checks asks run (Some access)) (asked_free access is)).0

-- an authority that isn't without owner where a byte of a live object is touched
owner_there : (owner : Option ℕ) (touches : Bool) → (is_none owner && touches) ≡ false → touches ≡ true → (number : ℕ) × (owner ≡ Some number)
owner_there (Some number) touches free is = (number, refl)
owner_there None touches free is = absurd (false≢true (sym free ∙ is))

pub owned_access : (asks : Asks) (run : Run) (line : RunLine) → IsTrue asks.owned → IsLineAllowed asks run line → IsOwnedAccess run line
owned_access asks run (lines.Step step) asked allowed access number object is few there live share =
    owner_there (run.owners access.authority) (meets run None is_live access.address (access.address + access.size))
    (unowned asks run step allowed access asked is)
    (meets-where run None is_live access.address (access.address + access.size) number object
    (record { there = there; few = few; other = refl; asked_is = ap not live; share = share }))
owned_access asks run lines.Version asked allowed access number object is few there live share = absurd (none-some access is)
owned_access asks run (lines.Mode mode) asked allowed access number object is few there live share = absurd (none-some access is)
owned_access asks run (lines.Plain version) asked allowed access number object is few there live share = absurd (none-some access is)
owned_access asks run (lines.Root place word) asked allowed access number object is few there live share = absurd (none-some access is)
owned_access asks run (lines.Hart hart) asked allowed access number object is few there live share = absurd (none-some access is)
owned_access asks run (lines.Run step) asked allowed access number object is few there live share = absurd (none-some access is)
owned_access asks run (lines.End count) asked allowed access number object is few there live share = absurd (none-some access is)

freed_unused : (asks : Asks) (run : Run) (line : RunLine) (access : Access) → asks.used ≡ true → IsLineAllowed asks run line
    → access_of run line ≡ Some access → uses_freed run access ≡ false
freed_unused asks run (lines.Step step) access used allowed is = unfreed asks run step allowed access used is
freed_unused asks run lines.Version access used allowed is = absurd (none-some access is)
freed_unused asks run (lines.Mode mode) access used allowed is = absurd (none-some access is)
freed_unused asks run (lines.Plain version) access used allowed is = absurd (none-some access is)
freed_unused asks run (lines.Root place word) access used allowed is = absurd (none-some access is)
freed_unused asks run (lines.Hart hart) access used allowed is = absurd (none-some access is)
freed_unused asks run (lines.Run step) access used allowed is = absurd (none-some access is)
freed_unused asks run (lines.End count) access used allowed is = absurd (none-some access is)

live_not : (freed : Bool) → not (not freed) ≡ false → freed ≡ false
live_not true is = is
live_not false is = refl

-- an owner that isn't freed is live
live_owner : (run : Run) (access : Access) (owner : ℕ) (object : Object) → run.owners access.authority ≡ Some owner → run.objects owner ≡ Some object
    → uses_freed run access ≡ false → object.freed ≡ false
live_owner run access owner object owned there unused =
    live_not object.freed (
    ap (λ (o : Option Object). not (option_map_or is_live o false)) (sym there)
    ∙ ap (λ (o : Option ℕ). option_map_or (λ number. not (option_map_or is_live (run.objects number) false)) o false) (sym owned) ∙ unused)

module _ (asks : Asks) (run : Run) (line : RunLine) (safe : IsSafe asks.held run) (allowed : IsLineAllowed asks run line) where
  -- an access lies in the extent of the object that owns its authority
  pub in_owner : AccessesOwn asks run line
  in_owner access number is owned =
      let within = safe.within access.authority number owned in
      let granted_is = (granted_in asks run line access allowed is).1 in
      let inside : IsInside access.address (access.address + access.size) within.0.base (top_of_extent within.0) =
      ((let p = granted_is.from in let q = within.3.from in omega (arith, p, q)), (let p = granted_is.until in let q = within.3.until in omega (arith, p, q))) in
      record {
        object = within.0;
        there = within.1;
        inside = inside;
        live = λ used. live_owner run access number within.0 owned within.1 (freed_unused asks run line access used allowed is);
        alone = λ other another there differ guard guard_other share.
            safe.extents number other within.0 another within.1 there differ guard guard_other (
              share.0,
              (let p = share.1 in let q = inside.0 in omega (arith, p, q)),
              (let p = share.2 in let q = inside.1 in omega (arith, p, q)),
              share.3,
              share.4,
            );
      }

  -- a live object's byte is touched through its own capability
  own_access : AreFew run → IsTrue (asks.held || asks.used) → IsTrue asks.owned → IsOwnersAccess run line
  own_access few asked owned access number object is there live share =
      let owner = owned_access asks run line owned allowed access number object is (few number object there) there live share in
      let it = in_owner access owner.0 is owner.1 in
      elim (eqb_tells owner.0 number) [
        | inl same ↦ owner.1 ∙ ap Some same.1
        | inr unlike ↦ absurd (
            it.alone number object there unlike.1 (λ loose. it.live (ap (λ (b : Bool). b || asks.used) (sym loose) ∙ asked)) (λ loose. live) share)
      ]

module _ (asks : Asks) (before after : List RunLine) (line : RunLine) (allowed : AreAllowed asks no_run (before ++ line ∷ after)) where
  next_allowed : IsLineAllowed asks (run_along before) line
  next_allowed =
      subst (λ (run : Run). IsLineAllowed asks run line) (sym (along-fold no_run before)) (allowed_parts asks no_run before (line ∷ after) allowed).1.1

  pub accesses_own : AccessesOwn asks (run_along before) line
  accesses_own = in_owner asks (run_along before) line (safe_at_each asks before (line ∷ after) allowed) next_allowed

  pub owners_access : IsTrue asks.owned → IsTrue (asks.held || asks.used) → IsOwnersAccess (run_along before) line
  owners_access owned asked =
      own_access asks (run_along before) line (safe_at_each asks before (line ∷ after) allowed) next_allowed
      (few_of (run_along before) (all_counted before)) asked owned
