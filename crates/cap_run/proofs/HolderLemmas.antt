-- What an `object` line does, and where the owner of a place comes from.
use Rattle.std.proofs.Common.{◌≡◌, ◌==◌, ◌+◌, ℕ, Bool, true, false, if◌then◌else◌, is_some, Option, Some, None, refl, sym, ap, subst, ◌∙◌, ◌⊎◌, inl, inr}
use Rattle.std.proofs.lemmas.{Bool.{cond-true, cond-false, Decides.eqb_tells}, Option.{none-some, same_Some}}
use Rattle.cap_machine.specs.{States.{State, put}}
use Rattle.cap_run_log.specs.declared.lines.{RunLine.RunLine}
use Rattle.cap_run_log.specs.declared.lines.RunLine.TheVariants as lines
use Rattle.cap_run_log.specs.declared.lines.RunStep.TheVariants as steps
use Rattle.cap_run_log.specs.RunLines.{IsRunLineInRange}
use Rattle.cap_run.specs.declared.{asks.Asks.Asks, ends.RunRefusal.RunRefusal}
use Rattle.cap_run.specs.declared.ends.RunRefusal.TheVariants.{HasOwner, NoCapability}
use Rattle.cap_run.specs.{Allowed.{IsLineAllowed}, Descents.{line_parent}, Holders.{ReachesSome, handed_by}}
use Rattle.cap_run.specs.{ObjectSteps.{is_capability, object_refusal}, Owned.owner_for, Run.Run, RunChanges.{line_after}}
use Rattle.cap_run.specs.RunSteps.{or_later}
use Rattle.cap_run.proofs.FollowLemmas.{AllReach, line_follows}
use Rattle.cap_run.proofs.{LineLemmas.{later_none}, OwnerLemmas.owner_for-some}

-- what an allowed `object` line does
pub record Hands (run : Run) (line : RunLine) (register number : ℕ) : Type 0 where
  pub unowned : run.owners register ≡ None
  pub owners_are : (key : ℕ) → (line_after run line).owners key ≡ put run.owners register (owner_for (run.state register) (Some number)) key
  pub state_is : (line_after run line).state ≡ run.state
  pub parent_is : (key : ℕ) → line_parent run line key ≡ Some key
  pub steps_is : (line_after run line).steps ≡ run.steps + 1

no_owner : (capability : Bool) (owner : Option ℕ)
    → (if capability then (if is_some owner then Some HasOwner else None) else Some NoCapability) ≡ None → owner ≡ None
no_owner true None free = refl
no_owner true (Some number) free = absurd (none-some HasOwner (sym free))
no_owner false owner free = absurd (none-some NoCapability (sym free))

unowned_by : (run : Run) (register : ℕ) (later : Option RunRefusal) → or_later (object_refusal run register) later ≡ None
    → run.owners register ≡ None
unowned_by run register later free =
    no_owner (is_capability (run.state register)) (run.owners register) (later_none (object_refusal run register) later free).0

pub hands : (asks : Asks) (run : Run) (line : RunLine) (register number : ℕ) → IsLineAllowed asks run line
    → handed_by run line ≡ Some (register, number) → Hands run line register number
hands asks run (lines.Run (steps.Object at)) register number allowed names =
    subst (λ (p : ℕ × ℕ). Hands run (lines.Run (steps.Object at)) p.0 p.1) (same_Some _ _ names)
    (record { unowned = unowned_by run at _ allowed; owners_are = λ key. refl; state_is = refl; parent_is = λ key. refl; steps_is = refl })
hands asks run (lines.Run (steps.Widen at of)) register number allowed names =
    subst (λ (p : ℕ × ℕ). Hands run (lines.Run (steps.Widen at of)) p.0 p.1) (same_Some _ _ names)
    (record { unowned = unowned_by run at _ allowed; owners_are = λ key. refl; state_is = refl; parent_is = λ key. refl; steps_is = refl })
hands asks run line register number allowed names = absurd (none-some _ names)

-- where the owner of a place comes from: the line, or its parent
abbrev pub OwnerFrom : Run → RunLine → ℕ → ℕ → Type 0
OwnerFrom run line key number =
    (handed_by run line ≡ Some (key, number)) ⊎ ((from : ℕ) × (line_parent run line key ≡ Some from) × (run.owners from ≡ Some number))

module _ (asks : Asks) (run : Run) (line : RunLine) (reach : AllReach run) (range : IsRunLineInRange line) (allowed : IsLineAllowed asks run line) where
  handed_from : (register of key number : ℕ) → handed_by run line ≡ Some (register, of) → (line_after run line).owners key ≡ Some number
      → ReachesSome ((line_after run line).state key) × OwnerFrom run line key number
  handed_from register of key number names is =
      let does = hands asks run line register of allowed names in
      let put_is = sym (does.owners_are key) ∙ is in
      let capped = λ (r : ReachesSome (run.state key)). subst (λ (s : State). ReachesSome (s key)) (sym does.state_is) r in
      elim (eqb_tells register key) [
        | inl same ↦
            let o = owner_for-some (run.state register) (Some of) number
            (sym (cond-true (register == key) (owner_for (run.state register) (Some of)) (run.owners key) same.0) ∙ put_is) in (
              capped (subst (λ (k : ℕ). ReachesSome (run.state k)) same.1 (o.0, o.1)),
              inl (names ∙ ap (λ (k : ℕ). Some (k, of)) same.1 ∙ ap (λ (n : ℕ). Some (key, n)) (same_Some of number o.2)),
            )
        | inr unlike ↦
            let owned = sym (cond-false (register == key) (owner_for (run.state register) (Some of)) (run.owners key) unlike.0) ∙ put_is in
            (capped (reach key number owned), inr (key, does.parent_is key, owned))
      ]

  from_by : (key number : ℕ) (by : Option (ℕ × ℕ)) → handed_by run line ≡ by → (line_after run line).owners key ≡ Some number
      → ReachesSome ((line_after run line).state key) × OwnerFrom run line key number
  from_by key number None names is =
      let told = (line_follows asks run line key reach range allowed names).owned number is in (told.0, inr told.1)
  from_by key number (Some by) names is = handed_from by.0 by.1 key number names is

  pub owner_from : (key number : ℕ) → (line_after run line).owners key ≡ Some number
      → ReachesSome ((line_after run line).state key) × OwnerFrom run line key number
  owner_from key number is = from_by key number (handed_by run line) refl is

  pub reach_after : AllReach (line_after run line)
  reach_after key number is = (owner_from key number is).0

  to_by : (key from number : ℕ) (by : Option (ℕ × ℕ)) → handed_by run line ≡ by → ReachesSome ((line_after run line).state key)
      → line_parent run line key ≡ Some from → run.owners from ≡ Some number → (line_after run line).owners key ≡ Some number
  to_by key from number None names reaches parent is =
      (line_follows asks run line key reach range allowed names).owns number from reaches parent is
  to_by key from number (Some by) names reaches parent is =
      let does = hands asks run line by.0 by.1 allowed names in
      let owned = ap run.owners (same_Some key from (sym (does.parent_is key) ∙ parent)) ∙ is in
      elim (eqb_tells by.0 key) [
        | inl same ↦ absurd (none-some number (sym does.unowned ∙ ap run.owners same.1 ∙ owned))
        | inr unlike ↦ does.owners_are key ∙ cond-false (by.0 == key) (owner_for (run.state by.0) (Some by.1)) (run.owners key) unlike.0 ∙ owned
      ]

  pub owner_to : (key from number : ℕ) → ReachesSome ((line_after run line).state key) → line_parent run line key ≡ Some from
      → run.owners from ≡ Some number → (line_after run line).owners key ≡ Some number
  owner_to key from number reaches parent is = to_by key from number (handed_by run line) refl reaches parent is
