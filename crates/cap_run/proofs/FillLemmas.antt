-- A granule that was filled.
use Rattle.std.proofs.{Common.{◌≡◌, ◌==◌, ◌<◌, ◌∙◌, ◌^◌, ℕ, Option, None, ap, refl, sym, subst, arith, inl, inr}, Math.Path.fun_ext}
use Rattle.std.proofs.Common.{ne_eqb}
use Rattle.std.proofs.lemmas.{Bool.cond-false, Option.none-some}
use Rattle.cap_word.specs.declared.word.Cap.{Cap}
use Rattle.cap_machine.specs.{Accounts.Account, Changes.EndsPut, declared.ends.StepEnd.{StepEnd, TheVariants.{Refused, NoMemory}}}
use Rattle.cap_machine.specs.{Helds.{Held, account_of, state_of}, Labels.filled, Places.place_at, States.{State, granule_key, put}}
use Rattle.cap_objects.specs.{Counts.{at_key}, declared.{handouts.Handouts.Handouts}, Extents.Objects, Handed.IsRecounted}
use Rattle.cap_run.specs.declared.specials.Specials.{Specials}
use Rattle.cap_run.specs.{GranuleSteps.Fills, Owned.{AreWithin, IsWithin, object_by}, Run.{first_special, with_specials}}
use Rattle.cap_run.specs.{RunOf.{run_of, run_owners, run_state}, Specials.{cap_in, label_in}}
use Rattle.cap_run.proofs.{OwnerLemmas.{either-key, within-came}, PlaceLemmas.{choice_under, with-main}}

pub put-ended : (old : Held) (granule : ℕ) (end : StepEnd) (new : Held) → EndsPut old granule end new → new ≡ old
put-ended old granule (Refused refusal) new is = is.2
put-ended old granule NoMemory new is = is.2

module _ (held new : Held) (specials : Specials) (granule : ℕ) (cap : Cap) (low : granule < 2 ^ 60)
    (account : account_of new ≡ filled (account_of held) granule cap 0) where
  near : granule_key granule < first_special
  near = omega (arith, low)

  pub fill-state : run_state new specials ≡ put (run_state held specials) (granule_key granule) cap
  fill-state =
      ap (λ (a : Account). with_specials a.state (cap_in specials)) account
      ∙ fun_ext (with-main (state_of held) (cap_in specials) (granule_key granule) cap near)

  pub fill-owners : (other : ℕ) → run_owners new specials other ≡ at_key (run_owners held specials) (granule_key granule) None other
  fill-owners other =
      let origin = λ (a : Account) (key : ℕ). object_by (a.origin key) in
      let special : ℕ → Option ℕ = λ number. object_by (place_at (label_in specials number)) in
      ap (λ (a : Account). with_specials (origin a) special other) account
      ∙ ap (λ (m : ℕ → Option ℕ). with_specials m special other)
      (fun_ext (λ k. choice_under object_by (granule_key granule == k) (place_at 0) ((account_of held).origin k)))
      ∙ with-main (origin (account_of held)) special (granule_key granule) None near other

  pub within-filled : (objects after : Objects) → AreWithin (run_state held specials) (run_owners held specials) objects → IsRecounted objects after
      → AreWithin (run_state new specials) (run_owners new specials) after
  within-filled objects after known counted =
      subst (λ (state : State). AreWithin state (run_owners new specials) after) (sym fill-state)
      (within-came (run_state held specials) (put (run_state held specials) (granule_key granule) cap) (run_owners held specials) (run_owners new specials)
      objects after known counted
      (λ key slot is. elim (either-key (run_owners held specials) (granule_key granule) None key) [
        | inl here ↦ absurd (none-some slot (sym here.1 ∙ sym (fill-owners key) ∙ is))
        | inr away ↦ (
          key,
          sym away.1 ∙ sym (fill-owners key) ∙ is,
          λ x w. subst (λ (c : Cap). IsWithin c x)
              (sym (cond-false (granule_key granule == key) cap (run_state held specials key) (ne_eqb (granule_key granule) key away.0))) w,
        )
      ]))

  pub fills : (h after : Handouts) → IsRecounted (let r = run_of held specials h in r.objects) (let r = run_of held specials after in r.objects)
      → after.count ≡ h.count → Fills (run_of held specials h) granule cap (run_of new specials after)
  fills h after counted count = record {
    state = fill-state;
    owners = fill-owners;
    objects = counted;
    count = count;
    harts = refl;
    rules = ap (λ (a : Account). a.rules) account;
    limits = ap (λ (a : Account). a.limits) account;
    roots = ap (λ (a : Account). a.roots) account;
    steps = ap (λ (a : Account). a.steps) account;
    is_named = ap (λ (a : Account). a.is_named) account;
    granules = ap (λ (a : Account). a.granules) account;
  }
