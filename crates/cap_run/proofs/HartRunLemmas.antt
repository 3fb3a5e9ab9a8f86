-- A run after a hart line, and the owners of the registers of a hart.
use Rattle.std.proofs.Common.{◌≡◌, ◌≢◌, ◌==◌, ◌+◌, ◌*◌, ℕ, Bool, false, nat_lt, if◌then◌else◌, is_some, Result, Ok, Err, OnOk, OnErr, ◌-◌}
use Rattle.std.proofs.Common.{refl, sym, ap, subst, ◌∙◌, arith, ne_eqb, eq-eqb, le-ltb}
use Rattle.std.proofs.{lemmas.Bool.{cond-true, cond-false}, Math.Path.fun_ext}
use Rattle.std.specs.FinMap as map
use Rattle.cap_word.specs.declared.word.Cap.{Cap}
use Rattle.tagmem.specs.Granules.{Granules}
use Rattle.cap_machine.specs.{Helds.{Held, account_of, state_of}, Places.place_at}
use Rattle.cap_objects.specs.{Counts.{CountsAre, Owners, owned_by}, declared.handouts.Handouts.Handouts, Extents.Objects, Handed.held_of, HandoutsIn.objects_of}
use Rattle.cap_run_log.specs.declared.lines.RunPlace.{RunPlace}
use Rattle.cap_run.specs.{declared.specials.Specials.Specials, HartPlaces.{away_place, place_in}, Harts.{away_key, came_from, harts_after}}
use Rattle.cap_run.specs.{Numbers.{numbered, numbered_run}, Owned.{AreWithin, IsWithin, object_by}, Run.first_special}
use Rattle.cap_run.specs.{RunChanges.{hart_after, place_key}, RunOf.{run_owners, run_state}, RunSteps.IsUnstepped, Specials.{cap_in, harts_in, label_in}}
use Rattle.cap_run.proofs.{HartLemmas.owned-moved, RunNumberLemmas.run-is, SwitchLemmas.with_same}

-- the owner of a place of a hart
pub owner-other : (held : Held) (specials : Specials) (hart : ℕ) (place : RunPlace) → hart ≢ specials.current
    → run_owners held specials (place_in (harts_in specials) hart place) ≡ run_owners held specials (away_place hart place)
owner-other held specials hart place differ =
    ap (run_owners held specials) (cond-false (hart == specials.current) (place_key place) _ (ne_eqb hart specials.current differ))

pub owner-away : (held : Held) (specials : Specials) (hart register label : ℕ) → label ≡ label_in specials (64 * (hart + 1) + register)
    → object_by (place_at label) ≡ run_owners held specials (away_key hart register)
owner-away held specials hart register label is =
    let number = 64 * (hart + 1) + register in
    let rest : first_special + number - first_special ≡ number = omega arith in
    ap (λ (l : ℕ). object_by (place_at l)) is
    ∙ ap (λ (n : ℕ). object_by (place_at (label_in specials n))) (sym rest)
    ∙ sym (cond-false (nat_lt (first_special + number) first_special) _ _ (le-ltb (first_special + number) first_special (omega arith)))

-- a machine and its special registers after a hart line, or where it failed for want of memory
module _ (held new : Held) (specials sp : Specials) (hart : ℕ) where
  -- each place has what one had, with its owner
  pub record Came (from : ℕ → ℕ) : Type 0 where
    pub state : (key : ℕ) → run_state new sp key ≡ run_state held specials (from key)
    pub owners : (key : ℕ) → run_owners new sp key ≡ run_owners held specials (from key)
    pub owned : (object : ℕ) → owned_by (λ key. run_owners held specials (from key)) object ≡ owned_by (run_owners held specials) object

  pub came : {E : Type 0} (result : Result (Unit {0}) E)
      → OnOk result ((key : ℕ) → run_state new sp key ≡ run_state held specials (came_from specials.current hart key))
      → OnOk result ((key : ℕ) → run_owners new sp key ≡ run_owners held specials (came_from specials.current hart key))
      → OnErr result ((new ≡ held) × ((let harts = harts_in specials in harts.is_named hart) ≡ false))
      → OnErr result ((number : ℕ) → cap_in sp number ≡ cap_in specials number)
      → OnErr result ((number : ℕ) → label_in sp number ≡ label_in specials number)
      → (from : ℕ → ℕ) × Came from
  came (Ok done) state owners same caps labels =
      (came_from specials.current hart, record { state = state; owners = owners; owned = owned-moved (run_owners held specials) specials.current hart })
  came (Err fault) state owners same caps labels = (
    λ key. key,
    record {
      state = λ key. ap (λ (h : Held). run_state h sp key) same.0 ∙ with_same (state_of held) (cap_in sp) (cap_in specials) caps key;
      owners = λ key. ap (λ (h : Held). run_owners h sp key) same.0
          ∙ with_same (λ k. object_by ((account_of held).origin k)) (λ n. object_by (place_at (label_in sp n))) (λ n. object_by (place_at (label_in specials n)))
          (λ n. ap (λ (l : ℕ). object_by (place_at l)) (labels n)) key;
      owned = λ object. refl;
    },
  )

  module _ (from : ℕ → ℕ) (moved : Came from) (objects : Objects) where
    pub counts-moved : CountsAre (run_owners held specials) (λ slot. held_of (objects slot)) → CountsAre (run_owners new sp) (λ slot. held_of (objects slot))
    counts-moved counts object = counts object ∙ sym (ap (λ (o : Owners). owned_by o object) (fun_ext moved.owners) ∙ moved.owned object)

    pub within-moved : AreWithin (run_state held specials) (run_owners held specials) objects → AreWithin (run_state new sp) (run_owners new sp) objects
    within-moved within key slot object owned there =
        subst (λ (c : Cap). IsWithin c object) (sym (moved.state key)) (within (from key) slot object (sym (moved.owners key) ∙ owned) there)

  pub run-moved : (h : Handouts) → IsUnstepped held new → harts_in sp ≡ harts_after (harts_in specials) hart
      → ((key : ℕ) → run_state new sp key ≡ run_state held specials (came_from specials.current hart key))
      → ((key : ℕ) → run_owners new sp key ≡ run_owners held specials (came_from specials.current hart key))
      → numbered_run new sp h ≡ hart_after (numbered_run held specials h) hart
  run-moved h rest harts state owners =
      let named : Granules → ℕ → Bool = λ m granule. is_some (map.get m granule) in
      run-is (numbered_run new sp h) (hart_after (numbered_run held specials h) hart) (fun_ext state)
      (ap (numbered (objects_of h)) (fun_ext owners)) refl refl rest.0 rest.4 rest.2 rest.3
      (ap named rest.1) (ap map.len rest.1) harts
