-- What granules of a run hold, and own.
use Rattle.std.specs.FinMap as map
use Rattle.std.proofs.Common.{◌≡◌, ◌==◌, ◌+◌, ◌-◌, ◌<◌, ◌||◌, ◌^◌, not, nat_lt, ℕ, Bool, true, false, IsTrue, Some, None, Option, inl, inr, is_some, option_and_then, unwrap_or, slice_get}
use Rattle.std.proofs.Common.{refl, sym, ap, subst, ◌∙◌, arith, le-ltb, lt-ltb}
use Rattle.std.proofs.Math.Path.{fun_ext}
use Rattle.std.proofs.lemmas.{Bool.{cases_Bool, cond-true, cond-false, false≢true, Decides.eqb_tells}, Option.{none-some}}
use Rattle.cap_word.specs.declared.word.Cap.{Cap}
use Rattle.tagmem.specs.Granules.{Entry, Granules, blank}
use Rattle.cap_machine.specs.{Helds.{Held, IsKept, code_in, granule_cap, state_of}, Labels.untagged}
use Rattle.cap_machine.specs.{Places.place_at, States.{granule_key, put}}
use Rattle.cap_objects.specs.{declared.{handouts.Handouts.Handouts, objects.Object.Object}, Extents.{is_present}, Handed.{IsRecounted, held_of, with_held}, HandoutsIn.objects_of, Indexes.kept}
use Rattle.cap_run.specs.declared.specials.Specials.{Specials}
use Rattle.cap_run.specs.{GranuleSteps.Counts, Owned.object_by, Run.{Run, first_special}, RunChanges.with_named, RunOf.{run_of, run_owners, run_state}, RunSteps.Writes}
use Rattle.cap_run.proofs.ObjectLemmas.{kept_some}

pub not_true : (b : Bool) → not b ≡ true → b ≡ false
not_true true is = absurd (false≢true is)
not_true false is = refl

pub not_false : (b : Bool) → not b ≡ false → b ≡ true
not_false true is = refl
not_false false is = absurd (false≢true (sym is))

-- what a granule holds
pub state-granule : (held : Held) (granule : ℕ) → state_of held (granule_key granule) ≡ granule_cap held.memory granule
state-granule held granule =
    let past : nat_lt (granule_key granule) 32 ≡ false = le-ltb (granule_key granule) 32 (omega arith) in
    let back : granule_key granule - 32 ≡ granule = omega arith in
    cond-false (nat_lt (granule_key granule) 32) _ (granule_cap held.memory (granule_key granule - 32)) past ∙ ap (granule_cap held.memory) back

pub run-granule : (held : Held) (specials : Specials) (granule : ℕ) → granule < 2 ^ 60
    → run_state held specials (granule_key granule) ≡ state_of held (granule_key granule)
run-granule held specials granule low =
    cond-true (nat_lt (granule_key granule) first_special) (state_of held (granule_key granule)) _ (lt-ltb (granule_key granule) first_special (omega (arith, low)))

-- a granule that holds a tag is named
named_by : (memory : Granules) (granule : ℕ) (o : Option Entry) → map.get memory granule ≡ o → IsTrue (granule_cap memory granule).tag
    → is_some (map.get memory granule) ≡ true
named_by memory granule (Some entry) is tag = ap is_some is
named_by memory granule None is tag = absurd (false≢true (sym (ap (λ (o : Option Entry). (unwrap_or o blank).0) is) ∙ tag))

pub granule-named : (held : Held) (specials : Specials) (granule : ℕ) → granule < 2 ^ 60 → IsTrue (run_state held specials (granule_key granule)).tag
    → is_some (map.get held.memory granule) ≡ true
granule-named held specials granule low tag =
    named_by held.memory granule (map.get held.memory granule) refl
    (subst (λ (c : Cap). IsTrue c.tag) (run-granule held specials granule low ∙ state-granule held granule) tag)

-- one without a tag has no owner
pub granule-unowned : (held : Held) (specials : Specials) (granule : ℕ) → granule < 2 ^ 60 → IsKept held.registers held.codes held.memory
    → (run_state held specials (granule_key granule)).tag ≡ false → run_owners held specials (granule_key granule) ≡ None
granule-unowned held specials granule low known none =
    let key = granule_key granule in
    let is : (state_of held key).tag ≡ false = ap (λ (c : Cap). c.tag) (sym (run-granule held specials granule low)) ∙ none in
    cond-true (nat_lt key first_special) (object_by (place_at (code_in held key))) _ (lt-ltb key first_special (omega (arith, low)))
    ∙ ap (λ (code : ℕ). object_by (place_at code)) ((known.coded key).0.1 is)

-- a granule that was named is named again
pub with_named-same : (run : Run) (granule : ℕ) → run.is_named granule ≡ true → with_named run (Some granule) ≡ run
with_named-same run granule is =
    ap (λ (n : ℕ → Bool). record (with_named run (Some granule)) { is_named = n }) (fun_ext named)
    ∙ ap (λ (n : ℕ). record run { granules = n }) (cond-true (run.is_named granule) run.granules (run.granules + 1) is)
  where
    or_true : (b : Bool) → (b || true) ≡ true
    or_true true = refl
    or_true false = refl

    named : (other : ℕ) → ((granule == other) || run.is_named other) ≡ run.is_named other
    named other = elim (eqb_tells granule other) [
      | inl same ↦
          let there : run.is_named other ≡ true = ap run.is_named (sym same.1) ∙ is in
          ap (λ (b : Bool). (granule == other) || b) there ∙ or_true (granule == other) ∙ sym there
      | inr unlike ↦ ap (λ (b : Bool). b || run.is_named other) unlike.0
    ]

-- a place that gets what it has
pub put-kept : {A : Type 0} (told : ℕ → A) (key : ℕ) (value : A) → value ≡ told key → (other : ℕ) → put told key value other ≡ told other
put-kept told key value is other = elim (eqb_tells key other) [
  | inl same ↦ cond-true (key == other) value (told other) same.0 ∙ is ∙ ap told same.1
  | inr unlike ↦ cond-false (key == other) value (told other) unlike.0
]

-- what is in a slot is present
present_by : (found : Option Object) (o : Object) → option_and_then kept found ≡ Some o → is_present o ≡ true
present_by None o is = absurd (none-some o is)
present_by (Some x) o is = elim (cases_Bool (is_present x)) [
  | inl there ↦ subst (λ (y : Object). is_present y ≡ true) (kept_some x o is) there
  | inr gone ↦ absurd (none-some o (sym (cond-false (is_present x) (Some x) None gone) ∙ is))
]

-- objects that stay are recounted
recounted_same : (o : Option Object) → ((x : Object) → o ≡ Some x → is_present x ≡ true)
    → o ≡ option_and_then (λ object. kept (with_held object (held_of o))) o
recounted_same None present = refl
recounted_same (Some x) present = sym (cond-true (is_present x) (Some x) None (present x refl))

pub recounted-same : (h : Handouts) → IsRecounted (objects_of h) (objects_of h)
recounted-same h slot =
    recounted_same (objects_of h slot) (λ x is. present_by (slice_get h.slots.objects.items slot) x is)

-- a step that changed nothing wrote what was there, without a tag
pub counts-writes : (held new : Held) (specials sp : Specials) (h after : Handouts) (key : ℕ) → (run_state held specials key).tag ≡ false
    → run_owners held specials key ≡ None → Counts (run_of held specials h) (run_of new sp after)
    → Writes (run_of held specials h) key (untagged (run_state held specials key)) None (run_of new sp after)
counts-writes held new specials sp h after key none unowned same =
    let state = run_state held specials in
    let is : untagged (state key) ≡ state key = ap (λ (b : Bool). record (state key) { tag = b }) (sym none) in
    record {
      state = same.state ∙ sym (fun_ext (put-kept state key (untagged (state key)) is));
      owners = λ other. ap (λ (o : ℕ → Option ℕ). o other) same.owners ∙ sym (put-kept (run_owners held specials) key None (sym unowned) other);
      objects = subst (IsRecounted (objects_of h)) (sym same.objects) (recounted-same h);
      rest = same.rest;
    }
