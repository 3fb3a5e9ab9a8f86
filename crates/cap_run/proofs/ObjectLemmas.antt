-- Owners and counts where an object is handed out, widened, given or freed.
use Rattle.std.proofs.Common.{◌≡◌, ◌==◌, ◌+◌, ◌-◌, ◌<◌, ◌≤◌, ℕ, Bool, true, false, Some, None, Option, inl, inr, length, IsSome, IsSomeAnd, not, ◌||◌, min, max}
use Rattle.std.proofs.Common.{if◌then◌else◌, nat_lt, le-ltb, lt-ltb, refl, sym, ap, subst, ◌∙◌, arith, ne_eqb}
use Rattle.std.proofs.lemmas.{Bool.{cases_Bool, cases_lt, cond-true, cond-false, false≢true, Decides.{eqb_tells, nat_tests}}, Option.{none-some, same_Some}}
use Rattle.cap_word.specs.declared.word.Cap.{Cap}
use Rattle.cap_log.specs.declared.lines.Place.TheVariants.{Register}
use Rattle.cap_machine.specs.{Helds.{Held, account_of, state_of}, Places.place_at, States.{State, put}}
use Rattle.cap_objects.specs.Counts.{CountsAre, Moves, Owners, at_key, most_places, one_for}
use Rattle.cap_objects.specs.{declared.{moments.Moment.Moment, objects.Object.Object}, Extents.{Objects, Sets, is_present}, Handed.{freed_in, held_of, widened, with_held}, Indexes.kept, Objects.top_of_extent}
use Rattle.cap_objects.proofs.BelowLemmas.{counts_where}
use Rattle.cap_run.specs.declared.specials.Specials.{Specials}
use Rattle.cap_run.specs.{Owned.{AreWithin, IsWithin, object_by}, Run.{first_special}, RunOf.{run_owners, run_state}, Specials.{label_in}}
use Rattle.cap_run.proofs.{OwnerLemmas.either-key, SwitchLemmas.label-far}

-- past the places' keys nothing is owned
pub unowned-far : (held : Held) (specials : Specials) (key : ℕ) → length specials.registers.labels ≡ 32 → most_places ≤ key → run_owners held specials key ≡ None
unowned-far held specials key sized far =
    let past : nat_lt key first_special ≡ false = le-ltb key first_special (omega (arith, far)) in
    let none : label_in specials (key - first_special) ≡ 0 = label-far specials (key - first_special) (omega (arith, far)) in
    cond-false (nat_lt key first_special) (object_by ((account_of held).origin key)) _ past ∙ ap (λ (l : ℕ). object_by (place_at l)) none

held_some : (o : Option Object) → 0 < held_of o → (x : Object) × (o ≡ Some x) × (0 < x.held)
held_some None some = absurd (omega arith)
held_some (Some x) some = (x, refl, some)

module _ (held : Held) (specials : Specials) (objects : Objects) (sized : length specials.registers.labels ≡ 32)
    (counted : CountsAre (run_owners held specials) (λ n. held_of (objects n))) where
  -- each owner is present
  pub owner-there : (key slot : ℕ) → run_owners held specials key ≡ Some slot → (x : Object) × (objects slot ≡ Some x) × (0 < x.held)
  owner-there key slot is = elim (cases_lt key most_places) [
    | inl near ↦ held_some (objects slot) (counts_where (run_owners held specials) (λ n. held_of (objects n)) key slot counted near is)
    | inr far ↦ absurd (none-some slot (sym (unowned-far held specials key sized far) ∙ is))
  ]

  -- an object that no place holds was handed out
  pub within-added : (slot : ℕ) (o : Object) (after : Objects) → objects slot ≡ None → Sets objects slot (Some o) after
      → AreWithin (run_state held specials) (run_owners held specials) objects
      → AreWithin (run_state held specials) (run_owners held specials) after
  within-added slot o after free set known key other x owned there = elim (eqb_tells other slot) [
    | inl same ↦ let was = owner-there key other owned in absurd (none-some was.0 (sym free ∙ ap objects (sym same.1) ∙ was.1))
    | inr unlike ↦ known key other x owned (sym (set.1 other unlike.1) ∙ there)
  ]

pub counts-added : (owners : Owners) (objects after : Objects) (slot : ℕ) (o : Object) → objects slot ≡ None → Sets objects slot (Some o) after
    → o.held ≡ 0 → CountsAre owners (λ n. held_of (objects n)) → CountsAre owners (λ n. held_of (after n))
counts-added owners objects after slot o free set none are n = elim (eqb_tells n slot) [
  | inl same ↦
      let now : held_of (after n) ≡ 0 = ap held_of (ap after same.1 ∙ set.0) ∙ none in
      let was : held_of (objects n) ≡ 0 = ap held_of (ap objects same.1 ∙ free) in
      now ∙ sym was ∙ are n
  | inr unlike ↦ ap held_of (set.1 n unlike.1) ∙ are n
]

-- one place more holds an object
pub given-moves : (old new : Objects) (slot : ℕ) (o : Object) → old slot ≡ Some o → Sets old slot (Some (with_held o (o.held + 1))) new
    → Moves (λ n. held_of (old n)) None (Some slot) (λ n. held_of (new n))
given-moves old new slot o there set m = elim (eqb_tells m slot) [
  | inl same ↦
      let now : held_of (new m) ≡ o.held + 1 = ap held_of (ap new same.1 ∙ set.0) in
      let was : held_of (old m) ≡ o.held = ap held_of (ap old same.1 ∙ there) in
      let is : one_for m (Some slot) ≡ 1 = ap (λ (b : Bool). if b then 1 else 0) same.0 in
      omega (arith, now, was, is)
  | inr unlike ↦
      let now : held_of (new m) ≡ held_of (old m) = ap held_of (set.1 m unlike.1) in
      let is : one_for m (Some slot) ≡ 0 = ap (λ (b : Bool). if b then 1 else 0) unlike.0 in
      omega (arith, now, is)
]

pub within-given : (state : State) (owners after : Owners) (old new : Objects) (key slot : ℕ) (o : Object) → old slot ≡ Some o
    → IsWithin (state key) o → Sets old slot (Some (with_held o (o.held + 1))) new → ((other : ℕ) → after other ≡ at_key owners key (Some slot) other)
    → AreWithin state owners old → AreWithin state after new
within-given state owners after old new key slot o there is set after_is known other other_slot x owned x_there =
    let carry : (y : Object) → old other_slot ≡ Some y → IsWithin (state other) y → IsWithin (state other) x = λ y y_there w. elim (eqb_tells other_slot slot) [
      | inl same ↦
          let y_is : o ≡ y = same_Some o y (sym there ∙ ap old (sym same.1) ∙ y_there) in
          let x_is : with_held o (o.held + 1) ≡ x = same_Some (with_held o (o.held + 1)) x (sym set.0 ∙ ap new (sym same.1) ∙ x_there) in
          let v = subst (IsWithin (state other)) (sym y_is) w in
          subst (IsWithin (state other)) x_is (record { tagged = v.tagged; from = v.from; until = v.until })
      | inr unlike ↦ subst (IsWithin (state other)) (same_Some y x (sym y_there ∙ sym (set.1 other_slot unlike.1) ∙ x_there)) w
    ] in
    elim (either-key owners key (Some slot) other) [
      | inl here ↦
          let slot_is : slot ≡ other_slot = same_Some slot other_slot (sym here.1 ∙ sym (after_is other) ∙ owned) in
          carry o (ap old (sym slot_is) ∙ there) (subst (λ (k : ℕ). IsWithin (state k) o) here.0 is)
      | inr away ↦
          let was : owners other ≡ Some other_slot = sym away.1 ∙ sym (after_is other) ∙ owned in
          elim (eqb_tells other_slot slot) [
            | inl same ↦ let y_there = ap old same.1 ∙ there in carry o y_there (known other other_slot o was y_there)
            | inr unlike ↦ known other other_slot x was (sym (set.1 other_slot unlike.1) ∙ x_there)
          ]
    ]

-- a place that was given what it holds
pub put-same : (state : State) (key : ℕ) (cap : Cap) → cap ≡ state key → (other : ℕ) → put state key cap other ≡ state other
put-same state key cap is other = elim (eqb_tells key other) [
  | inl same ↦ cond-true (key == other) cap (state other) same.0 ∙ is ∙ ap state same.1
  | inr unlike ↦ cond-false (key == other) cap (state other) unlike.0
]

-- the slot that a label stands for
pub slot-label : (slot : ℕ) → object_by (place_at (slot + 32)) ≡ Some slot
slot-label slot =
    let some : (slot + 32 == 0) ≡ false = ne_eqb (slot + 32) 0 (λ e. let f : slot + 32 ≡ 0 = e in omega arith) in
    let past : nat_lt (slot + 32) 32 ≡ false = le-ltb (slot + 32) 32 (omega arith) in
    let back : slot + 32 - 32 ≡ slot = omega arith in
    ap object_by (cond-false (slot + 32 == 0) None _ some ∙ cond-false (nat_lt (slot + 32) 32) (Some (Register (slot + 32))) _ past)
    ∙ ap Some back

pub some_and : {A : Type 0} (o : Option A) (P : A → Type 0) → IsSomeAnd o P → (x : A) × (o ≡ Some x) × P x
some_and None P h = absurd h
some_and (Some x) P h = (x, refl, h)

pub to_some_and : {A : Type 0} (o : Option A) (P : A → Type 0) (x : A) → o ≡ Some x → P x → IsSomeAnd o P
to_some_and {A} o P x is h = subst (λ (v : Option A). IsSomeAnd v P) (sym is) h

pub main-state : (held : Held) (specials : Specials) (key : ℕ) → key < first_special → run_state held specials key ≡ state_of held key
main-state held specials key low = cond-true (nat_lt key first_special) (state_of held key) _ (lt-ltb key first_special low)

pub to_is_some : {A : Type 0} (o : Option A) (x : A) → o ≡ Some x → IsSome o
to_is_some o x is = subst IsSome (sym is) refl

not_held : (freed : Bool) (held : ℕ) → (not freed || nat_lt 0 held) ≡ false → held ≡ 0
not_held false held is = absurd (false≢true (sym is))
not_held true held is = elim (cases_lt 0 held) [
  | inl some ↦ absurd (false≢true (sym is ∙ lt-ltb 0 held some))
  | inr none ↦ omega arith
]

held-kept : (o : Object) → held_of (kept o) ≡ o.held
held-kept o = elim (cases_Bool (is_present o)) [
  | inl there ↦ ap held_of (cond-true (is_present o) (Some o) None there)
  | inr gone ↦ ap held_of (cond-false (is_present o) (Some o) None gone) ∙ sym (not_held o.freed o.held gone)
]

pub counts-freed : (owners : Owners) (objects after : Objects) (slot : ℕ) (o : Object) (step : Moment) → objects slot ≡ Some o
    → Sets objects slot (kept (freed_in step o)) after
    → CountsAre owners (λ n. held_of (objects n)) → CountsAre owners (λ n. held_of (after n))
counts-freed owners objects after slot o step there set are n = elim (eqb_tells n slot) [
  | inl same ↦
      let now : held_of (after n) ≡ o.held = ap held_of (ap after same.1 ∙ set.0) ∙ held-kept (freed_in step o) in
      let was : held_of (objects n) ≡ o.held = ap held_of (ap objects same.1 ∙ there) in
      now ∙ sym was ∙ are n
  | inr unlike ↦ ap held_of (set.1 n unlike.1) ∙ are n
]

pub kept_some : (o x : Object) → kept o ≡ Some x → o ≡ x
kept_some o x is = elim (cases_Bool (is_present o)) [
  | inl there ↦ same_Some o x (sym (cond-true (is_present o) (Some o) None there) ∙ is)
  | inr gone ↦ absurd (none-some x (sym (cond-false (is_present o) (Some o) None gone) ∙ is))
]

pub within-freed : (state : State) (owners : Owners) (objects after : Objects) (slot : ℕ) (o : Object) (step : Moment) → objects slot ≡ Some o
    → Sets objects slot (kept (freed_in step o)) after → AreWithin state owners objects → AreWithin state owners after
within-freed state owners objects after slot o step there set known key other x owned x_there = elim (eqb_tells other slot) [
  | inl same ↦
      let x_is = kept_some (freed_in step o) x (sym set.0 ∙ ap after (sym same.1) ∙ x_there) in
      let w = known key other o owned (ap objects same.1 ∙ there) in
      subst (IsWithin (state key)) x_is (record { tagged = w.tagged; from = w.from; until = w.until })
  | inr unlike ↦ known key other x owned (sym (set.1 other unlike.1) ∙ x_there)
]

max_above : (a b : ℕ) → a ≤ max a b
max_above a b = omega arith

-- an extent that was widened
pub widened-grows : (o : Object) (base top : ℕ)
    → (let w = widened o base top in (w.base ≤ o.base) × (top_of_extent o ≤ top_of_extent w) × (w.held ≡ o.held))
widened-grows o base top = elim (cases_Bool (nat_lt (min o.base base) (max (top_of_extent o) top))) [
  | inl long ↦
      let low = min o.base base in
      let high = max (top_of_extent o) top in
      let wide : Object = record o { base = low; last = high - 1; long = true } in
      let is : widened o base top ≡ wide = cond-true (nat_lt low high) wide o long in
      let more : low < high = grind (arith, nat_tests, long) in
      let least : low ≤ o.base = omega arith in
      let most : top_of_extent o ≤ high = max_above (top_of_extent o) top in
      let end : top_of_extent o ≤ high - 1 + 1 = omega (arith, more, most) in
      subst (λ (w : Object). (w.base ≤ o.base) × (top_of_extent o ≤ top_of_extent w) × (w.held ≡ o.held)) (sym is) (least, end, refl)
  | inr short ↦
      let is : widened o base top ≡ o = cond-false (nat_lt (min o.base base) (max (top_of_extent o) top)) _ o short in
      subst (λ (w : Object). (w.base ≤ o.base) × (top_of_extent o ≤ top_of_extent w) × (w.held ≡ o.held)) (sym is) (omega arith, omega arith, refl)
]

pub counts-widened : (owners : Owners) (objects after : Objects) (slot : ℕ) (o w : Object) → objects slot ≡ Some o → w.held ≡ o.held
    → Sets objects slot (Some w) after → CountsAre owners (λ n. held_of (objects n)) → CountsAre owners (λ n. held_of (after n))
counts-widened owners objects after slot o w there held set are n = elim (eqb_tells n slot) [
  | inl same ↦ ap held_of (ap after same.1 ∙ set.0) ∙ held ∙ sym (ap held_of (ap objects same.1 ∙ there)) ∙ are n
  | inr unlike ↦ ap held_of (set.1 n unlike.1) ∙ are n
]

pub within-widened : (state : State) (owners : Owners) (objects after : Objects) (slot : ℕ) (o w : Object) → objects slot ≡ Some o
    → (w.base ≤ o.base) × (top_of_extent o ≤ top_of_extent w) → Sets objects slot (Some w) after → AreWithin state owners objects
    → AreWithin state owners after
within-widened state owners objects after slot o w there grows set known key other x owned x_there = elim (eqb_tells other slot) [
  | inl same ↦
      let x_is = same_Some w x (sym set.0 ∙ ap after (sym same.1) ∙ x_there) in
      let is = known key other o owned (ap objects same.1 ∙ there) in
      subst (IsWithin (state key)) x_is
      (record { tagged = is.tagged; from = omega (arith, grows.0, is.from); until = omega (arith, grows.1, is.until) })
  | inr unlike ↦ known key other x owned (sym (set.1 other unlike.1) ∙ x_there)
]
