-- The state of what a machine holds, after each kind of change.
use Rattle.std.specs.FinMap as map
use Rattle.std.proofs.Common.{[], ◌≡◌, ◌≢◌, ℕ, List, ◌+◌, ◌-◌, ◌<◌, ◌≤◌, inl, inr, Bool, true, false, ◌==◌, ◌||◌}
use Rattle.std.proofs.Common.{nat_lt, length, get_or, refl, sym, ap, ◌∙◌, arith, Option, Some, None, is_some}
use Rattle.std.proofs.Common.{if◌then◌else◌, replicate, set, get_or-set_same, get_or-set_other, lt-ltb, le-ltb, eq-eqb}
use Rattle.std.proofs.{Common.{ne_eqb, nat_cmp}, Math.Path.fun_ext, lemmas.Bool.{cond-true, cond-false, cases_lt}}
use Rattle.std.proofs.lemmas.{Bool.Decides.eqb_tells, List.{get_or-replicate, get_or_past, length-replicate}}
use Rattle.cap_word.specs.declared.word.Cap.{Cap}
use Rattle.tagmem.specs.Granules.{Granules, Entry, entry_at, code_at}
use Rattle.tagmem.proofs.Granules.{get-put, entry_at-empty, entry_at-put_same, entry_at-put_other}
use Rattle.cap_machine.specs.{declared.{limits.Limits.Limits, rules.Rules.Rules}, Accounts.{Account, no_account}, Helds.granule_cap}
use Rattle.cap_machine.specs.{Helds.account_of, Origins.Origins, Places.{at_places, places_of, codes_of, place_at}}
use Rattle.cap_machine.specs.States.{State, start, untagged_null, put, granule_key}
use Rattle.cap_machine.proofs.GranuleLemmas.{cap_of, granule_cap-absent}

-- n copies of a value have it at each index, and past their end the default is that value
pub copies : {A : Type 0} (n key : ℕ) (a d : A) → a ≡ d → get_or (replicate n a) key d ≡ d
copies n key a d e =
    elim (cases_lt key n) [
      | inl below ↦ get_or-replicate n key a d below ∙ e
      | inr past ↦ let len = length-replicate n a in get_or_past (replicate n a) key d (omega arith)
    ]

choice_same : {A : Type 0} (b : Bool) (x y z : A) → x ≡ z → y ≡ z → (if b then x else y) ≡ z
choice_same true x y z h k = h
choice_same false x y z h k = k

-- registers that all hold NULL, without an origin, and an empty memory
pub blank_state : (memory : Granules) (value : Cap) (key : ℕ) → memory ≡ map.empty → value ≡ untagged_null
    → places_of (replicate 32 value) memory key ≡ untagged_null
blank_state memory value key empty null =
    choice_same (nat_lt key 32) _ _ untagged_null (copies 32 key value untagged_null null)
    (granule_cap-absent memory (key - 32) (ap (λ (m : Granules). map.get m (key - 32)) empty ∙ map.get-empty nat_cmp (key - 32)))

pub blank_code : (memory : Granules) (key : ℕ) → memory ≡ map.empty → codes_of (replicate 32 0) memory key ≡ 0
blank_code memory key empty =
    choice_same (nat_lt key 32) _ _ 0 (copies 32 key 0 0 refl)
    (ap (λ (m : Granules). code_at m (key - 32)) empty ∙ ap (λ (e : Entry). e.2) (entry_at-empty (key - 32)))

-- two tests of the same numbers, the other way round
eqb-turned : (a b : ℕ) → (a == b) ≡ (b == a)
eqb-turned a b =
    elim (eqb_tells a b) [
      | inl same ↦ same.0 ∙ sym (eq-eqb b a (sym same.1))
      | inr unlike ↦ elim (eqb_tells b a) [ inl h ↦ absurd (unlike.1 (sym h.1)) | inr h ↦ unlike.0 ∙ sym h.0 ]
    ]

register_key : {A : Type 0} (registers : List A) (default value : A) (granules : ℕ → A) (target key : ℕ) → length registers ≡ 32
    → target ≤ 31
    → at_places (set registers target value) default granules key ≡ put (at_places registers default granules) target value key
register_key registers default value granules target key sized low =
    elim (eqb_tells target key) [
      | inl same ↦
          let below : key < 32 = omega arith in
          cond-true (nat_lt key 32) _ _ (lt-ltb key 32 below)
          ∙ ap (λ (k : ℕ). get_or (set registers target value) k default) (sym same.1)
          ∙ get_or-set_same registers target value default (omega arith)
          ∙ sym (cond-true (target == key) value _ same.0)
      | inr unlike ↦
          ap (λ c. if nat_lt key 32 then c else granules (key - 32)) (get_or-set_other registers target key value
          default (λ e. unlike.1 (sym e)))
          ∙ sym (cond-false (target == key) value _ unlike.0)
    ]

-- a register that holds another capability, and that has another code
pub state-register : (registers : List Cap) (memory : Granules) (target : ℕ) (value : Cap) → length registers ≡ 32 → target ≤ 31
    → places_of (set registers target value) memory ≡ put (places_of registers memory) target value
state-register registers memory target value sized low =
    fun_ext (λ key. register_key registers untagged_null value (granule_cap memory) target key sized low)

pub codes-register : (codes : List ℕ) (memory : Granules) (target code : ℕ) → length codes ≡ 32 → target ≤ 31
    → codes_of (set codes target code) memory ≡ put (codes_of codes memory) target code
codes-register codes memory target code sized low = fun_ext (λ key. register_key codes 0 code (code_at memory) target key sized low)

-- what an entry tells of each granule
abbrev telling : {A : Type 0} → (Entry → A) → Granules → ℕ → A
telling told memory granule = told (entry_at memory granule)

granule_of_key : {A : Type 0} (told : Entry → A) (memory : Granules) (granule : ℕ) (entry : Entry) (key : ℕ) → 32 ≤ key
    → telling told (map.insert memory granule entry) (key - 32)
    ≡ (if granule_key granule == key then told entry else telling told memory (key - 32))
granule_of_key told memory granule entry key high =
    elim (eqb_tells (granule_key granule) key) [
      | inl same ↦
          let number_is : key - 32 ≡ granule = omega arith in
          ap (telling told (map.insert memory granule entry)) number_is
          ∙ ap told (entry_at-put_same memory granule entry)
          ∙ sym (cond-true (granule_key granule == key) (told entry) _ same.0)
      | inr unlike ↦
          ap told (entry_at-put_other memory granule entry (key - 32) (λ e. unlike.1 (omega arith)))
          ∙ sym (cond-false (granule_key granule == key) (told entry) _ unlike.0)
    ]

granule_key_put : {A : Type 0} (registers : List A) (default : A) (told : Entry → A) (memory : Granules)
    (granule : ℕ) (entry : Entry) (key : ℕ)
    → at_places registers default (telling told (map.insert memory granule entry)) key
    ≡ put (at_places registers default (telling told memory)) (granule_key granule) (told entry) key
granule_key_put registers default told memory granule entry key =
    elim (cases_lt key 32) [
      | inl below ↦
          let low = lt-ltb key 32 below in
          let other : granule_key granule ≢ key = λ e. absurd (let f : granule + 32 ≡ key = e in omega arith) in
          cond-true (nat_lt key 32) _ _ low
          ∙ sym (cond-true (nat_lt key 32) _ _ low)
          ∙ sym (cond-false (granule_key granule == key) (told entry) _ (ne_eqb (granule_key granule) key other))
      | inr high ↦
          let past = le-ltb key 32 high in
          cond-false (nat_lt key 32) _ _ past
          ∙ granule_of_key told memory granule entry key high
          ∙ ap (λ c. if granule_key granule == key then told entry else c) (sym (cond-false (nat_lt key 32) _ _ past))
    ]

-- a granule that holds another entry
pub state-granule : (registers : List Cap) (memory : Granules) (granule : ℕ) (entry : Entry)
    → places_of registers (map.insert memory granule entry) ≡ put (places_of registers memory) (granule_key granule) (cap_of entry)
state-granule registers memory granule entry = fun_ext (λ key. granule_key_put registers untagged_null cap_of memory granule entry key)

pub codes-granule : (codes : List ℕ) (memory : Granules) (granule : ℕ) (entry : Entry)
    → codes_of codes (map.insert memory granule entry) ≡ put (codes_of codes memory) (granule_key granule) entry.2
codes-granule codes memory granule entry = fun_ext (λ key. granule_key_put codes 0 (λ (e : Entry). e.2) memory granule entry key)

some_or : {A : Type 0} (x : A) (b : Bool) (o : Option A) → is_some (if b then Some x else o) ≡ (b || is_some o)
some_or x true o = refl
some_or x false o = refl

-- which granules a map has
abbrev pub named_in : Granules → ℕ → Bool
named_in memory other = is_some (map.get memory other)

abbrev pub also_named : ℕ → (ℕ → Bool) → ℕ → Bool
also_named granule named other = granule == other || named other

-- a map with a granule put names it
pub named-put : (memory : Granules) (granule : ℕ) (entry : Entry)
    → named_in (map.insert memory granule entry) ≡ also_named granule (named_in memory)
named-put memory granule entry =
    fun_ext (λ other. ap is_some (get-put memory granule entry other) ∙ some_or entry (other == granule) (map.get memory other)
    ∙ ap (λ b. b || is_some (map.get memory other)) (eqb-turned other granule))

-- an account of these
abbrev pub account_with : Rules → Limits → State → Origins → ℕ → ℕ → (ℕ → Bool) → ℕ → Account
account_with rules_are limits_are state origins roots steps named granules =
    record { rules = rules_are; limits = limits_are; state = state; origin = origins; roots = roots; steps = steps; is_named = named; granules = granules }

-- the account of registers that all hold NULL, and an empty memory
pub blank_account : (rules_are : Rules) (limits_are : Limits) (memory : Granules) (room : ℕ) (value : Cap)
    → memory ≡ map.empty → value ≡ untagged_null
    → account_of (record {
      rules = rules_are;
      limits = limits_are;
      registers = replicate 32 value;
      codes = replicate 32 0;
      memory = memory;
      least_room = room;
      roots = 0;
      steps = 0;
    }) ≡ no_account rules_are limits_are
blank_account rules_are limits_are memory room value empty null =
    let origins = λ (k : ℕ). place_at (codes_of (replicate 32 0) memory k) in
    let unrooted : Origins = λ k. None in
    ap (λ (state : State). account_with rules_are limits_are state origins 0 0 (named_in memory) (map.len memory))
    (fun_ext (λ key. blank_state memory value key empty null))
    ∙ ap (λ (o : Origins). account_with rules_are limits_are (start []) o 0 0 (named_in memory) (map.len memory))
    (fun_ext (λ (key : ℕ). ap place_at (blank_code memory key empty)))
    ∙ ap (λ (m : Granules). account_with rules_are limits_are (start []) unrooted 0 0 (named_in m) (map.len m)) empty
    ∙ ap (λ (named : ℕ → Bool). let m : Granules = map.empty in account_with rules_are limits_are (start []) unrooted 0 0 named (map.len m))
    (fun_ext (λ (g : ℕ). ap is_some (map.get-empty nat_cmp g)))
    ∙ ap (account_with rules_are limits_are (start []) unrooted 0 0 (λ (g : ℕ). false)) (map.len-empty nat_cmp Entry)
