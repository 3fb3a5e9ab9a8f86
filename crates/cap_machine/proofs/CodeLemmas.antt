-- Codes of origins: what they are after each kind of change, and which origins they make.
use Rattle.std.specs.FinMap as map
use Rattle.std.proofs.Common.{◌≡◌, ℕ, ◌+◌, ◌-◌, ◌^◌, ◌<◌, ◌≤◌, Bool, true, false, ◌==◌, nat_lt, get_or, length, refl}
use Rattle.std.proofs.Common.{sym, ap, subst, ◌∙◌, arith, lit<, Option, Some, None, option_map, IfSome, inl, inr}
use Rattle.std.proofs.{Common.{if◌then◌else◌, set, lt-ltb, le-ltb, ne_eqb, option_and_then}, Math.Path.fun_ext}
use Rattle.std.proofs.lemmas.Bool.{cond-true, cond-false, false≢true, cases_lt, Decides.eqb_tells}
use Rattle.cap_word.specs.declared.word.Cap.{Cap}
use Rattle.cap_log.specs.declared.{kinds.Step.Step, lines.Place.{Place, TheVariants.{Register, Granule}}}
use Rattle.cap_log.specs.Lines.{IsPlace}
use Rattle.tagmem.specs.Granules.{Entry}
use Rattle.tagmem.proofs.Granules.{len-put}
use Rattle.cap_machine.specs.{Accounts.row_in, Changes.code_for, Helds.{Held, state_of, code_in, account_of}}
use Rattle.cap_machine.specs.{Origins.{Origins, origins_after}, Places.{IsCoded, AreCoded, codes_of, place_at}}
use Rattle.cap_machine.specs.{States.{State, key_of, put, granule_key, untagged_null}, Steps.row_of}
use Rattle.cap_machine.proofs.{GranuleLemmas.cap_of, StateLemmas.{account_with, also_named, named_in, named-put}}
use Rattle.cap_machine.proofs.StateLemmas.{state-register, state-granule, codes-register, codes-granule}
use Rattle.cap_machine.proofs.StepLemmas.{hits, hits-row_by, parent_in}

-- the places that codes are of
pub place_at-key : (place : Place) → IsPlace place → place_at (key_of place) ≡ Some place
place_at-key (Register n) range =
    cond-false (n == 0) _ _ (ne_eqb n 0 (λ e. let f : n ≡ 0 = e in omega (arith, range.0)))
    ∙ cond-true (nat_lt n 32) _ _ (lt-ltb n 32 (omega (arith, range.1)))
place_at-key (Granule g) range =
    let past : nat_lt (g + 32) 32 ≡ false = le-ltb (g + 32) 32 (omega arith) in
    let back : g + 32 - 32 ≡ g = omega arith in
    cond-false (g + 32 == 0) _ _ (ne_eqb (g + 32) 0 (λ e. let f : g + 32 ≡ 0 = e in omega arith)) ∙ cond-false (nat_lt (g + 32) 32) _ _ past
    ∙ ap (λ (h : ℕ). Some (Granule h)) back

pub place_in_range : (code : ℕ) → code < 2 ^ 60 + 32 → IfSome (place_at code) IsPlace
place_in_range code below =
    elim (eqb_tells code 0) [
      | inl same ↦ subst (λ (o : Option Place). IfSome o IsPlace) (sym (cond-true (code == 0) None _ same.0)) tt
      | inr unlike ↦
          elim (cases_lt code 32) [
            | inl low ↦
                subst (λ (o : Option Place). IfSome o IsPlace) (sym (cond-false (code == 0) None _ unlike.0
                ∙ cond-true (nat_lt code 32) (Some (Register code)) _ (lt-ltb code 32 low)))
                (omega (arith, unlike.1), omega arith)
            | inr high ↦
                subst (λ (o : Option Place). IfSome o IsPlace) (sym (cond-false (code == 0) None _ unlike.0
                ∙ cond-false (nat_lt code 32) _ (Some (Granule (code - 32))) (le-ltb code 32 high)))
                (omega arith)
          ]
    ]

-- the code of a result
pub code_for-coded : (tag : Bool) (code : ℕ) → IsCoded tag code → code_for tag code ≡ code
code_for-coded true code coded = refl
code_for-coded false code coded = sym (coded.0.1 refl)

-- a root's own code
pub root_coded : (place : Place) → IsPlace place → IsCoded true (key_of place)
root_coded (Register n) range =
    ((λ e. absurd (let f : n ≡ 0 = e in omega (arith, range.0)), λ e. absurd (false≢true (sym e))), omega (arith, range.1))
root_coded (Granule g) range =
    ((λ e. absurd (let f : g + 32 ≡ 0 = e in omega arith), λ e. absurd (false≢true (sym e))), let f : g < 2 ^ 60 = range in omega arith)

-- NULL without a tag everywhere
pub coded_blank : (state : State) (codes : ℕ → ℕ) → ((key : ℕ) → state key ≡ untagged_null) → ((key : ℕ) → codes key ≡ 0)
    → AreCoded state codes
coded_blank state codes null none key =
    subst (λ (cap : Cap). IsCoded cap.tag (codes key)) (sym (null key)) (subst (IsCoded false) (sym (none key))
    ((λ _. refl, λ _. refl), lit< tt))

coded_choice : (b : Bool) (x y : Cap) (m n : ℕ) → IsCoded x.tag m → IsCoded y.tag n
    → let cap : Cap = if b then x else y in IsCoded cap.tag (if b then m else n)
coded_choice true x y m n h k = h
coded_choice false x y m n h k = k

pub coded_put : (state : State) (codes : ℕ → ℕ) (key : ℕ) (cap : Cap) (code : ℕ) → AreCoded state codes → IsCoded cap.tag code
    → AreCoded (put state key cap) (put codes key code)
coded_put state codes key cap code all one other = coded_choice (key == other) cap (state other) code (codes other) one (all other)

-- the code of a register's origin
pub code-register : (held : Held) (number : ℕ) → number ≤ 31 → code_in held number ≡ get_or held.codes number 0
code-register held number low = cond-true (nat_lt number 32) _ _ (lt-ltb number 32 (omega arith))

-- the origins that codes make
abbrev pub origins_by : (ℕ → ℕ) → Origins
origins_by codes key = place_at (codes key)

choice_under : {A B : Type 0} (f : A → B) (b : Bool) (x y : A) → f (if b then x else y) ≡ (if b then f x else f y)
choice_under f true x y = refl
choice_under f false x y = refl

pub origins-put : (codes : ℕ → ℕ) (key code : ℕ) → origins_by (put codes key code) ≡ put (origins_by codes) key (place_at code)
origins-put codes key code = fun_ext (λ other. choice_under place_at (key == other) code (codes other))

-- the account where a register holds another capability, with another code
pub account-register : (old : Held) (target : ℕ) (cap : Cap) (code : ℕ) (origins : Origins) → length old.registers ≡ 32
    → length old.codes ≡ 32 → target ≤ 31 → put (origins_by (code_in old)) target (place_at code) ≡ origins
    → account_of (record old { registers = set old.registers target cap; codes = set old.codes target code })
    ≡ account_with old.rules old.limits (put (state_of old) target cap) origins old.roots old.steps (named_in old.memory) (map.len old.memory)
account-register old target cap code origins sized coded_so low is =
    ap (λ (s : State). account_with old.rules old.limits s (origins_by (codes_of (set old.codes target code) old.memory)) old.roots old.steps
    (named_in old.memory) (map.len old.memory)) (state-register old.registers old.memory target cap sized low)
    ∙ ap (λ (o : Origins). account_with old.rules old.limits (put (state_of old) target cap) o old.roots old.steps (named_in old.memory)
    (map.len old.memory))
    (ap origins_by (codes-register old.codes old.memory target code coded_so low) ∙ origins-put (code_in old) target code ∙ is)

-- the account where a granule holds another entry
pub account-granule : (old : Held) (granule : ℕ) (entry : Entry) (cap : Cap) (origins : Origins) → cap_of entry ≡ cap
    → put (origins_by (code_in old)) (granule_key granule) (place_at entry.2) ≡ origins
    → account_of (record old { memory = map.insert old.memory granule entry })
    ≡ account_with old.rules old.limits (put (state_of old) (granule_key granule) cap) origins old.roots old.steps
    (also_named granule (named_in old.memory)) (if named_in old.memory granule then map.len old.memory else map.len old.memory + 1)
account-granule old granule entry cap origins holds is =
    let after = map.insert old.memory granule entry in
    let state = put (state_of old) (granule_key granule) cap in
    ap (λ (s : State). account_with old.rules old.limits s (origins_by (codes_of old.codes after)) old.roots old.steps (named_in after) (map.len after))
    (state-granule old.registers old.memory granule entry ∙ ap (put (state_of old) (granule_key granule)) holds)
    ∙ ap (λ (o : Origins). account_with old.rules old.limits state o old.roots old.steps (named_in after) (map.len after))
    (ap origins_by (codes-granule old.codes old.memory granule entry) ∙ origins-put (code_in old) (granule_key granule) entry.2 ∙ is)
    ∙ ap (λ (named : ℕ → Bool). account_with old.rules old.limits state origins old.roots old.steps named (map.len after))
    (named-put old.memory granule entry)
    ∙ ap (account_with old.rules old.limits state origins old.roots old.steps (also_named granule (named_in old.memory)))
    (len-put old.memory granule entry)

-- where a result is tagged, the place that it comes from has this code
abbrev pub IsFrom : Held → Step → Cap → ℕ → Type 0
IsFrom held step value code =
    value.tag ≡ true → option_and_then (origins_by (code_in held)) (option_map key_of (row_of (state_of held) step).parent) ≡ place_at code

origin_of_result : (origins : Origins) (parent : Option Place) (tag : Bool) (code : ℕ)
    → (tag ≡ true → option_and_then origins (option_map key_of parent) ≡ place_at code)
    → place_at (code_for tag code) ≡ option_and_then origins (if tag then option_map key_of parent else None)
origin_of_result origins parent true code from = sym (from refl)
origin_of_result origins parent false code from = refl

origin_there : (origins : Origins) (parent : Option Place) (b : Bool) (value other : Cap) (key code : ℕ)
    → (value.tag ≡ true → option_and_then origins (option_map key_of parent) ≡ place_at code)
    → (if b then place_at (code_for value.tag code) else origins key)
    ≡ option_and_then origins (parent_in b (let cap : Cap = if b then value else other in cap.tag) parent key)
origin_there origins parent true value other key code from = origin_of_result origins parent value.tag code from
origin_there origins parent false value other key code from = refl

-- what a step writes has the origin of its parent, and every other place keeps its own
pub origin-written : (old : Held) (step : Step) (place : Place) (value : Cap) (code : ℕ)
    → (row_in (account_of old) step).writes ≡ Some (place, value)
    → IsFrom old step value code
    → put (origins_by (code_in old)) (key_of place) (place_at (code_for value.tag code))
    ≡ origins_after (origins_by (code_in old)) (state_of old) step (put (state_of old) (key_of place) value)
origin-written old step place value code writes from =
    let origins = origins_by (code_in old) in
    let state = state_of old in
    let row = row_of state step in
    fun_ext (λ key.
    let hit : hits row.writes key ≡ (key_of place == key) = sym (hits-row_by old.rules row key)
    ∙ ap (λ (w : Option (Place × Cap)). hits w key) writes in
    origin_there origins row.parent (key_of place == key) value (state key) key code from
    ∙ ap (λ (b : Bool). option_and_then origins (parent_in b (put state (key_of place) value key).tag row.parent key)) (sym hit))
