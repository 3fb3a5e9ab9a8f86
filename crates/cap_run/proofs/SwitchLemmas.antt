-- What registers hold after a hart line, where those of the hart that was current were kept and those of the next one came back.
use Rattle.std.proofs.Common.{◌≡◌, ◌≢◌, ◌==◌, ◌<◌, ◌≤◌, ◌+◌, ◌-◌, ◌*◌, ◌/◌, ◌%◌, ◌^◌, ◌||◌, ℕ, Bool, true, false, nat_le, nat_lt, if◌then◌else◌, List, slice_index_or, Option, Some, None, option_map, is_some}
use Rattle.std.proofs.Common.{refl, sym, ap, subst, ◌∙◌, arith, inl, inr, ne_eqb, eq-eqb, lt-ltb, le-ltb, le-leb}
use Rattle.std.proofs.lemmas.Bool.{cases_lt, cond-true, cond-false, lt-leb, Decides.eqb_tells}
use Rattle.std.proofs.{lemmas.List.get_or_past, Math.Path.fun_ext}
use Rattle.std.specs.FinMap as map
use Rattle.std.specs.{Option.option_map_or}
use Rattle.cap_word.specs.declared.word.Cap.{Cap}
use Rattle.tagmem.specs.Granules.{Granules, code_at}
use Rattle.cap_machine.specs.{declared.registers.Registers.Registers, States.{put, untagged_null}}
use Rattle.cap_machine.specs.{Helds.{Held, account_of, state_of}, Places.{IsCoded, at_places, granule_cap, place_at}}
use Rattle.cap_machine.specs.Registers.{cap_in as cap_at, caps_of, label_in as label_at, labels_of}
use Rattle.cap_run.specs.{declared.specials.{Bank.Bank, Specials.Specials}, Harts.{away_key, came_from, most_harts, near_key}, Run.{first_special, register_key, with_specials}}
use Rattle.cap_run_log.specs.declared.lines.RunRegister.{RunRegister}
use Rattle.cap_objects.specs.{Counts.{CountsAre, Owners, owned_by}, declared.handouts.Handouts.Handouts, Extents.Objects, Handed.held_of, HandoutsIn.objects_of}
use Rattle.cap_run.specs.{Numbers.{numbered, numbered_run}, RunChanges.hart_after, RunSteps.IsUnstepped}
use Rattle.cap_run.specs.{Owned.{AreWithin, IsWithin, object_by}, RunOf.{run_owners, run_state}}
use Rattle.cap_run.specs.Specials.{Keeps, Restores, bank_of, banks_at, cap_in, harts_in, in_bank, label_in, told_in}
use Rattle.cap_run.proofs.HartLemmas.{came-current, came-granule, came-low, came-next, came-other, came-scr, near-high, near-low}

module _ {A : Type 0} (told : Registers → ℕ → A) (nothing : A) where
  -- a special register
  pub told-near : (s : Specials) (number : ℕ) → number < 64 → told_in told nothing s number ≡ told s.registers number
  told-near s number low = cond-true (nat_lt number 64) _ _ (lt-ltb number 64 low)

  told-far : (s : Specials) (hart register : ℕ) → register < 64
      → told_in told nothing s (64 * (hart + 1) + register) ≡ option_map_or (in_bank told register) (bank_of s hart) nothing
  told-far s hart register few =
      let number = 64 * (hart + 1) + register in
      let rest : number % 64 ≡ register = omega (arith, few) in
      let whole : number / 64 - 1 ≡ hart = omega (arith, few) in
      cond-false (nat_lt number 64) _ _ (le-ltb number 64 (omega arith))
      ∙ ap (λ (r : ℕ). option_map_or (in_bank told r) (bank_of s (number / 64 - 1)) nothing) rest
      ∙ ap (λ (h : ℕ). option_map_or (in_bank told register) (bank_of s h) nothing) whole

  bank-away : (s : Specials) (hart : ℕ) → hart < most_harts → hart ≢ s.current → bank_of s hart ≡ banks_at s hart
  bank-away s hart low other =
      cond-false (hart == s.current || nat_le (2 ^ 16) hart) None (banks_at s hart)
      (ap (λ (b : Bool). b || nat_le (2 ^ 16) hart) (ne_eqb hart s.current other) ∙ lt-leb (2 ^ 16) hart (omega (arith, low)))

  bank-current : (s : Specials) → bank_of s s.current ≡ None
  bank-current s =
      cond-true (s.current == s.current || nat_le (2 ^ 16) s.current) None (banks_at s s.current)
      (ap (λ (b : Bool). b || nat_le (2 ^ 16) s.current) (eq-eqb s.current s.current refl))

  bank-none : (s : Specials) (hart : ℕ) → 2 ^ 16 ≤ hart → bank_of s hart ≡ None
  bank-none s hart high =
      cond-true (hart == s.current || nat_le (2 ^ 16) hart) None (banks_at s hart) (or-last (hart == s.current) (le-leb (2 ^ 16) hart high))
    where
      or-last : (a : Bool) {b : Bool} → b ≡ true → (a || b) ≡ true
      or-last true is = refl
      or-last false is = is

  -- a special register was written
  pub told-put : (s : Specials) (registers : Registers) (number : ℕ) (value : A) → number < 64
      → told registers ≡ put (told s.registers) number value
      → (other : ℕ) → told_in told nothing (record s { registers = registers }) other ≡ put (told_in told nothing s) number value other
  told-put s registers number value low is other = elim (cases_lt other 64) [
    | inl few ↦
        cond-true (nat_lt other 64) _ _ (lt-ltb other 64 few) ∙ ap (λ (f : ℕ → A). f other) is
        ∙ ap (λ (v : A). if number == other then value else v) (sym (told-near s other few))
    | inr far ↦
        let differ : (number == other) ≡ false = ne_eqb number other (λ same. omega (arith, same, low, far)) in
        cond-false (nat_lt other 64) _ _ (le-ltb other 64 far) ∙ sym (cond-false (nat_lt other 64) _ _ (le-ltb other 64 far))
        ∙ sym (cond-false (number == other) value (told_in told nothing s other) differ)
  ]

  module _ (past : (registers : Registers) (number : ℕ) → 32 ≤ number → told registers number ≡ nothing) (before after : Specials) (from to : ℕ) (differ : from ≢ to) (from_low : from < most_harts) (to_low : to < most_harts)
      (from_is : before.current ≡ from) (to_is : after.current ≡ to) (saved loaded : Bank) (saved_is : banks_at after from ≡ Some saved)
      (loaded_is : banks_at before to ≡ Some loaded) (others : (hart : ℕ) → hart ≢ from → banks_at after hart ≡ banks_at before hart)
      (saved_special : saved.special ≡ before.registers) (loaded_special : after.registers ≡ loaded.special)
      (main next : ℕ → A) (main_is : (key : ℕ) → key < 32 → main key ≡ told saved.general key)
      (next_is : (key : ℕ) → key < 32 → next key ≡ told loaded.general key) (granules : (key : ℕ) → 32 ≤ key → next key ≡ main key) where
    abbrev old : ℕ → A
    old = with_specials main (told_in told nothing before)

    abbrev new : ℕ → A
    new = with_specials next (told_in told nothing after)

    old-low : (key : ℕ) → key < first_special → old key ≡ main key
    old-low key low = cond-true (nat_lt key first_special) _ _ (lt-ltb key first_special low)

    new-low : (key : ℕ) → key < first_special → new key ≡ next key
    new-low key low = cond-true (nat_lt key first_special) _ _ (lt-ltb key first_special low)

    old-special : (number : ℕ) → old (first_special + number) ≡ told_in told nothing before number
    old-special number =
        let rest : first_special + number - first_special ≡ number = omega arith in
        cond-false (nat_lt (first_special + number) first_special) _ _ (le-ltb (first_special + number) first_special (omega arith))
        ∙ ap (told_in told nothing before) rest

    new-special : (number : ℕ) → new (first_special + number) ≡ told_in told nothing after number
    new-special number =
        let rest : first_special + number - first_special ≡ number = omega arith in
        cond-false (nat_lt (first_special + number) first_special) _ _ (le-ltb (first_special + number) first_special (omega arith))
        ∙ ap (told_in told nothing after) rest

    -- what the hart that is named next held
    old-next : (register : ℕ) → register < 64 → old (away_key to register) ≡ in_bank told register loaded
    old-next register few =
        old-special (64 * (to + 1) + register) ∙ told-far before to register few
        ∙ ap (λ (b : Option Bank). option_map_or (in_bank told register) b nothing)
        (bank-away before to to_low (λ e. differ (sym from_is ∙ sym e)) ∙ loaded_is)

    -- nothing is told of the current hart's elsewhere
    old-current : (register : ℕ) → register < 64 → old (away_key from register) ≡ nothing
    old-current register few =
        old-special (64 * (from + 1) + register) ∙ told-far before from register few
        ∙ ap (λ (b : Option Bank). option_map_or (in_bank told register) b nothing)
        (ap (bank_of before) (sym from_is) ∙ bank-current before)

    in-general : (bank : Bank) (register : ℕ) → register < 32 → in_bank told register bank ≡ told bank.general register
    in-general bank register low = cond-true (nat_lt register 32) _ _ (lt-ltb register 32 low)

    in-special : (bank : Bank) (register : ℕ) → 32 ≤ register → in_bank told register bank ≡ told bank.special (register - 32)
    in-special bank register high = cond-false (nat_lt register 32) _ _ (le-ltb register 32 high)

    -- what the hart that was current holds then
    kept : (register : ℕ) → register < 64 → in_bank told register saved ≡ old (near_key register)
    kept register few = elim (cases_lt register 32) [
      | inl low ↦
          in-general saved register low ∙ sym (main_is register low) ∙ sym (old-low register (omega (arith, low)))
          ∙ ap old (sym (near-low register low))
      | inr high ↦
          in-special saved register high ∙ ap (λ (r : Registers). told r (register - 32)) saved_special
          ∙ sym (told-near before (register - 32) (omega (arith, few)))
          ∙ sym (old-special (register - 32)) ∙ ap old (sym (near-high register high))
    ]

    came-far : (number : ℕ) → 32 ≤ number → new (first_special + number) ≡ old (came_from from to (first_special + number))
    came-far number high = elim (eqb_tells (number / 64) (from + 1)) [
      | inl is ↦
          let e = is.1 in
          let number_is : 64 * (from + 1) + number % 64 ≡ number = omega (arith, e) in
          new-special number ∙ ap (told_in told nothing after) (sym number_is) ∙ told-far after from (number % 64) (omega arith)
          ∙ ap (λ (b : Option Bank). option_map_or (in_bank told (number % 64)) b nothing)
          (bank-away after from from_low (λ same. differ (same ∙ to_is)) ∙ saved_is)
          ∙ kept (number % 64) (omega arith)
          ∙ ap old (sym (came-current from to differ from_low to_low number high is.1))
      | inr one ↦ elim (eqb_tells (number / 64) (to + 1)) [
        | inl is ↦
            let e = is.1 in
            let number_is : 64 * (to + 1) + number % 64 ≡ number = omega (arith, e) in
            new-special number ∙ ap (told_in told nothing after) (sym number_is) ∙ told-far after to (number % 64) (omega arith)
            ∙ ap (λ (b : Option Bank). option_map_or (in_bank told (number % 64)) b nothing)
            (ap (bank_of after) (sym to_is) ∙ bank-current after)
            ∙ sym (old-current (number % 64) (omega arith))
            ∙ ap old (sym (came-next from to differ from_low to_low number high is.1))
        | inr two ↦
            new-special number ∙ told-other number high one.1 two.1 ∙ sym (old-special number)
            ∙ ap old (sym (came-other from to differ from_low to_low number high one.1 two.1))
      ]
    ] where
      told-other : (number : ℕ) → 32 ≤ number → number / 64 ≢ from + 1 → number / 64 ≢ to + 1
          → told_in told nothing after number ≡ told_in told nothing before number
      told-other number high one two = elim (cases_lt number 64) [
        | inl few ↦
            told-near after number few ∙ past after.registers number high ∙ sym (past before.registers number high) ∙ sym (told-near before number few)
        | inr far ↦
            let hart = number / 64 - 1 in
            let number_is : 64 * (hart + 1) + number % 64 ≡ number = omega (arith, far) in
            let no_from : hart ≢ from = λ e. one (omega (arith, e, far)) in
            let no_to : hart ≢ to = λ e. two (omega (arith, e, far)) in
            let banks : bank_of after hart ≡ bank_of before hart = elim (cases_lt hart (2 ^ 16)) [
              | inl low ↦
                  bank-away after hart (omega (arith, low)) (λ e. no_to (e ∙ to_is)) ∙ others hart no_from
                  ∙ sym (bank-away before hart (omega (arith, low)) (λ e. no_from (e ∙ from_is)))
              | inr high_hart ↦ bank-none after hart high_hart ∙ sym (bank-none before hart high_hart)
            ] in
            ap (told_in told nothing after) (sym number_is) ∙ told-far after hart (number % 64) (omega arith)
            ∙ ap (λ (b : Option Bank). option_map_or (in_bank told (number % 64)) b nothing) banks
            ∙ sym (told-far before hart (number % 64) (omega arith)) ∙ ap (told_in told nothing before) number_is
      ]

    pub switched : (key : ℕ) → new key ≡ old (came_from from to key)
    switched key = elim (cases_lt key 32) [
      | inl low ↦
          new-low key (omega (arith, low)) ∙ next_is key low ∙ sym (in-general loaded key low) ∙ sym (old-next key (omega (arith, low)))
          ∙ ap old (sym (came-low from to differ from_low to_low key low))
      | inr high ↦ elim (cases_lt key first_special) [
        | inl under ↦
            new-low key under ∙ granules key high ∙ sym (old-low key under) ∙ ap old (sym (came-granule from to differ from_low to_low key high under))
        | inr over ↦
            let key_is : first_special + (key - first_special) ≡ key = omega (arith, over) in
            subst (λ (k : ℕ). new k ≡ old (came_from from to k)) key_is (elim (cases_lt (key - first_special) 32) [
              | inl low ↦
                  let number = key - first_special in
                  let rest : 32 + number - 32 ≡ number = omega arith in
                  new-special number ∙ told-near after number (omega (arith, low)) ∙ ap (λ (r : Registers). told r number) loaded_special
                  ∙ ap (told loaded.special) (sym rest) ∙ sym (in-special loaded (32 + number) (omega arith))
                  ∙ sym (old-next (32 + number) (omega (arith, low))) ∙ ap old (sym (came-scr from to differ from_low to_low number low))
              | inr far ↦ came-far (key - first_special) far
            ])
      ]
    ]

-- what is told of places, by what is told of registers
if-map : {A B : Type 0} (f : A → B) (b : Bool) (x y : A) → (if b then f x else f y) ≡ f (if b then x else y)
if-map f true x y = refl
if-map f false x y = refl

pub with_same : {A : Type 0} (main special other : ℕ → A) → ((number : ℕ) → special number ≡ other number)
    → (key : ℕ) → with_specials main special key ≡ with_specials main other key
with_same {A} main special other same key = ap (λ (v : A). if nat_lt key first_special then main key else v) (same (key - first_special))

cap-past : (registers : Registers) (number : ℕ) → 32 ≤ number → cap_at registers number ≡ untagged_null
cap-past registers number high =
    let sized = registers.sized.0 in get_or_past registers.caps number untagged_null (omega (arith, sized, high))

label-past : (registers : Registers) (number : ℕ) → 32 ≤ number → label_at registers number ≡ 0
label-past registers number high =
    let sized = registers.sized.1 in get_or_past registers.labels number 0 (omega (arith, sized, high))

-- the label of a special register of the current hart is coded, and past the registers of all harts is none
pub coded-near : (s : Specials) (number : ℕ) → number < 32 → IsCoded (cap_in s number).tag (label_in s number)
coded-near s number low =
    let few : number < 64 = omega (arith, low) in
    subst (λ (c : Cap). IsCoded c.tag (label_in s number)) (sym (told-near cap_at untagged_null s number few))
    (subst (IsCoded (cap_at s.registers number).tag) (sym (told-near label_at 0 s number few)) (s.registers.coded number low))

pub label-far : (s : Specials) (number : ℕ) → 2 ^ 22 + 64 ≤ number → label_in s number ≡ 0
label-far s number far =
    cond-false (nat_lt number 64) _ _ (le-ltb number 64 (omega (arith, far)))
    ∙ ap (λ (b : Option Bank). option_map_or (in_bank label_at (number % 64)) b 0)
    (bank-none label_at 0 s (number / 64 - 1) (omega (arith, far)))

-- what registers and granules hold
place-low : {A : Type 0} (registers : List A) (default : A) (granules : ℕ → A) (key : ℕ) → key < 32
    → at_places registers default granules key ≡ slice_index_or registers key default
place-low registers default granules key low = cond-true (nat_lt key 32) _ _ (lt-ltb key 32 low)

place-high : {A : Type 0} (registers others : List A) (default : A) (granules : ℕ → A) (key : ℕ) → 32 ≤ key
    → at_places registers default granules key ≡ at_places others default granules key
place-high registers others default granules key high =
    cond-false (nat_lt key 32) _ _ (le-ltb key 32 high) ∙ sym (cond-false (nat_lt key 32) _ _ (le-ltb key 32 high))

module _ (first second kept after : Specials) (held next : Held) (to : ℕ) (differ : to ≢ second.current) (low : second.current < most_harts)
    (to_low : to < most_harts) (keeps : Keeps second held kept) (restores : Restores kept held to after next) where
  loaded_is : banks_at second to ≡ Some restores.bank
  loaded_is = sym (keeps.others to differ) ∙ restores.there

  module _ {A : Type 0} (told : Registers → ℕ → A) (nothing : A) (past : (registers : Registers) (number : ℕ) → 32 ≤ number → told registers number ≡ nothing)
      (same : (number : ℕ) → told_in told nothing second number ≡ told_in told nothing first number)
      (held_list next_list : List A) (stored : ℕ → A)
      (kept_is : (key : ℕ) → told keeps.bank.general key ≡ slice_index_or held_list key nothing)
      (back_is : (key : ℕ) → slice_index_or next_list key nothing ≡ told restores.bank.general key) where
    told-switched : (key : ℕ) → with_specials (at_places next_list nothing stored) (told_in told nothing after) key
        ≡ with_specials (at_places held_list nothing stored) (told_in told nothing first) (came_from second.current to key)
    told-switched key =
        switched told nothing past second after second.current to (λ e. differ (sym e)) low to_low refl restores.current keeps.bank restores.bank
        (restores.banks second.current ∙ keeps.there) loaded_is (λ hart other. restores.banks hart ∙ keeps.others hart other) keeps.special restores.special
        (at_places held_list nothing stored) (at_places next_list nothing stored)
        (λ k few. place-low held_list nothing stored k few ∙ sym (kept_is k)) (λ k few. place-low next_list nothing stored k few ∙ back_is k)
        (λ k high. place-high next_list held_list nothing stored k high) key
        ∙ with_same (at_places held_list nothing stored) (told_in told nothing second) (told_in told nothing first) same (came_from second.current to key)

  pub state-switched : ((number : ℕ) → cap_in second number ≡ cap_in first number)
      → (key : ℕ) → run_state next after key ≡ run_state held first (came_from second.current to key)
  state-switched same key =
      ap (λ (h : Held). run_state h after key) restores.held_is
      ∙ told-switched cap_at untagged_null cap-past same held.registers (caps_of restores.bank.general) (granule_cap held.memory)
      (λ k. ap (λ (f : ℕ → Cap). f k) keeps.caps) (λ k. refl) key

  pub owners-switched : ((number : ℕ) → label_in second number ≡ label_in first number)
      → (key : ℕ) → run_owners next after key ≡ run_owners held first (came_from second.current to key)
  owners-switched same key =
      ap (λ (h : Held). run_owners h after key) restores.held_is
      ∙ if-map owner (nat_lt key first_special) _ _
      ∙ ap owner (told-switched label_at 0 label-past same held.codes (labels_of restores.bank.general) (code_at held.memory)
      (λ k. ap (λ (f : ℕ → ℕ). f k) keeps.labels) (λ k. refl) key)
      ∙ sym (if-map owner (nat_lt (came_from second.current to key) first_special) _ _)
    where
      owner : ℕ → Option ℕ
      owner label = object_by (place_at label)
