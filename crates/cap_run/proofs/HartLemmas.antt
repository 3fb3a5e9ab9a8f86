-- What a hart line moves: each register of the current hart, with those of its number of the two harts.
use Rattle.std.proofs.Common.{◌≡◌, ◌≢◌, ◌==◌, ◌<◌, ◌≤◌, ◌+◌, ◌-◌, ◌*◌, ◌/◌, ◌%◌, ◌||◌, ◌⊎◌, ℕ, zero, suc, Bool, true, false, max, nat_le, nat_lt, if◌then◌else◌}
use Rattle.std.proofs.Common.{refl, sym, ap, subst, ◌∙◌, arith, inl, inr, ne_eqb, eq-eqb, lt-ltb, le-ltb}
use Rattle.std.proofs.lemmas.Bool.{cases_Bool, cases_lt, cond-true, cond-false, false≢true, Decides.{eqb_tells, nat_tests}}
use Rattle.cap_objects.specs.Counts.{Owners, at_key, count_below, is_owner, most_places, owned_by}
use Rattle.cap_objects.proofs.{BelowLemmas.{below-put, below-same, one}, KeyLemmas.{at-other, at-same}}
use Rattle.cap_run.specs.{Harts.{away_key, came_from, most_harts, near_key, special_from}, Keys.first_special}

-- nothing moves where the harts are one, or one is none
abbrev Still : ℕ → ℕ → Bool
Still from to = from == to || nat_le most_harts (max from to)

-- a register of the current hart
pub near-low : (register : ℕ) → register < 32 → near_key register ≡ register
near-low register low = cond-true (nat_lt register 32) register _ (lt-ltb register 32 low)

pub near-high : (register : ℕ) → 32 ≤ register → near_key register ≡ first_special + (register - 32)
near-high register high = cond-false (nat_lt register 32) register _ (le-ltb register 32 high)

-- it is c0 to c31 or scr0 to scr31
near-range : (register : ℕ) → register < 64
    → ((register < 32) × (near_key register ≡ register)) ⊎ ((32 ≤ register) × (near_key register ≡ first_special + (register - 32)))
near-range register few = elim (cases_lt register 32) [
  | inl low ↦ inl (low, near-low register low)
  | inr high ↦ inr (high, near-high register high)
]

near-one : (a b : ℕ) → a < 64 → b < 64 → near_key a ≡ near_key b → a ≡ b
near-one a b few few' same = elim (near-range a few) [
  | inl x ↦ elim (near-range b few') [
    | inl y ↦ sym x.1 ∙ same ∙ y.1
    | inr y ↦ let e = sym x.1 ∙ same ∙ y.1 in let low = x.0 in omega (arith, e, low)
  ]
  | inr x ↦ elim (near-range b few') [
    | inl y ↦ let e = sym x.1 ∙ same ∙ y.1 in let low = y.0 in omega (arith, e, low)
    | inr y ↦ let e = sym x.1 ∙ same ∙ y.1 in let high = x.0 in let high' = y.0 in omega (arith, e, high, high')
  ]
]

near-away : (a hart b : ℕ) → a < 64 → near_key a ≡ away_key hart b → ⊥
near-away a hart b few same = elim (near-range a few) [
  | inl x ↦ let e = sym x.1 ∙ same in let low = x.0 in omega (arith, e, low)
  | inr x ↦ let e = sym x.1 ∙ same in let high = x.0 in omega (arith, e, high, few)
]

away-one : (hart other a b : ℕ) → a < 64 → b < 64 → away_key hart a ≡ away_key other b → (hart ≡ other) × (a ≡ b)
away-one hart other a b few few' same = (omega (arith, few, few', same), omega (arith, few, few', same))

module _ (from to : ℕ) (differ : from ≢ to) where
  -- where the first registers come from, after so many were moved
  moved : ℕ → ℕ → ℕ
  moved zero key = key
  moved (suc k) key =
      if near_key k == key then away_key to k else
      (if away_key from k == key then near_key k else (if away_key to k == key then away_key from k else moved k key))

  at-near : (k key : ℕ) → near_key k ≡ key → moved (suc k) key ≡ away_key to k
  unfolding moved
  at-near k key is = cond-true (near_key k == key) _ _ (eq-eqb (near_key k) key is)

  at-from : (k key : ℕ) → near_key k ≢ key → away_key from k ≡ key → moved (suc k) key ≡ near_key k
  unfolding moved
  at-from k key one is =
      cond-false (near_key k == key) _ _ (ne_eqb (near_key k) key one) ∙ cond-true (away_key from k == key) _ _ (eq-eqb (away_key from k) key is)

  at-to : (k key : ℕ) → near_key k ≢ key → away_key from k ≢ key → away_key to k ≡ key → moved (suc k) key ≡ away_key from k
  unfolding moved
  at-to k key one two is =
      cond-false (near_key k == key) _ _ (ne_eqb (near_key k) key one)
      ∙ cond-false (away_key from k == key) _ _ (ne_eqb (away_key from k) key two)
      ∙ cond-true (away_key to k == key) _ _ (eq-eqb (away_key to k) key is)

  at-none : (k key : ℕ) → near_key k ≢ key → away_key from k ≢ key → away_key to k ≢ key → moved (suc k) key ≡ moved k key
  unfolding moved
  at-none k key one two three =
      cond-false (near_key k == key) _ _ (ne_eqb (near_key k) key one)
      ∙ cond-false (away_key from k == key) _ _ (ne_eqb (away_key from k) key two)
      ∙ cond-false (away_key to k == key) _ _ (ne_eqb (away_key to k) key three)

  -- what isn't one of these stays
  IsNone : ℕ → ℕ → Type 0
  IsNone k key = (r : ℕ) → r < k → (near_key r ≢ key) × (away_key from r ≢ key) × (away_key to r ≢ key)

  missed : (k key : ℕ) → IsNone k key → moved k key ≡ key
  unfolding moved IsNone
  missed zero key none = refl
  missed (suc k) key none =
      let here = none k (omega arith) in
      at-none k key here.0 here.1 here.2 ∙ missed k key (λ r low. none r (omega (arith, low)))

  -- the registers from k on aren't moved yet
  near-none : (k r : ℕ) → k ≤ r → r < 64 → IsNone k (near_key r)
  unfolding IsNone
  near-none k r later few s low = (
    λ same. let e = near-one s r (omega (arith, low, later, few)) few same in omega (arith, low, later, e),
    λ same. near-away r from s few (sym same),
    λ same. near-away r to s few (sym same),
  )

  from-none : (k r : ℕ) → k ≤ r → r < 64 → IsNone k (away_key from r)
  unfolding IsNone
  from-none k r later few s low = (
    λ same. near-away s from r (omega (arith, low, later, few)) same,
    λ same. let e = (away-one from from s r (omega (arith, low, later, few)) few same).1 in omega (arith, low, later, e),
    λ same. differ (sym (away-one to from s r (omega (arith, low, later, few)) few same).0),
  )

  to-none : (k r : ℕ) → k ≤ r → r < 64 → IsNone k (away_key to r)
  unfolding IsNone
  to-none k r later few s low = (
    λ same. near-away s to r (omega (arith, low, later, few)) same,
    λ same. differ (away-one from to s r (omega (arith, low, later, few)) few same).0,
    λ same. let e = (away-one to to s r (omega (arith, low, later, few)) few same).1 in omega (arith, low, later, e),
  )

  -- those below k are
  near-hit : (k r : ℕ) → r < k → k ≤ 64 → moved k (near_key r) ≡ away_key to r
  near-hit zero r low few = absurd (omega (arith, low))
  near-hit (suc k) r low few = elim (eqb_tells r k) [
    | inl same ↦ subst (λ (s : ℕ). moved (suc k) (near_key s) ≡ away_key to s) (sym same.1) (at-near k (near_key k) refl)
    | inr unlike ↦
        let under : r < k = omega (arith, low, unlike.1) in
        at-none k (near_key r)
        (λ same. unlike.1 (sym (near-one k r (omega (arith, few)) (omega (arith, under, few)) same)))
        (λ same. near-away r from k (omega (arith, under, few)) (sym same))
        (λ same. near-away r to k (omega (arith, under, few)) (sym same))
        ∙ near-hit k r under (omega (arith, few))
  ]

  from-hit : (k r : ℕ) → r < k → k ≤ 64 → moved k (away_key from r) ≡ near_key r
  from-hit zero r low few = absurd (omega (arith, low))
  from-hit (suc k) r low few = elim (eqb_tells r k) [
    | inl same ↦ subst (λ (s : ℕ). moved (suc k) (away_key from s) ≡ near_key s) (sym same.1)
        (at-from k (away_key from k) (λ e. near-away k from k (omega (arith, few)) e) refl)
    | inr unlike ↦
        let under : r < k = omega (arith, low, unlike.1) in
        at-none k (away_key from r)
        (λ same. near-away k from r (omega (arith, few)) same)
        (λ same. unlike.1 (sym (away-one from from k r (omega (arith, few)) (omega (arith, under, few)) same).1))
        (λ same. differ (sym (away-one to from k r (omega (arith, few)) (omega (arith, under, few)) same).0))
        ∙ from-hit k r under (omega (arith, few))
  ]

  to-hit : (k r : ℕ) → r < k → k ≤ 64 → moved k (away_key to r) ≡ away_key from r
  to-hit zero r low few = absurd (omega (arith, low))
  to-hit (suc k) r low few = elim (eqb_tells r k) [
    | inl same ↦ subst (λ (s : ℕ). moved (suc k) (away_key to s) ≡ away_key from s) (sym same.1)
        (at-to k (away_key to k) (λ e. near-away k to k (omega (arith, few)) e)
        (λ e. differ (away-one from to k k (omega (arith, few)) (omega (arith, few)) e).0) refl)
    | inr unlike ↦
        let under : r < k = omega (arith, low, unlike.1) in
        at-none k (away_key to r)
        (λ same. near-away k to r (omega (arith, few)) same)
        (λ same. differ (away-one from to k r (omega (arith, few)) (omega (arith, under, few)) same).0)
        (λ same. unlike.1 (sym (away-one to to k r (omega (arith, few)) (omega (arith, under, few)) same).1))
        ∙ to-hit k r under (omega (arith, few))
  ]

  -- a fact of as many keys holds after one register more was moved
  one-more : (holds : ℕ → Bool) (n k : ℕ) → k < 64 → near_key k < n → away_key from k < n → away_key to k < n
      → count_below (λ key. holds (moved (suc k) key)) n ≡ count_below (λ key. holds (moved k key)) n
  one-more holds n k few near_low from_low to_low =
      let before : ℕ → Bool = λ key. holds (moved k key) in
      let a = near_key k in
      let b = away_key from k in
      let c = away_key to k in
      let first : ℕ → Bool = at_key before c (holds b) in
      let second : ℕ → Bool = at_key first b (holds a) in
      let third : ℕ → Bool = at_key second a (holds c) in
      let a_b : a ≢ b = λ e. near-away k from k few e in
      let a_c : a ≢ c = λ e. near-away k to k few e in
      let b_c : b ≢ c = λ e. differ (away-one from to k k few few e).0 in
      let put_c = below-put before c (holds b) n to_low in
      let put_b = below-put first b (holds a) n from_low in
      let put_a = below-put second a (holds c) n near_low in
      let was_c : before c ≡ holds c = ap holds (missed k c (to-none k k (omega arith) few)) in
      let was_b : first b ≡ holds b =
      at-other before c (holds b) b (λ e. b_c (sym e)) ∙ ap holds (missed k b (from-none k k (omega arith) few)) in
      let was_a : second a ≡ holds a =
      at-other first b (holds a) a (λ e. a_b (sym e)) ∙ at-other before c (holds b) a (λ e. a_c (sym e))
      ∙ ap holds (missed k a (near-none k k (omega arith) few)) in
      let same : count_below (λ key. holds (moved (suc k) key)) n ≡ count_below third n = below-same _ third n (λ key low.
      elim (eqb_tells a key) [
        | inl is ↦
            ap holds (at-near k key is.1)
            ∙ sym (ap (at_key second a (holds c)) (sym is.1) ∙ at-same second a (holds c))
        | inr no_a ↦ elim (eqb_tells b key) [
          | inl is ↦
              ap holds (at-from k key no_a.1 is.1)
              ∙ sym (at-other second a (holds c) key no_a.1 ∙ ap (at_key first b (holds a)) (sym is.1) ∙ at-same first b (holds a))
          | inr no_b ↦ elim (eqb_tells c key) [
            | inl is ↦
                ap holds (at-to k key no_a.1 no_b.1 is.1)
                ∙ sym (at-other second a (holds c) key no_a.1 ∙ at-other first b (holds a) key no_b.1
                ∙ ap (at_key before c (holds b)) (sym is.1) ∙ at-same before c (holds b))
            | inr no_c ↦
                ap holds (at-none k key no_a.1 no_b.1 no_c.1)
                ∙ sym (at-other second a (holds c) key no_a.1 ∙ at-other first b (holds a) key no_b.1
                ∙ at-other before c (holds b) key no_c.1)
          ]
        ]
      ]) in
      let c_is = ap one was_c in
      let b_is = ap one was_b in
      let a_is = ap one was_a in
      omega (arith, same, put_c, put_b, put_a, c_is, b_is, a_is)

  module _ (from_low : from < most_harts) (to_low : to < most_harts) where
    near-place : (k : ℕ) → k < 64 → near_key k < most_places
    near-place k few = elim (near-range k few) [
      | inl x ↦ let e = x.1 in let low = x.0 in omega (arith, e, low)
      | inr x ↦ let e = x.1 in let high = x.0 in omega (arith, e, high, few)
    ]

    counted-moved : (holds : ℕ → Bool) (k : ℕ) → k ≤ 64 → count_below (λ key. holds (moved k key)) most_places ≡ count_below holds most_places
    unfolding moved
    counted-moved holds zero few = refl
    counted-moved holds (suc k) few =
        one-more holds most_places k (omega (arith, few)) (near-place k (omega (arith, few))) (omega (arith, from_low, few)) (omega (arith, to_low, few))
        ∙ counted-moved holds k (omega (arith, few))

    moves : Still from to ≡ false
    moves = grind (arith, nat_tests, differ, from_low, to_low)

    -- what a hart line moves is that
    came-unless : (key : ℕ) → came_from from to key
        ≡ (if nat_lt key 32 then away_key to key else (if nat_lt key first_special then key else special_from from to (key - first_special)))
    came-unless key = cond-false (Still from to) key _ moves

    pub came-low : (key : ℕ) → key < 32 → came_from from to key ≡ away_key to key
    came-low key low = came-unless key ∙ cond-true (nat_lt key 32) _ _ (lt-ltb key 32 low)

    pub came-granule : (key : ℕ) → 32 ≤ key → key < first_special → came_from from to key ≡ key
    came-granule key high low =
        came-unless key ∙ cond-false (nat_lt key 32) _ _ (le-ltb key 32 high) ∙ cond-true (nat_lt key first_special) _ _ (lt-ltb key first_special low)

    came-special : (number : ℕ) → came_from from to (first_special + number) ≡ special_from from to number
    came-special number =
        let rest : first_special + number - first_special ≡ number = omega arith in
        came-unless (first_special + number) ∙ cond-false (nat_lt (first_special + number) 32) _ _ (le-ltb (first_special + number) 32 (omega arith))
        ∙ cond-false (nat_lt (first_special + number) first_special) _ _ (le-ltb (first_special + number) first_special (omega arith))
        ∙ ap (special_from from to) rest

    pub came-scr : (number : ℕ) → number < 32 → came_from from to (first_special + number) ≡ away_key to (32 + number)
    came-scr number low = came-special number ∙ cond-true (nat_lt number 32) _ _ (lt-ltb number 32 low)

    pub came-current : (number : ℕ) → 32 ≤ number → number / 64 ≡ from + 1 → came_from from to (first_special + number) ≡ near_key (number % 64)
    came-current number high is =
        came-special number ∙ cond-false (nat_lt number 32) _ _ (le-ltb number 32 high)
        ∙ cond-true (number / 64 == from + 1) _ _ (eq-eqb (number / 64) (from + 1) is)

    pub came-next : (number : ℕ) → 32 ≤ number → number / 64 ≡ to + 1 → came_from from to (first_special + number) ≡ away_key from (number % 64)
    came-next number high is =
        let other : number / 64 ≢ from + 1 = λ e. differ (let f : from + 1 ≡ to + 1 = sym e ∙ is in omega (arith, f)) in
        came-special number ∙ cond-false (nat_lt number 32) _ _ (le-ltb number 32 high)
        ∙ cond-false (number / 64 == from + 1) _ _ (ne_eqb (number / 64) (from + 1) other)
        ∙ cond-true (number / 64 == to + 1) _ _ (eq-eqb (number / 64) (to + 1) is)

    pub came-other : (number : ℕ) → 32 ≤ number → number / 64 ≢ from + 1 → number / 64 ≢ to + 1
        → came_from from to (first_special + number) ≡ first_special + number
    came-other number high one two =
        came-special number ∙ cond-false (nat_lt number 32) _ _ (le-ltb number 32 high)
        ∙ cond-false (number / 64 == from + 1) _ _ (ne_eqb (number / 64) (from + 1) one)
        ∙ cond-false (number / 64 == to + 1) _ _ (ne_eqb (number / 64) (to + 1) two)

    granule-none : (key : ℕ) → 32 ≤ key → key < first_special → IsNone 64 key
    unfolding IsNone
    granule-none key high low r few = (
      λ same. elim (near-range r few) [
        | inl x ↦ let e = sym x.1 ∙ same in let under = x.0 in omega (arith, e, under, high)
        | inr x ↦ let e = sym x.1 ∙ same in omega (arith, e, low)
      ],
      λ same. omega (arith, same, low),
      λ same. omega (arith, same, low),
    )

    other-none : (number : ℕ) → 32 ≤ number → number / 64 ≢ from + 1 → number / 64 ≢ to + 1 → IsNone 64 (first_special + number)
    unfolding IsNone
    other-none number high one two r few = (
      λ same. elim (near-range r few) [
        | inl x ↦ let e = sym x.1 ∙ same in let under = x.0 in omega (arith, e, under, high)
        | inr x ↦ let e = sym x.1 ∙ same in omega (arith, e, few, high)
      ],
      λ same. one (let e : 64 * (from + 1) + r ≡ number = omega (arith, same) in omega (arith, e, few)),
      λ same. two (let e : 64 * (to + 1) + r ≡ number = omega (arith, same) in omega (arith, e, few)),
    )

    special-is : (number : ℕ) → moved 64 (first_special + number) ≡ came_from from to (first_special + number)
    special-is number = elim (cases_lt number 32) [
      | inl low ↦
          let key : near_key (32 + number) ≡ first_special + number = near-high (32 + number) (omega arith) ∙ (let e : first_special + (32 + number - 32) ≡ first_special + number = omega arith in e) in
          ap (moved 64) (sym key) ∙ near-hit 64 (32 + number) (omega (arith, low)) (omega arith) ∙ sym (came-scr number low)
      | inr high ↦ elim (eqb_tells (number / 64) (from + 1)) [
        | inl is ↦
            let e = is.1 in
            let key : away_key from (number % 64) ≡ first_special + number = omega (arith, e) in
            ap (moved 64) (sym key) ∙ from-hit 64 (number % 64) (omega arith) (omega arith) ∙ sym (came-current number high is.1)
        | inr one ↦ elim (eqb_tells (number / 64) (to + 1)) [
          | inl is ↦
              let e = is.1 in
              let key : away_key to (number % 64) ≡ first_special + number = omega (arith, e) in
              ap (moved 64) (sym key) ∙ to-hit 64 (number % 64) (omega arith) (omega arith) ∙ sym (came-next number high is.1)
          | inr two ↦ missed 64 (first_special + number) (other-none number high one.1 two.1) ∙ sym (came-other number high one.1 two.1)
        ]
      ]
    ]

    moved-is : (key : ℕ) → moved 64 key ≡ came_from from to key
    moved-is key = elim (cases_lt key 32) [
      | inl low ↦ ap (moved 64) (sym (near-low key low)) ∙ near-hit 64 key (omega (arith, low)) (omega arith) ∙ sym (came-low key low)
      | inr high ↦ elim (cases_lt key first_special) [
        | inl under ↦ missed 64 key (granule-none key high under) ∙ sym (came-granule key high under)
        | inr over ↦
            let key_is : first_special + (key - first_special) ≡ key = omega (arith, over) in
            subst (λ (k : ℕ). moved 64 k ≡ came_from from to k) key_is (special-is (key - first_special))
      ]
    ]

    counted-came : (holds : ℕ → Bool) → count_below (λ key. holds (came_from from to key)) most_places ≡ count_below holds most_places
    counted-came holds =
        below-same (λ key. holds (came_from from to key)) (λ key. holds (moved 64 key)) most_places (λ key low. ap holds (sym (moved-is key)))
        ∙ counted-moved holds 64 (omega arith)

    far-came : (key : ℕ) → most_places ≤ key → came_from from to key ≡ key
    far-came key far =
        let number = key - first_special in
        let key_is : first_special + number ≡ key = omega (arith, far) in
        subst (λ (k : ℕ). came_from from to k ≡ k) key_is
        (came-other number (omega (arith, far)) (λ e. omega (arith, e, far, from_low)) (λ e. omega (arith, e, far, to_low)))

-- the harts differ, and both are harts, where something moves
parts-of : (from to : ℕ) → Still from to ≡ false → (from ≢ to) × (from < most_harts) × (to < most_harts)
parts-of from to moves = (
  (λ same. false≢true (sym moves ∙ ap (λ (b : Bool). b || nat_le most_harts (max from to)) (eq-eqb from to same))),
  grind (arith, nat_tests, moves),
  grind (arith, nat_tests, moves),
)

still-stays : (from to key : ℕ) → Still from to ≡ true → came_from from to key ≡ key
still-stays from to key still = cond-true (Still from to) key _ still

-- each object owns as many places after a hart line as before it
pub owned-moved : (owners : Owners) (from to object : ℕ) → owned_by (λ key. owners (came_from from to key)) object ≡ owned_by owners object
owned-moved owners from to object = elim (cases_Bool (Still from to)) [
  | inl still ↦ below-same _ _ most_places (λ key low. ap (λ (k : ℕ). is_owner object (owners k)) (still-stays from to key still))
  | inr moves ↦ let parts = parts-of from to moves in counted-came from to parts.0 parts.1 parts.2 (λ key. is_owner object (owners key))
]

-- past the places nothing moves
pub far-stays : (from to key : ℕ) → most_places ≤ key → came_from from to key ≡ key
far-stays from to key far = elim (cases_Bool (Still from to)) [
  | inl still ↦ still-stays from to key still
  | inr moves ↦ let parts = parts-of from to moves in far-came from to parts.0 parts.1 parts.2 key far
]

-- nor does anything where the hart stays the same
pub same-stays : (from to key : ℕ) → from ≡ to → came_from from to key ≡ key
same-stays from to key same = still-stays from to key (ap (λ (b : Bool). b || nat_le most_harts (max from to)) (eq-eqb from to same))
