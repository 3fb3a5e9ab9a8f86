-- The rounding that Sail makes of a request is that of the least exponent.
use Rattle.std.proofs.Common.{◌≡◌, ◌+◌, ◌-◌, ◌*◌, ◌/◌, ◌%◌, ◌^◌, ◌<◌, ◌≤◌, ◌&&◌, ◌||◌, ◌==◌, ◌↔◌, ◌∙◌, ℕ, suc, Bool}
use Rattle.std.proofs.Common.{true, false, nat_lt, IsTrue, not, refl, sym, ap, inl, inr, arith, subst}
use Rattle.std.proofs.{Common.{le_of_mul-le-mul_right, lt_of_mul-lt-mul_right, pow_pos}, Math.Bool.or-false}
use Rattle.std.proofs.{Math.Nat.div-add-mod, lemmas.Bool.{cases_lt, Decides.nat_tests}}
use Rattle.std.proofs.lemmas.Nat.{mod_below, mod-pow-add, leading_top}
use lib.Count.{count_leading_zeros}
use Rattle.cap_word.specs.Fields.{bit_of}
use Rattle.cap_bounds.specs.Rounding.{div_up, units_of, IsLeastExponent, rounded_ie, rounded_exponent, rounded_b}
use Rattle.cap_bounds.specs.{Rounding.{rounded_t, IsExact}, SailRounding.{sail_first_e, sail_ie, sail_lost, sail_b_ie}}
use Rattle.cap_bounds.specs.SailRounding.{sail_t_ie, sail_inc_e, sail_lost_base, sail_lost_top, sail_last_e}
use Rattle.cap_bounds.specs.SailRounding.{sail_exponent, sail_b, sail_t, sail_exact}
use Rattle.cap_bounds.proofs.LeastExponents.{IsLeastExponent-start, IsLeastExponent-raised, rounded_exponent-short}
use Rattle.cap_bounds.proofs.Powers.{pow_split, pow_le}
use Rattle.cap_bounds.proofs.Roundings.{rounded_base-short, rounded_top-short, rounded_ie-short, rounded_ie-long}
use Rattle.cap_bounds.proofs.Roundings.{exponent_is, rounded_base_is, rounded_top_is, long_request, short_b, short_t}
use Rattle.cap_bounds.proofs.Units.{div_up-ge, div_up-le, down-le, down-gt, down-le-up, few}

-- a quotient rounded up is one more just where there is a rest
div_up-whole : (n v : ℕ) → 0 < v → n % v ≡ 0 → div_up n v ≡ n / v
div_up-whole n v pos h =
    let e : v * (n / v) + n % v ≡ n = div-add-mod n v in
    let f : div_up n v ≤ n / v = div_up-le n v (n / v) pos (omega arith) in
    let g : n / v ≤ div_up n v = le_of_mul-le-mul_right {m = n / v} {n = div_up n v} {k = v}
    (omega (arith, down-le n v, div_up-ge n v pos)) pos in
    omega arith

div_up-rest : (n v : ℕ) → 0 < v → 0 < n % v → div_up n v ≡ n / v + 1
div_up-rest n v pos h =
    let e : v * (n / v) + n % v ≡ n = div-add-mod n v in
    let f : div_up n v ≤ n / v + 1 = div_up-le n v (n / v + 1) pos (omega (arith, down-gt n v pos)) in
    let g : n / v < div_up n v = lt_of_mul-lt-mul_right v {m = n / v} {n = div_up n v} (omega (arith, div_up-ge n v pos)) in
    omega arith

div_up-is : (n v : ℕ) → 0 < v → div_up n v ≡ n / v + bit_of (nat_lt 0 (n % v))
div_up-is n v pos = grind (arith, nat_tests, div_up-whole n v pos, div_up-rest n v pos)

-- T_ie is the top in units, rounded up, in eleven bits
t_ie-is : (e top : ℕ) → sail_t_ie e top (sail_lost e top) ≡ div_up top (2 ^ (e + 3)) % 2 ^ 11
unfolding sail_lost
t_ie-is e top = omega (arith, div_up-is top (2 ^ (e + 3)) (pow_pos (e + 3)))

-- of a number with the low part r and the bit p of v above it
any_bit : (v r p q s : ℕ) → 0 < v → p < 2 → (r ≡ 0 → q ≡ p) → s ≡ p * v + r → (nat_lt 0 r || q == 1) ≡ nat_lt 0 s
any_bit v r p q s pos h k e = elim (cases_lt 0 p) [
  | inl one ↦ let f : p ≡ 1 = omega arith in let g : s ≡ 1 * v + r = e ∙ ap (λ (x : ℕ). x * v + r) f in grind (arith, nat_tests)
  | inr none ↦ let f : p ≡ 0 = omega arith in let g : s ≡ 0 * v + r = e ∙ ap (λ (x : ℕ). x * v + r) f in grind (arith, nat_tests)
]

-- the lowest bit of what is not lost is lost at the next e
lost-grown : (e n q : ℕ) (inc : Bool) → (n % 2 ^ (e + 3) ≡ 0 → q % 2 ≡ n / 2 ^ (e + 3) % 2)
    → (sail_lost e n || (inc && q % 2 == 1)) ≡ sail_lost (e + bit_of inc) n
unfolding sail_lost
lost-grown e n q true h =
    let more : n % 2 ^ (e + 1 + 3)
    ≡ n / 2 ^ (e + 3) % 2 * 2 ^ (e + 3) + n % 2 ^ (e + 3) = ap (λ (x : ℕ). n % 2 ^ x)
    (let f : e + 1 + 3 ≡ 1 + (e + 3) = omega arith in f) ∙ mod-pow-add n 1 (e + 3) in
    any_bit (2 ^ (e + 3)) (n % 2 ^ (e + 3)) (n / 2 ^ (e + 3) % 2) (q % 2) (n % 2 ^ (e + 1 + 3)) (pow_pos (e + 3)) (omega arith) h more
lost-grown e n q false h = or-false (nat_lt 0 (n % 2 ^ (e + 3)))
    ∙ ap (λ (x : ℕ). nat_lt 0 (n % 2 ^ (x + 3))) (let f : e ≡ e + 0 = omega arith in f)

-- what is lost is what is lost at the last e
lost_base-is : (e b top : ℕ) → sail_lost_base e b top ≡ sail_lost (sail_last_e e b top) b
lost_base-is e b top = lost-grown e b (sail_b_ie e b) (sail_inc_e e b top) (λ _. omega arith)

lost_top-is : (e b top : ℕ) → sail_lost_top e b top ≡ sail_lost (sail_last_e e b top) top
unfolding sail_lost
lost_top-is e b top = lost-grown e top (sail_t_ie e top (sail_lost e top)) (sail_inc_e e b top)
    (λ h. grind (arith, nat_tests, t_ie-is e top))

-- the difference in eleven bits
bit_ten : (lo hi : ℕ) → lo ≤ hi → hi - lo < 2048 → (hi % 2 ^ 11 + 2 ^ 11 - lo % 2 ^ 11) % 2 ^ 11 / 2 ^ 10 ≡ (hi - lo) / 1024
bit_ten lo hi h k = omega arith

-- e grows just where the request covers 1024 units
module _ (b l e : ℕ) (high : l < 2 ^ (e + 13)) where
  units-lt : units_of b l e < 1026
  units-lt =
      let scale : 2 ^ (e + 13) ≡ 1024 * 2 ^ (e + 3) = pow_split (e + 13) 10 (e + 3) (omega arith) in
      few b l (2 ^ (e + 3)) (pow_pos (e + 3)) 1026 (omega arith)

  inc_e-is : sail_inc_e e b (b + l) ≡ (units_of b l e / 1024 == 1)
  unfolding sail_inc_e
  inc_e-is =
      ap (λ (x : ℕ). (x + 2 ^ 11 - sail_b_ie e b) % 2 ^ 11 / 2 ^ 10 == 1) (t_ie-is e (b + l))
      ∙ ap (λ (x : ℕ). x == 1)
      (bit_ten (b / 2 ^ (e + 3)) (div_up (b + l) (2 ^ (e + 3))) (down-le-up b l (2 ^ (e + 3)) (pow_pos (e + 3)))
      (omega (arith, units-lt)))

  inc_e-not : units_of b l e < 1024 → sail_inc_e e b (b + l) ≡ false
  inc_e-not h = inc_e-is ∙ ap (λ (x : ℕ). x == 1) (let f : units_of b l e / 1024 ≡ 0 = omega arith in f)

  inc_e-so : 1024 ≤ units_of b l e → sail_inc_e e b (b + l) ≡ true
  inc_e-so h = inc_e-is ∙ ap (λ (x : ℕ). x == 1) (let f : units_of b l e / 1024 ≡ 1 = omega (arith, units-lt) in f)

  last-is : e ≤ 51 → 2 ^ (e + 12) ≤ l → IsLeastExponent b l (sail_last_e e b (b + l))
  last-is he low = elim (cases_lt (units_of b l e) 1024) [
    | inl h ↦ subst (λ (x : ℕ). IsLeastExponent b l x)
        (sym (ap (λ (x : Bool). e + bit_of x) (inc_e-not h) ∙ (let f : e + 0 ≡ e = omega arith in f)))
        (IsLeastExponent-start b l e (omega arith) low h)
    | inr h ↦ subst (λ (x : ℕ). IsLeastExponent b l x) (sym (ap (λ (x : Bool). e + bit_of x) (inc_e-so h)))
        (IsLeastExponent-raised b l e (omega arith) low high h)
  ]

-- e at first is the height of the length's highest bit, above bit 12
start-low : (l : ℕ) → l < 8192 → sail_first_e l ≡ 0
unfolding sail_first_e count_leading_zeros
start-low l h = let z : l / 2 ^ 13 ≡ 0 = omega arith in ap (λ (x : ℕ). 52 - count_leading_zeros 52 x) z

start-high : (l j : ℕ) → count_leading_zeros 52 (l / 2 ^ 13) + suc j ≡ 52 → sail_first_e l ≡ suc j
unfolding sail_first_e
start-high l j h = omega arith

start-is : (l : ℕ) → 4096 ≤ l → l < 2 ^ 64 → (sail_first_e l ≤ 51) × (2 ^ (sail_first_e l + 12) ≤ l) × (l < 2 ^ (sail_first_e l + 13))
start-is l h k = elim (cases_lt l 8192) [
  | inl low ↦ subst (λ (x : ℕ). (x ≤ 51) × (2 ^ (x + 12) ≤ l) × (l < 2 ^ (x + 13))) (sym (start-low l low))
      (omega arith, omega arith, omega arith)
  | inr high ↦
      let t = leading_top 52 (l / 2 ^ 13) (omega arith) (omega arith) in
      let below : 2 ^ (suc t.0 + 12) ≡ 2 ^ t.0 * 2 ^ 13 = pow_split (suc t.0 + 12) t.0 13 (omega arith) in
      let above : 2 ^ (suc t.0 + 13) ≡ 2 ^ suc t.0 * 2 ^ 13 = pow_split (suc t.0 + 13) (suc t.0) 13 (omega arith) in
      let fits : suc t.0 ≤ 51 = elim
      (cases_lt 51 (suc t.0)) [ inl m ↦ absurd (omega (arith, t.2, pow_le 51 t.0 (omega arith))) | inr m ↦ m ] in
      subst (λ (x : ℕ). (x ≤ 51) × (2 ^ (x + 12) ≤ l) × (l < 2 ^ (x + 13))) (sym (start-high l t.0 t.1))
      (fits, omega (arith, t.2), omega (arith, t.3))
]

sail_ie-short : (l : ℕ) → l < 4096 → sail_ie l ≡ false
unfolding sail_ie
sail_ie-short l h = let s = start-low l (omega arith) in grind (arith, nat_tests)

sail_ie-long : (l : ℕ) → 4096 ≤ l → l < 2 ^ 64 → sail_ie l ≡ true
unfolding sail_ie
sail_ie-long l h k = elim (cases_lt 0 (sail_first_e l)) [
  | inl pos ↦ grind (arith, nat_tests)
  | inr low ↦
      let s : sail_first_e l ≡ 0 = omega arith in
      let t = start-is l h k in
      let small : l < 2 ^ 13 = subst (λ (x : ℕ). l < 2 ^ (x + 13)) s t.2 in
      let bit : l / 2 ^ 12 % 2 ≡ 1 = omega arith in
      grind (arith, nat_tests)
]

pub sail_ie-is : (l : ℕ) → l < 2 ^ 64 → sail_ie l ≡ rounded_ie l
sail_ie-is l h = elim (cases_lt l 4096) [
  | inl short ↦ sail_ie-short l short ∙ sym (rounded_ie-short l short)
  | inr long ↦ sail_ie-long l long h ∙ sym (rounded_ie-long l long)
]

-- a number is rounded to itself just where it is whole units
down-whole : (n v : ℕ) → (n / v * v ≡ n) ↔ (n % v ≡ 0)
down-whole n v = let e : v * (n / v) + n % v ≡ n = div-add-mod n v in (λ h. omega arith, λ h. omega arith)

up-whole : (n v : ℕ) → 0 < v → (div_up n v * v ≡ n) ↔ (n % v ≡ 0)
up-whole n v pos =
    let e : v * (n / v) + n % v ≡ n = div-add-mod n v in (
      λ h. elim (cases_lt 0 (n % v)) [
        | inl rest ↦ let f : div_up n v * v
            ≡ (n / v + 1) * v = ap (λ (x : ℕ). x * v) (div_up-rest n v pos rest) in absurd (omega (arith, mod_below n v pos))
        | inr none ↦ omega arith
      ],
      λ h. let f : div_up n v * v ≡ n / v * v = ap (λ (x : ℕ). x * v) (div_up-whole n v pos h) in omega arith,
    )

-- neither of two numbers is above 0
neither : {B T : Type 0} {r s : ℕ} → B ↔ (r ≡ 0) → T ↔ (s ≡ 0) → IsTrue (not (nat_lt 0 r || nat_lt 0 s)) ↔ (B × T)
neither {B} {T} {r} {s} p q =
    let none : IsTrue (not (nat_lt 0 r || nat_lt 0 s)) → (r ≡ 0) × (s ≡ 0) = λ h. (grind (arith, nat_tests), grind (arith, nat_tests)) in
    (λ h. (p.1 (none h).0, q.1 (none h).1), λ h. let f : r ≡ 0 = p.0 h.0 in let g : s ≡ 0 = q.0 h.1 in grind (arith, nat_tests))

-- a short request
module _ (b l : ℕ) (short : l < 4096) where
  exponent-short : sail_exponent b l ≡ rounded_exponent b l
  unfolding sail_exponent
  exponent-short = rw (sail_ie-short l short) (sym (rounded_exponent-short b l short))

  b-short : sail_b b l ≡ rounded_b b l
  unfolding sail_b
  b-short = rw (sail_ie-short l short) (short_b b l short)

  t-short : sail_t b l ≡ rounded_t b l
  unfolding sail_t
  t-short = rw (sail_ie-short l short) (short_t b l short)

  exact-short : IsTrue (sail_exact b l) ↔ IsExact b l
  unfolding sail_exact
  exact-short = rw (sail_ie-short l short) (λ _. (rounded_base-short b l short, rounded_top-short b l short), λ _. refl)

-- a long one
module _ (b l : ℕ) (long : 4096 ≤ l) (b_fits : b < 2 ^ 64) (l_fits : l < 2 ^ 64) where
  -- the last e
  abbrev last : ℕ
  last = sail_last_e (sail_first_e l) b (b + l)

  least : IsLeastExponent b l last
  least = let t = start-is l long l_fits in last-is b l (sail_first_e l) t.2 t.0 t.1

  exponent-long : sail_exponent b l ≡ rounded_exponent b l
  unfolding sail_exponent
  exponent-long = rw (sail_ie-long l long l_fits) (sym (exponent_is b l last long l_fits least))

  b-long : sail_b b l ≡ rounded_b b l
  unfolding sail_b
  b-long = rw (sail_ie-long l long l_fits)
      (omega (arith, (long_request b l last (b / 2 ^ (last + 3)) (div_up (b + l) (2 ^ (last + 3))) long b_fits l_fits least refl refl).b_is))

  t-long : sail_t b l ≡ rounded_t b l
  unfolding sail_t
  t-long =
      rw (sail_ie-long l long l_fits, lost_top-is (sail_first_e l) b (b + l), t_ie-is last (b + l))
      (omega (arith, (long_request b l last (b / 2 ^ (last + 3)) (div_up (b + l) (2 ^ (last + 3))) long b_fits l_fits least refl refl).t_is))

  exact-long : IsTrue (sail_exact b l) ↔ IsExact b l
  unfolding sail_exact sail_lost
  exact-long =
      rw (
        sail_ie-long l long l_fits,
        lost_base-is (sail_first_e l) b (b + l),
        lost_top-is (sail_first_e l) b (b + l),
        rounded_base_is b l last long l_fits least,
        rounded_top_is b l last long l_fits least,
      )
      (neither (down-whole b (2 ^ (last + 3))) (up-whole (b + l) (2 ^ (last + 3)) (pow_pos (last + 3))))

module _ (b l : ℕ) (b_fits : b < 2 ^ 64) (l_fits : l < 2 ^ 64) where
  pub sail_exponent-is : sail_exponent b l ≡ rounded_exponent b l
  sail_exponent-is = elim (cases_lt l 4096) [ inl short ↦ exponent-short b l short | inr long ↦ exponent-long b l long b_fits l_fits ]

  pub sail_b-is : sail_b b l ≡ rounded_b b l
  sail_b-is = elim (cases_lt l 4096) [ inl short ↦ b-short b l short | inr long ↦ b-long b l long b_fits l_fits ]

  pub sail_t-is : sail_t b l ≡ rounded_t b l
  sail_t-is = elim (cases_lt l 4096) [ inl short ↦ t-short b l short | inr long ↦ t-long b l long b_fits l_fits ]

  sail_exact-is : IsTrue (sail_exact b l) ↔ IsExact b l
  sail_exact-is = elim (cases_lt l 4096) [ inl short ↦ exact-short b l short | inr long ↦ exact-long b l long b_fits l_fits ]

-- two tests of one fact answer the same
same_test : {P : Type 0} (a b : Bool) → IsTrue a ↔ P → IsTrue b ↔ P → a ≡ b
same_test true true p q = refl
same_test true false p q = sym (q.1 (p.0 refl))
same_test false true p q = p.1 (q.0 refl)
same_test false false p q = refl

pub exact_as_sail : (b l : ℕ) (exact : Bool) → b < 2 ^ 64 → l < 2 ^ 64 → IsTrue exact ↔ IsExact b l → exact ≡ sail_exact b l
exact_as_sail b l exact b_fits l_fits h = same_test exact (sail_exact b l) h (sail_exact-is b l b_fits l_fits)
