-- What is decided, and what a search decides: whether some thing of a range has a fact that is decided of each.
use Rattle.std.proofs.Common.{◌≡◌, ℕ, zero, suc, ◌^◌, ◌<◌, ◌≤◌, ℤ, pos, negsuc, Bool, true, false, ◌⊎◌, inl, inr, refl}
use Rattle.std.proofs.Common.{subst, Decides, eqb, leb, arith, leb-true, le-leb, eqb-true, eq-eqb}
use Rattle.std.proofs.lemmas.{Bool.{cases_eq, false≢true}, Int.ints}
use Rattle.cap_word.specs.declared.word.{Cap.Cap, Word.Word}
use Rattle.cap_log.specs.declared.lines.{Mode.{Mode, TheVariants.{Strict, Clear}}, Place.Place}
use Rattle.cap_log.specs.declared.{lines.Place.TheVariants.{Register, Granule}, parts.headers.Version.Version}
use Rattle.cap_log.specs.{declared.parts.sized.Accessed.Accessed, Lines.{IsRegister, IsTarget, IsPlace, IsWord}}
use Rattle.cap_log.specs.{Lines.{IsOffset, IsDataSize, IsVersion}, Parts.{FitBoth, IsMode}, Ranges.{Datum, IsDatum}}

-- Facts that are decided

abbrev pub Decided : Type 0 → Type 0
Decided P = P ⊎ (P → ⊥)

pub by_test : {P : Type 0} (test : Bool) → Decides test P → Decided P
by_test true tells = inl (tells.0 refl)
by_test false tells = inr (λ p. false≢true (tells.1 p))

pub fits : (a b : ℕ) → Decided (a ≤ b)
fits a b = by_test (leb a b) (leb-true a b, le-leb a b)

pub same : (a b : ℕ) → Decided (a ≡ b)
same a b = by_test (eqb a b) (eqb-true a b, eq-eqb a b)

pub alike : {P Q : Type 0} → (P → Q) → (Q → P) → Decided P → Decided Q
alike to from (inl p) = inl (to p)
alike to from (inr none) = inr (λ q. none (from q))

pub both : {P Q : Type 0} → Decided P → Decided Q → Decided (P × Q)
both (inl p) (inl q) = inl (p, q)
both (inr none) q = inr (λ h. none h.0)
both (inl p) (inr none) = inr (λ h. none h.1)

pub either : {P Q : Type 0} → Decided P → Decided Q → Decided (P ⊎ Q)
either (inl p) q = inl (inl p)
either (inr none) (inl q) = inl (inr q)
either (inr none) (inr nor) = inr (λ h. elim h [ inl p ↦ none p | inr q ↦ nor q ])

-- Searches: of each fact that is decided of each thing, it is decided whether a thing in the range has it

abbrev pub Searched : (A : Type 0) → (A → Type 0) → Type 1
Searched A IsIn = (P : A → Type 0) → ((a : A) → Decided (P a)) → Decided ((a : A) × IsIn a × P a)

-- one below the next bound that has it is below this bound, or is the bound
up_to : (P : ℕ → Type 0) (most : ℕ) → (n : ℕ) × (n < suc most) × P n → ((n : ℕ) × (n < most) × P n) ⊎ P most
up_to P most h = elim (cases_eq h.0 most) [
  | inl is ↦ inr (subst P is h.2)
  | inr other ↦ let few = h.1 in inl (h.0, omega arith, h.2)
]

pub below : (most : ℕ) (P : ℕ → Type 0) → ((n : ℕ) → Decided (P n)) → Decided ((n : ℕ) × (n < most) × P n)
below zero P decided = inr (λ h. let few = h.1 in omega arith)
below (suc most) P decided =
    alike (λ found. elim found [ inl h ↦ (let few = h.1 in (h.0, omega arith, h.2)) | inr p ↦ (most, omega arith, p) ])
    (up_to P most) (either (below most P decided) (decided most))

-- a range within another
pub narrowed : {A : Type 0} {Wide Narrow : A → Type 0} → Searched A Wide → ((a : A) → Narrow a → Wide a) → ((a : A) → Decided (Narrow a))
    → Searched A Narrow
narrowed {Narrow = Narrow} search within decide P decided =
    alike (λ h. (h.0, h.2.0, h.2.1)) (λ h. (h.0, within h.0 h.1, (h.1, h.2)))
    (search (λ a. Narrow a × P a) (λ a. both (decide a) (decided a)))

pub registers : Searched ℕ IsRegister
registers = narrowed (below 32) (λ n range. omega arith) (λ n. fits n 31)

pub targets : Searched ℕ IsTarget
targets = narrowed (below 32) (λ n range. let few = range.1 in omega arith) (λ n. both (fits 1 n) (fits n 31))

pub words : Searched Word (λ w. IsWord w.0)
words P decided =
    alike (λ h. (record { 0 = h.0 }, h.1, h.2)) (λ h. (h.0.0, h.1, h.2)) (below (2 ^ 128) _ (λ n. decided (record { 0 = n })))

by_tag : (P : Cap → Type 0) (tag_is : Bool) (w : Word) → P (record { tag = tag_is; word = w })
    → P (record { tag = true; word = w }) ⊎ P (record { tag = false; word = w })
by_tag P true w p = inl p
by_tag P false w p = inr p

a_cap : (P : Cap → Type 0) (w : Word) → IsWord w.0 → P (record { tag = true; word = w }) ⊎ P (record { tag = false; word = w })
    → (cap : Cap) × IsWord cap.word.0 × P cap
a_cap P w range (inl p) = (record { tag = true; word = w }, range, p)
a_cap P w range (inr p) = (record { tag = false; word = w }, range, p)

pub caps : Searched Cap (λ cap. IsWord cap.word.0)
caps P decided =
    alike (λ h. a_cap P h.0 h.1 h.2) (λ h. (h.0.word, h.1, by_tag P h.0.tag h.0.word h.2))
    (words _ (λ w. either (decided (record { tag = true; word = w })) (decided (record { tag = false; word = w }))))

-- an offset from 0 on, or one below it
abbrev AnOffset : (ℤ → Type 0) → Type 0
AnOffset P = ((n : ℕ) × (n < 2048) × P (pos n)) ⊎ ((n : ℕ) × (n < 2048) × P (negsuc n))

an_offset : (P : ℤ → Type 0) → AnOffset P → (z : ℤ) × IsOffset z × P z
an_offset P (inl h) = let few = h.1 in (pos h.0, (omega (arith, ints), omega (arith, ints)), h.2)
an_offset P (inr h) = let few = h.1 in (negsuc h.0, (omega (arith, ints), omega (arith, ints)), h.2)

by_sign : (P : ℤ → Type 0) (z : ℤ) → IsOffset z → P z → AnOffset P
by_sign P (pos n) range p = inl (n, omega (arith, ints, range), p)
by_sign P (negsuc n) range p = inr (n, omega (arith, ints, range), p)

pub offsets : Searched ℤ IsOffset
offsets P decided =
    alike (an_offset P) (λ h. by_sign P h.0 h.1 h.2)
    (either (below 2048 _ (λ n. decided (pos n))) (below 2048 _ (λ n. decided (negsuc n))))

sizes : Searched ℕ IsDataSize
sizes = narrowed (below 9) (λ size is. omega arith) (λ size. either (same size 1) (either (same size 2) (either (same size 4) (same size 8))))

abbrev APlace : (Place → Type 0) → Type 0
APlace P = ((n : ℕ) × IsTarget n × P (Register n)) ⊎ ((n : ℕ) × (n < 2 ^ 60) × P (Granule n))

a_place : (P : Place → Type 0) → APlace P → (place : Place) × IsPlace place × P place
a_place P (inl h) = (Register h.0, h.1, h.2)
a_place P (inr h) = (Granule h.0, h.1, h.2)

by_place : (P : Place → Type 0) (place : Place) → IsPlace place → P place → APlace P
by_place P (Register n) range p = inl (n, range, p)
by_place P (Granule n) range p = inr (n, range, p)

pub places : Searched Place IsPlace
places P decided =
    alike (a_place P) (λ h. by_place P h.0 h.1 h.2)
    (either (targets _ (λ n. decided (Register n))) (below (2 ^ 60) _ (λ n. decided (Granule n))))

-- two things, each searched for
pub pairs : {A B : Type 0} {P : A → Type 0} {Q : B → Type 0} → Searched A P → Searched B Q → Searched (A × B) (FitBoth P Q)
pairs first second R decided =
    alike (λ h. ((h.0, h.2.0), (h.1, h.2.1), h.2.2)) (λ h. (h.0.0, h.1.0, (h.0.1, h.1.1, h.2)))
    (first _ (λ a. second _ (λ b. decided (a, b))))

data_numbers : Searched Datum IsDatum
data_numbers P decided =
    alike (λ h. (record { size = h.0; value = h.2.0 }, (h.1, h.2.1), h.2.2)) (λ h. (h.0.size, h.1.0, (h.0.value, h.1.1, h.2)))
    (sizes _ (λ size. below (256 ^ size) _ (λ value. decided (record { size = size; value = value }))))

pub accesses : (n : ℕ) → Searched (Accessed n) (λ a. IsDatum a.0)
accesses n P decided =
    alike (λ h. (record { 0 = h.0 }, h.1, h.2)) (λ h. (h.0.0, h.1, h.2)) (data_numbers _ (λ d. decided (record { 0 = d })))

pub versions : Searched Version (λ a. IsVersion a.0)
versions P decided =
    alike (λ h. (record { 0 = h.0 }, h.1, h.2)) (λ h. (h.0.0, h.1, h.2))
    (narrowed (below 3) (λ v is. omega arith) (λ v. either (same v 1) (same v 2)) _ (λ n. decided (record { 0 = n })))

a_mode : (P : Mode → Type 0) → P Strict ⊎ P Clear → (mode : Mode) × IsMode mode × P mode
a_mode P (inl p) = (Strict, tt, p)
a_mode P (inr p) = (Clear, tt, p)

by_mode : (P : Mode → Type 0) (mode : Mode) → P mode → P Strict ⊎ P Clear
by_mode P Strict p = inl p
by_mode P Clear p = inr p

pub modes : Searched Mode IsMode
modes P decided = alike (a_mode P) (λ h. by_mode P h.0 h.2) (either (decided Strict) (decided Clear))
