-- What follows where no test refuses an access.
use Rattle.std.proofs.Common.{◌≡◌, ℕ, ◌+◌, ◌%◌, ◌≤◌, ◌-◌, ◌^◌, ℤ, pos, negsuc, neg_ℤ, ◌≤ℤ◌, true, ◌==◌, None, ◌||◌, inl, inr, sym, subst, arith, eqb-true}
use Rattle.std.proofs.lemmas.{Bool.{not-false, or_cases}, Int.{ints}}
use Rattle.cap_word.specs.Fields.{address_of}
use Rattle.cap_word.specs.declared.word.Cap.{Cap}
use Rattle.cap_ops.specs.declared.kinds.Kind.{Kind, TheVariants.{LoadData, StoreData, LoadCap, StoreCap}}
use Rattle.cap_ops.specs.{Accesses.{IsAllowed, access_address, access_checks, permission_for}, Checks.first_of}
use Rattle.cap_ops.specs.Sizes.{is_data_size, size_fits}
use Rattle.cap_ops.proofs.TestLemmas.{none_hold, IsInside-covers}

-- an access that no test refuses is allowed
pub IsAllowed-access : (authority : Cap) (kind : Kind) (offset : ℤ) (size : ℕ) → first_of (access_checks authority kind offset size) ≡ None
    → IsAllowed authority.word.0 (access_address authority.word.0 offset) size (permission_for kind)
unfolding access_checks
IsAllowed-access authority kind offset size h =
    let address = access_address authority.word.0 offset in
    let fail = none_hold (access_checks authority kind offset size) h in
    let bounds = IsInside-covers authority.word.0 address (address + size) (not-false _ fail.1.1.1.0) in
    record { from = bounds.0; until = bounds.1; aligned = eqb-true _ _ (not-false _ fail.1.1.1.1.0); permits = not-false _ fail.1.1.0 }

-- an aligned access lies in one granule of memory
one_granule : (address size k : ℕ) → size ≡ k → address % size ≡ 0 → (address % k ≡ 0 → address % 16 + k ≤ 16) → address % 16 + size ≤ 16
one_granule address size k e aligned fits =
    subst (λ (x : ℕ). address % 16 + x ≤ 16) (sym e) (fits (subst (λ (x : ℕ). address % x ≡ 0) e aligned))

data_in_granule : (address size : ℕ) → is_data_size size ≡ true → address % size ≡ 0 → address % 16 + size ≤ 16
data_in_granule address size h aligned =
    elim (or_cases (size == 1 || size == 2 || size == 4) (size == 8) h) [
      | inl small ↦ elim (or_cases (size == 1 || size == 2) (size == 4) small) [
        | inl less ↦ elim (or_cases (size == 1) (size == 2) less) [
          | inl e ↦ one_granule address size 1 (eqb-true _ _ e) aligned (λ a. omega arith)
          | inr e ↦ one_granule address size 2 (eqb-true _ _ e) aligned (λ a. omega arith)
        ]
        | inr e ↦ one_granule address size 4 (eqb-true _ _ e) aligned (λ a. omega arith)
      ]
      | inr e ↦ one_granule address size 8 (eqb-true _ _ e) aligned (λ a. omega arith)
    ]

pub in_granule : (kind : Kind) (address size : ℕ) → size_fits kind size ≡ true → address % size ≡ 0 → address % 16 + size ≤ 16
in_granule LoadData address size h aligned = data_in_granule address size h aligned
in_granule StoreData address size h aligned = data_in_granule address size h aligned
in_granule LoadCap address size h aligned = one_granule address size 16 (eqb-true _ _ h) aligned (λ a. omega arith)
in_granule (StoreCap stored) address size h aligned = one_granule address size 16 (eqb-true _ _ h) aligned (λ a. omega arith)

-- the authority's address lies at most 2048 below that of an access, or 2047 above it: both are given 2 ^ 64 higher
pub authority_near : (w address : ℕ) (offset : ℤ) → neg_ℤ (pos 2048) ≤ℤ offset → offset ≤ℤ pos 2047 → address ≡ access_address w offset
    → (x : ℕ) × (x % 2 ^ 64 ≡ address_of w) × (address + 2 ^ 64 ≤ x + 2 ^ 11) × (x ≤ address + 2 ^ 64 + 2 ^ 11)
unfolding access_address
authority_near w address (pos n) from until at = (address + 2 ^ 64 - n, omega (arith, ints), omega (arith, ints), omega (arith, ints))
authority_near w address (negsuc n) from until at = (address + 2 ^ 64 + n + 1, omega (arith, ints), omega (arith, ints), omega (arith, ints))
