-- What the operations and accesses answer to C (this profile's own).
use Rattle.std.specs.Prelude.{◌≡◌, ◌↔◌, ℕ, ◌+◌, ◌%◌, ◌≤◌, Bool, ℤ, pos, neg_ℤ, ◌≤ℤ◌, List, MatchOption, IsTrue}
use Rattle.cap_word.specs.declared.word.Cap.{Cap}
use Rattle.cap_ops.specs.declared.{kinds.Kind.Kind, refusal.Refusal.Refusal}
use Rattle.cap_ops.specs.declared.derived_words.DeriveFault.{DeriveFault, TheVariants.{SourceUntagged, UnsoundResult, BeyondSource, SealChanged}}
use Rattle.cap_ops.specs.{Accesses.{IsAllowed, access_address, access_checks, permission_for}, Checks.first_of}
use Rattle.cap_ops.specs.{Refusals.refusal_number, Sizes.size_fits}
use Rattle.cap_halves.specs.Passed.{cap_of, no_cap}
use Rattle.capcheck_c.specs.{declared.values.{AccessAnswer.AccessAnswer, Made.Made}, Names.c_string_in}

-- what an operation with these checks and this result answers: the result and 0 if no check fails, otherwise
-- untagged NULL and the number of the first check that fails
abbrev pub IsMadeBy : List (Bool × Refusal) → Cap → Made → Type 0
IsMadeBy checks result made =
    MatchOption (first_of checks)
    ((made.refusal ≡ 0) × (cap_of made.cap ≡ result))
    (λ refusal. (made.refusal ≡ refusal_number refusal) × (cap_of made.cap ≡ no_cap))

-- the number of the refusal that a failed check of a `derive` is
abbrev pub derive_number : DeriveFault → ℕ
derive_number SourceUntagged = 9
derive_number UnsoundResult = 30
derive_number BeyondSource = 31
derive_number SealChanged = 32

-- an access of a kind has such offsets and sizes
abbrev pub IsAccess : Kind → ℤ → ℕ → Type 0
IsAccess kind offset size = (neg_ℤ (pos 2048) ≤ℤ offset) × (offset ≤ℤ pos 2047) × IsTrue (size_fits kind size)

-- the refusal of an access whose offset or size no access of its kind has
abbrev pub bad_argument : ℕ
bad_argument = 255

-- what an access answers: its address and 0 if no check fails, otherwise 0 and the number of the
-- first check that fails; an access that is permitted is in the authority's bounds, has its permission, is
-- aligned, and lies in one granule; and what is no access is refused with a number of its own
pub record AnswersAccess (authority : Cap) (kind : Kind) (offset : ℤ) (size : ℕ) (answer : AccessAnswer) : Type 0 where
  pub outcome : IsAccess kind offset size → MatchOption (first_of (access_checks authority kind offset size))
      ((answer.refusal ≡ 0) × (answer.address ≡ access_address authority.word.0 offset))
      (λ refusal. (answer.refusal ≡ refusal_number refusal) × (answer.address ≡ 0))
  pub allowed : answer.refusal ≡ 0 → IsAllowed authority.word.0 answer.address size (permission_for kind)
  pub in_one_granule : answer.refusal ≡ 0 → answer.address % 16 + size ≤ 16
  pub bad : (answer.refusal ≡ bad_argument) ↔ (¬ IsAccess kind offset size)
  pub zero : ¬ IsAccess kind offset size → answer.address ≡ 0

-- the 24 bytes of a name as a C string
abbrev pub c_string : List ℕ → List ℕ
c_string text = c_string_in 24 text
