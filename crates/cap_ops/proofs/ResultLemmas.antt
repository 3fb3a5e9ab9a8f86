-- What the results of operations hold: object type, sealedness, Global, address.
use Rattle.std.proofs.Common.{◌≡◌, ℕ, ◌+◌, ◌*◌, ◌/◌, ◌%◌, ◌^◌, ◌<◌, ◌≤◌, Bool, true, false, ◌&&◌, not, ◌==◌, IsTrue}
use Rattle.std.proofs.Common.{IsFalse, None, refl, ap, ◌∙◌, arith, lit<, ltb-false, eqb-true}
use Rattle.std.proofs.lemmas.{Bool.{not-false, false_from_ne_true}, Nat.Bits.bit_at_lowest}
use Rattle.cap_word.specs.{declared.word.Cap.Cap, Fields.{address_of, bit_of, otype_of, perms_of}}
use Rattle.cap_bounds.specs.Range.{with_address}
use Rattle.cap_ops.specs.{Checks.first_of, Operations.{seal_checks, seal_result, unseal_checks, unseal_result}}
use Rattle.cap_ops.specs.Operations.{set_addr_result, perms_with_common_global}
use Rattle.cap_ops.specs.Permissions.{has_permission, is_sealed, perm_view_of, with_perms, with_type, permit_global}
use Rattle.cap_ops.specs.Permissions.{greatest_type, unsealed_type}
use Rattle.cap_ops.proofs.PermissionLemmas.{perms_with_common_global-lt}
use Rattle.cap_ops.proofs.{ReplacedFields.{perms_of-with_perms, perms_of-with_type}, TestLemmas.none_hold}

otype_of-with_type : (w otype : ℕ) → otype < 2 ^ 18 → otype_of (with_type w otype) ≡ otype
otype_of-with_type w otype h = omega arith

address_of-with_type : (w otype : ℕ) → address_of (with_type w otype) ≡ address_of w
address_of-with_type w otype = omega arith

address_of-with_perms : (w perms : ℕ) → address_of (with_perms w perms) ≡ address_of w
address_of-with_perms w perms = omega arith

unequal : (a b : ℕ) → a < b → (a == b) ≡ false
unequal a b h = false_from_ne_true (a == b) (λ e. let same : a ≡ b = eqb-true a b e in omega arith)

-- a word with an ordinary type is sealed
sealed_with_type : (w otype : ℕ) → otype ≤ greatest_type → is_sealed (with_type w otype) ≡ true
unfolding is_sealed
sealed_with_type w otype h =
    let is = otype_of-with_type w otype (omega arith) in
    ap (λ (t : ℕ). not (t == unsealed_type)) is ∙ ap not (unequal otype unsealed_type (omega arith))

-- the fields of what was sealed
pub sealed_so : (source authority cap : Cap) → first_of (seal_checks source authority) ≡ None → cap ≡ seal_result source authority
    → IsTrue cap.tag × IsTrue (is_sealed cap.word.0) × (otype_of cap.word.0 ≡ address_of authority.word.0)
    × (address_of cap.word.0 ≡ address_of source.word.0)
unfolding seal_checks seal_result
sealed_so source authority cap free is =
    let none = none_hold (seal_checks source authority) free in
    let w = source.word.0 in
    let a = address_of authority.word.0 in
    let small : a ≤ greatest_type = ltb-false greatest_type a none.1.1.1.1.0 in
    let same : a % 2 ^ 18 ≡ a = omega arith in
    let word : cap.word.0 ≡ with_type w a = ap (λ (c : Cap). c.word.0) is ∙ ap (with_type w) same in (
      ap (λ (c : Cap). c.tag) is ∙ not-false source.tag none.1.1.1.1.1.0,
      ap is_sealed word ∙ sealed_with_type w a small,
      ap otype_of word ∙ otype_of-with_type w a (omega arith),
      ap address_of word ∙ address_of-with_type w a,
    )

-- Global is the lowest bit of the field
has_global : (w : ℕ) → has_permission w permit_global ≡ (perms_of w % 2 == 1)
unfolding has_permission perm_view_of
has_global w =
    let low : (perms_of w % 2 ^ 12 + perms_of w / 2 ^ 12 * 2 ^ 15) % 2 ≡ perms_of w % 2 = omega arith in
    ap (λ (n : ℕ). n == 1) (bit_at_lowest (perm_view_of w) ∙ low)

bit_told : (b : Bool) → (bit_of b == 1) ≡ b
bit_told true = refl
bit_told false = refl

common_global : (w other : ℕ) → perms_with_common_global w other % 2 ≡ bit_of (has_permission w permit_global && has_permission other permit_global)
common_global w other = odd (has_permission w permit_global && has_permission other permit_global) where
  odd : (b : Bool) → (perms_of w / 2 * 2 + bit_of b) % 2 ≡ bit_of b
  odd true = omega arith
  odd false = omega arith

-- the fields of what was unsealed
pub unsealed_so : (source authority cap : Cap) → first_of (unseal_checks source authority) ≡ None → cap ≡ unseal_result source authority
    → IsTrue cap.tag × IsFalse (is_sealed cap.word.0)
    × (has_permission cap.word.0 permit_global ≡ (has_permission source.word.0 permit_global && has_permission authority.word.0 permit_global))
    × (address_of cap.word.0 ≡ address_of source.word.0)
unfolding unseal_checks unseal_result is_sealed
unsealed_so source authority cap free is =
    let none = none_hold (unseal_checks source authority) free in
    let w = source.word.0 in
    let other = authority.word.0 in
    let kept = perms_with_common_global w other in
    let u = with_perms w kept in
    let word : cap.word.0 ≡ with_type u unsealed_type = ap (λ (c : Cap). c.word.0) is in
    let perms : perms_of cap.word.0 ≡ kept =
    ap perms_of word ∙ perms_of-with_type u unsealed_type (lit< tt) ∙ perms_of-with_perms w kept (perms_with_common_global-lt w other) in (
      ap (λ (c : Cap). c.tag) is ∙ not-false source.tag none.1.1.1.1.0,
      ap (λ (n : ℕ). not (otype_of n == unsealed_type)) word ∙ ap (λ (n : ℕ). not (n == unsealed_type))
          (otype_of-with_type u unsealed_type (lit< tt)),
      has_global cap.word.0 ∙ ap (λ (n : ℕ). n % 2 == 1) perms ∙ ap (λ (n : ℕ). n == 1) (common_global w other) ∙ bit_told _,
      ap address_of word ∙ address_of-with_type u unsealed_type ∙ address_of-with_perms w kept,
    )

-- the fields of what was moved
pub moved_so : (source : Cap) (address : ℕ) (cap : Cap) → address < 2 ^ 64 → cap ≡ set_addr_result source address
    → (cap.tag ≡ source.tag) × (address_of cap.word.0 ≡ address)
unfolding set_addr_result
moved_so source address cap fits is =
    let low : address_of (with_address source.word.0 address) ≡ address = omega arith in (
      ap (λ (c : Cap). c.tag) is,
      ap (λ (c : Cap). address_of c.word.0) is ∙ low,
    )
