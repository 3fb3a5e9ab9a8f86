-- The permissions of a word: the view, single bits, and which words have no more.
use Rattle.std.specs.Int.{bit_at}
use Rattle.std.proofs.Common.{◌≡◌, ℕ, zero, suc, ◌+◌, ◌*◌, ◌/◌, ◌%◌, ◌^◌, ◌<◌, ◌≤◌, Bool, true, false, ◌==◌, ◌&&◌, min}
use Rattle.std.proofs.Common.{sym, ap, ◌∙◌, refl, IsTrue, arith, shr-shr, eqb-true, eq-eqb, bit_and, nat_eq}
use Rattle.std.proofs.lemmas.Nat.{and_mod, and_shr, and_le_l, and_block}
use Rattle.std.proofs.lemmas.Nat.Bits.{shr_and_one, bit_at_cat_low, bit_at_and, bit_at_lowest, bit_at-suc, bit_at-lt}
use Rattle.cap_word.specs.Fields.{perms_of, bit_of}
use Rattle.cap_ops.specs.Operations.{perms_with_common_global}
use Rattle.cap_ops.specs.Permissions.{perm_view_of, perms_from_view, has_permission, permit_global, with_perms}
use Rattle.cap_ops.proofs.ReplacedFields.{perms_of-with_perms}

-- each permission of x is one of y
abbrev pub IsFewer : ℕ → ℕ → Type 0
IsFewer x y = (permission : ℕ) → IsTrue (has_permission x permission) → IsTrue (has_permission y permission)

-- a number's low bits have the number's bits
bit_at-low : (n k i : ℕ) → i < k → bit_at (n % 2 ^ k) i ≡ bit_at n i
bit_at-low n k i h =
    let whole : n / 2 ^ k * 2 ^ k + n % 2 ^ k ≡ n = omega (arith) in
    sym (bit_at_cat_low (n / 2 ^ k) k (n % 2 ^ k) i h) ∙ ap (λ (x : ℕ). bit_at x i) whole

-- an architectural permission is a bit of the word
pub view_bit : (w i : ℕ) → i < 12 → bit_at (perm_view_of w) i ≡ bit_at w (112 + i)
unfolding perm_view_of
view_bit w i h =
    let swapped : perms_of w % 2 ^ 12 + perms_of w / 2 ^ 12 * 2 ^ 15 ≡ perms_of w / 2 ^ 12 * 2 ^ 15 + perms_of w % 2 ^ 12 = omega arith in
    ap (λ (x : ℕ). bit_at x i) swapped
    ∙ bit_at_cat_low (perms_of w / 2 ^ 12) 15 (perms_of w % 2 ^ 12) i (omega arith)
    ∙ bit_at-low (perms_of w) 12 i h
    ∙ bit_at-low (w / 2 ^ 112) 16 i (omega arith)
    ∙ ap (λ (x : ℕ). x % 2) (shr-shr w 112 i)

pub has_permission-bit : (w i : ℕ) → i < 12 → nat_eq (bit_and (w / 2 ^ (112 + i)) 1) 1 ≡ has_permission w i
unfolding has_permission
has_permission-bit w i h = ap (λ (x : ℕ). nat_eq x 1) (shr_and_one w (112 + i) ∙ sym (view_bit w i h))

-- a word whose view is that of another, masked, has no permission more
pub IsFewer-masked : (x y mask : ℕ) → perm_view_of x ≡ bit_and (perm_view_of y) mask → IsFewer x y
unfolding has_permission
IsFewer-masked x y mask e n h =
    let set : bit_at (perm_view_of x) n ≡ 1 = eqb-true _ _ h in
    let both : bit_at (perm_view_of x) n ≡ min (bit_at (perm_view_of y) n) (bit_at mask n) =
    ap (λ (v : ℕ). bit_at v n) e ∙ bit_at_and (perm_view_of y) mask n in
    let low : bit_at (perm_view_of y) n < 2 = bit_at-lt (perm_view_of y) n in
    eq-eqb _ _ (omega arith)

-- words with the same field have the same permissions
pub perm_view_of-same : (x y : ℕ) → perms_of x ≡ perms_of y → perm_view_of x ≡ perm_view_of y
unfolding perm_view_of
perm_view_of-same x y e = ap (λ (p : ℕ). p % 2 ^ 12 + p / 2 ^ 12 * 2 ^ 15) e

pub has_permission-same : (x y n : ℕ) → perms_of x ≡ perms_of y → has_permission x n ≡ has_permission y n
unfolding has_permission
has_permission-same x y n e = ap (λ (v : ℕ). bit_at v n == 1) (perm_view_of-same x y e)

pub IsFewer-same : (x y : ℕ) → perms_of x ≡ perms_of y → IsFewer x y
IsFewer-same x y e n h = sym (has_permission-same x y n e) ∙ h

-- the field that a masked view stands for is the field, masked by that of the mask
pub perms_from_view-and : (w mask : ℕ) → bit_and (perms_of w) (perms_from_view mask) ≡ perms_from_view (bit_and (perm_view_of w) mask)
unfolding perm_view_of perms_from_view
perms_from_view-and w mask =
    let p = perms_of w in
    let view = p % 2 ^ 12 + p / 2 ^ 12 * 2 ^ 15 in
    let split : p ≡ p / 2 ^ 12 * 2 ^ 12 + p % 2 ^ 12 = omega arith in
    let field : mask % 2 ^ 12 + mask / 2 ^ 15 % 2 ^ 4 * 2 ^ 12 ≡ mask / 2 ^ 15 % 2 ^ 4 * 2 ^ 12 + mask % 2 ^ 12 = omega arith in
    let low : bit_and view mask % 2 ^ 12 ≡ bit_and (p % 2 ^ 12) (mask % 2 ^ 12) =
    and_mod view mask 12 ∙ ap (λ (x : ℕ). bit_and x (mask % 2 ^ 12)) (let e : view % 2 ^ 12 ≡ p % 2 ^ 12 = omega arith in e) in
    let high : bit_and view mask / 2 ^ 15 % 2 ^ 4 ≡ bit_and (p / 2 ^ 12) (mask / 2 ^ 15 % 2 ^ 4) =
    ap (λ (x : ℕ). x % 2 ^ 4) (and_shr view mask 15)
    ∙ and_mod (view / 2 ^ 15) (mask / 2 ^ 15) 4
    ∙ ap (λ (x : ℕ). bit_and x (mask / 2 ^ 15 % 2 ^ 4)) (let e : view / 2 ^ 15 % 2 ^ 4 ≡ p / 2 ^ 12 = omega arith in e) in
    let whole : bit_and p (mask % 2 ^ 12 + mask / 2 ^ 15 % 2 ^ 4 * 2 ^ 12)
    ≡ bit_and (p / 2 ^ 12) (mask / 2 ^ 15 % 2 ^ 4) * 2 ^ 12 + bit_and (p % 2 ^ 12) (mask % 2 ^ 12) =
    ap (λ (x : ℕ). bit_and x (mask % 2 ^ 12 + mask / 2 ^ 15 % 2 ^ 4 * 2 ^ 12)) split
    ∙ ap (bit_and (p / 2 ^ 12 * 2 ^ 12 + p % 2 ^ 12)) field
    ∙ and_block 12 (p / 2 ^ 12) (mask / 2 ^ 15 % 2 ^ 4) (p % 2 ^ 12) (mask % 2 ^ 12) (omega arith) (omega arith) in
    omega arith

-- a masked view is the view of the field that it stands for
pub perm_view_of-masked : (w v mask : ℕ) → perms_of v ≡ perms_from_view (bit_and (perm_view_of w) mask)
    → perm_view_of v ≡ bit_and (perm_view_of w) mask
unfolding perm_view_of perms_from_view
perm_view_of-masked w v mask e =
    let p = perms_of w in
    let view = p % 2 ^ 12 + p / 2 ^ 12 * 2 ^ 15 in
    let both = bit_and view mask in
    let middle : both % 2 ^ 15 ≤ view % 2 ^ 15 = omega (arith, and_mod view mask 15, and_le_l (view % 2 ^ 15) (mask % 2 ^ 15)) in
    let below : both ≤ view = and_le_l view mask in
    let again : both % 2 ^ 12 + both / 2 ^ 15 % 2 ^ 4 * 2 ^ 15 ≡ both = omega arith in
    omega arith

-- Global gone: the lowest bit of the field cleared
bit_at-even : (n i : ℕ) → bit_at (n / 2 * 2) i ≡ 1 → bit_at n i ≡ 1
bit_at-even n zero h = absurd (omega (arith, bit_at_lowest (n / 2 * 2)))
bit_at-even n (suc i) h =
    let halved : n / 2 * 2 / 2 ≡ n / 2 = omega arith in
    bit_at-suc n i ∙ ap (λ (x : ℕ). bit_at x i) (sym halved) ∙ sym (bit_at-suc (n / 2 * 2) i) ∙ h

pub IsFewer-even : (x y : ℕ) → perms_of x ≡ perms_of y / 2 * 2 → IsFewer x y
unfolding has_permission perm_view_of
IsFewer-even x y e n h =
    let view : perm_view_of x ≡ perm_view_of y / 2 * 2 = omega arith in
    eq-eqb _ _ (bit_at-even (perm_view_of y) n (ap (λ (v : ℕ). bit_at v n) (sym view) ∙ eqb-true _ _ h))

-- a word that has Global has an odd field
global_odd : (w : ℕ) → has_permission w 0 ≡ true → perms_of w % 2 ≡ 1
unfolding has_permission perm_view_of
global_odd w h = omega (arith, eqb-true _ _ h, bit_at_lowest (perm_view_of w))

-- a word with Global only where another has it too has no permission more
pub IsFewer-common : (x y other : ℕ) → perms_of x ≡ perms_with_common_global y other → IsFewer x y
IsFewer-common x y other e = by_cases (has_permission y permit_global) (has_permission other permit_global) refl refl where
  at_bits : (g h : Bool) → has_permission y permit_global ≡ g → has_permission other permit_global ≡ h → perms_of x ≡ perms_of y / 2 * 2 + bit_of (g && h)
  at_bits g h p q =
      e ∙ ap (λ (b : Bool). perms_of y / 2 * 2 + bit_of (b && has_permission other permit_global)) p
      ∙ ap (λ (b : Bool). perms_of y / 2 * 2 + bit_of (g && b)) q

  by_cases : (g h : Bool) → has_permission y permit_global ≡ g → has_permission other permit_global ≡ h → IsFewer x y
  by_cases true true p q = IsFewer-same x y (omega (arith, at_bits true true p q, global_odd y p))
  by_cases true false p q = IsFewer-even x y (omega (arith, at_bits true false p q))
  by_cases false h p q = IsFewer-even x y (omega (arith, at_bits false h p q))

-- the view of a word with the masked permissions
pub perm_view_of-and_perm : (w mask : ℕ) → perm_view_of (with_perms w (perms_from_view (bit_and (perm_view_of w) mask)))
    ≡ bit_and (perm_view_of w) mask
perm_view_of-and_perm w mask =
    let kept = perms_from_view (bit_and (perm_view_of w) mask) in
    let small : kept < 2 ^ 16 = omega (arith, sym (perms_from_view-and w mask), and_le_l (perms_of w) (perms_from_view mask)) in
    perm_view_of-masked w (with_perms w kept) mask (perms_of-with_perms w kept small)

bit_of-lt : (b : Bool) → bit_of b < 2
bit_of-lt true = omega arith
bit_of-lt false = omega arith

pub perms_with_common_global-lt : (w other : ℕ) → perms_with_common_global w other < 2 ^ 16
perms_with_common_global-lt w other = omega (arith, bit_of-lt (has_permission w permit_global && has_permission other permit_global))
