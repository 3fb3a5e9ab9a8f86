-- Signed numbers 2 ^ 66 higher, and the numbers of an interval that are congruent to one.
use Rattle.std.specs.Int.{w128, int_rem_euclid}
use Rattle.std.proofs.Common.{◌≡◌, ℕ, ◌+◌, ◌-◌, ◌*◌, ◌/◌, ◌%◌, ◌^◌, ◌<◌, ◌≤◌, sym, ap, ◌∙◌, refl, arith, lit<, lit≤, ℤ}
use Rattle.std.proofs.Common.{pos, negsuc, ◌+ℤ◌, ◌-ℤ◌, FitsSigned, to_z, of_z, to_z-of_z, mod-lt, mod-eq_of_lt}
use Rattle.std.proofs.Common.{mul-lt-mul_of_pos_right, div-add-mod', pow_pos, unsigned_abs}
use Rattle.std.proofs.{Math.Nat.add-mul-mod_self_right, lemmas.Int.{to_z_pos, ints, int_rem_euclid_is}}
use Rattle.std.proofs.lemmas.Nat.{shl_whole, shl_below}
use borrow.Author.Differences.{up, down}
use Rattle.cap_bounds.specs.Bounds.{IsResidue}
use Rattle.cap_bounds.proofs.Powers.{pow_split, pow_le, size_is}
use Rattle.plain.specs.Raised.{IsNear, raised}

pub near-parts : (limit : ℕ) (z : ℤ) → 0 < limit → IsNear limit z → (up z < down z + limit) × (down z ≤ up z + 2 ^ 66)
near-parts limit (pos n) p h = omega arith
near-parts limit (negsuc n) p h = omega arith

pub near-in : (limit : ℕ) (z : ℤ) → up z < down z + limit → down z ≤ up z + 2 ^ 66 → IsNear limit z
near-in limit (pos n) h k = omega arith
near-in limit (negsuc n) h k = omega arith

pub raised-parts : (z : ℤ) → down z ≤ up z + 2 ^ 66 → raised z + down z ≡ up z + 2 ^ 66
raised-parts (pos n) h = omega arith
raised-parts (negsuc n) h = omega arith

module _ (low value : ℤ) (bits : ℕ) (bits_fit : bits ≤ 66) (low_near : IsNear (2 ^ 64) low) (value_near : IsNear (2 ^ 67) value) where
  abbrev pub size : ℕ
  size = 2 ^ bits

  abbrev pub above : ℕ
  above = raised value + 2 ^ 68 - raised low

  whole : 2 ^ 66 ≡ 2 ^ (66 - bits) * size
  whole = pow_split 66 (66 - bits) bits (omega arith)

  pub sum_rest : int_rem_euclid (value -ℤ low) (pos size) ≡ pos (above % size)
  sum_rest =
      let l = near-parts (2 ^ 64) low (lit< tt) low_near in
      let v = near-parts (2 ^ 67) value (lit< tt) value_near in
      let times : 4 * 2 ^ (66 - bits) * size ≡ 2 ^ 68 = omega (arith, whole) in
      let sum : (value -ℤ low) +ℤ pos (4 * 2 ^ (66 - bits) * size) ≡ pos above = omega
      (arith, ints, raised-parts low l.1, raised-parts value v.1, l.0, v.0) in
      int_rem_euclid_is (value -ℤ low) (pos size) size (4 * 2 ^ (66 - bits)) above (pow_pos bits) refl sum

  pub residue_is : (r : ℤ) → r ≡ low +ℤ int_rem_euclid (value -ℤ low) (pos size) → IsResidue (raised low) size (raised value) (raised r)
  residue_is r is =
      let l = near-parts (2 ^ 64) low (lit< tt) low_near in
      let v = near-parts (2 ^ 67) value (lit< tt) value_near in
      let raised_low = raised-parts low l.1 in
      let rest : r ≡ low +ℤ pos (above % size) = is ∙ ap (λ (z : ℤ). low +ℤ z) sum_rest in
      let small : above % size < size = mod-lt above (pow_pos bits) in
      let raised_r : raised r ≡ raised low + above % size = omega (arith, ints, raised_low, raised-parts r (omega (arith, ints))) in
      let split : above / size * size + above % size ≡ above = div-add-mod' above size in
      let times : 4 * 2 ^ (66 - bits) * size ≡ 2 ^ 68 = omega (arith, whole) in
      let sum : raised low + above % size + above / size * size ≡ raised value + 4 * 2 ^ (66 - bits) * size = omega
      (arith, raised_low, raised-parts value v.1, l.0) in
      let congruent : raised r % size ≡ raised value % size =
      ap (λ (x : ℕ). x % size) raised_r ∙ sym (add-mul-mod_self_right (raised low + above % size) (above / size) size)
      ∙ ap (λ (x : ℕ). x % size) sum ∙ add-mul-mod_self_right (raised value) (4 * 2 ^ (66 - bits)) size in
      record { from = omega arith; below = omega arith; congruent = congruent }

pub near-fits : (limit : ℕ) (z : ℤ) → 0 < limit → limit ≤ 2 ^ 67 → IsNear limit z → FitsSigned w128 z
near-fits limit z p q h = let parts = near-parts limit z p h in omega (arith, ints)

pub size_fits : (bits : ℕ) → bits ≤ 66 → 1 * 2 ^ bits % 2 ^ 128 ≡ 2 ^ bits
size_fits bits h = let p : 2 ^ bits ≤ 2 ^ 66 = pow_le bits 66 h in mod-eq_of_lt (omega arith) ∙ omega arith

pub power_is : (bits : ℕ) → bits ≤ 66 → to_z w128 (1 * 2 ^ bits % 2 ^ 128) ≡ pos (2 ^ bits)
power_is bits h =
    let p : 2 ^ bits ≤ 2 ^ 66 = pow_le bits 66 h in
    ap (to_z w128) (size_fits bits h) ∙ to_z_pos w128 (2 ^ bits) (omega arith)

-- what the code computes: its sums lose nothing
module _ (low value size rest : ℤ) (bits : ℕ) (bits_fit : bits ≤ 66) (low_near : IsNear (2 ^ 64) low) (value_near : IsNear (2 ^ 67) value)
    (size_is : size ≡ pos (2 ^ bits))
    (rest_is : rest ≡ int_rem_euclid (to_z w128 (of_z w128 (to_z w128 (of_z w128 value) -ℤ to_z w128 (of_z w128 low))))
    (to_z w128 (of_z w128 size))) where
  low_parts : (up low < down low + 2 ^ 64) × (down low ≤ up low + 2 ^ 66)
  low_parts = near-parts (2 ^ 64) low (lit< tt) low_near

  low_fits : FitsSigned w128 low
  low_fits = near-fits (2 ^ 64) low (lit< tt) (lit≤ tt) low_near

  difference : to_z w128 (of_z w128 (to_z w128 (of_z w128 value) -ℤ to_z w128 (of_z w128 low))) ≡ value -ℤ low
  difference =
      let l = low_parts in
      let v = near-parts (2 ^ 67) value (lit< tt) value_near in
      omega (arith, ints, low_fits, near-fits (2 ^ 67) value (lit< tt) (lit≤ tt) value_near)

  divisor : to_z w128 (of_z w128 size) ≡ pos (2 ^ bits)
  divisor = let p : 2 ^ bits ≤ 2 ^ 66 = pow_le bits 66 bits_fit in omega (arith, ints, size_is)

  coded_rest : rest ≡ int_rem_euclid (value -ℤ low) (pos (2 ^ bits))
  coded_rest = rest_is ∙ ap (λ (z : ℤ). int_rem_euclid z (to_z w128 (of_z w128 size))) difference
      ∙ ap (int_rem_euclid (value -ℤ low)) divisor

  rest_small : (up rest < 2 ^ 66) × (down rest ≡ 0)
  rest_small =
      let small : above low value bits bits_fit low_near value_near % 2 ^ bits < 2 ^ bits = mod-lt _ (pow_pos bits) in
      let p : 2 ^ bits ≤ 2 ^ 66 = pow_le bits 66 bits_fit in
      omega (arith, ints, coded_rest ∙ sum_rest low value bits bits_fit low_near value_near)

  pub sum_fits : FitsSigned w128 (to_z w128 (of_z w128 low) +ℤ to_z w128 (of_z w128 rest))
  sum_fits = let l = low_parts in omega (arith, ints, low_fits, rest_small)

  pub coded_residue : IsResidue (raised low) (2 ^ bits) (raised value)
      (raised (to_z w128 (of_z w128 (to_z w128 (of_z w128 low) +ℤ to_z w128 (of_z w128 rest)))))
  coded_residue =
      let l = low_parts in
      let sum : to_z w128 (of_z w128 (to_z w128 (of_z w128 low) +ℤ to_z w128 (of_z w128 rest))) ≡ low +ℤ rest =
      omega (arith, ints, low_fits, rest_small, sum_fits) in
      residue_is low value bits bits_fit low_near value_near _ (sum ∙ ap (λ (z : ℤ). low +ℤ z) coded_rest)

  pub coded_near : IsNear (2 ^ 67) (to_z w128 (of_z w128 (to_z w128 (of_z w128 low) +ℤ to_z w128 (of_z w128 rest))))
  coded_near =
      let l = low_parts in
      near-in (2 ^ 67) _ (omega (arith, ints, low_fits, rest_small, sum_fits)) (omega (arith, ints, low_fits, rest_small, sum_fits))

pub size-fits : (bits : ℕ) → bits ≤ 66 → FitsSigned w128 (pos (1 * 2 ^ bits % 2 ^ 128))
size-fits bits h = let p : 2 ^ bits ≤ 2 ^ 66 = pow_le bits 66 h in omega (arith, ints, size_fits bits h)

-- so many units of 2 to an exponent
module _ (units exponent : ℕ) (units_fit : units < 2 ^ 14) (exponent_fits : exponent ≤ 52) where
  pub scaled-lt : units * 2 ^ exponent < 2 ^ 66
  scaled-lt = omega (arith, shl_below units 14 exponent units_fit, pow_le (14 + exponent) 66 (omega arith))

  pub scaled_is : to_z w128 (units * 2 ^ exponent % 2 ^ 128) ≡ pos (units * 2 ^ exponent)
  scaled_is =
      ap (to_z w128) (shl_whole units 14 exponent 128 units_fit (omega arith))
      ∙ to_z_pos w128 (units * 2 ^ exponent) (omega (arith, scaled-lt))

-- a multiple of 2 ^ 66 changes nothing modulo a power of two up to that
pub raised-mod : (x bits : ℕ) → bits ≤ 66 → (x + 2 ^ 66) % 2 ^ bits ≡ x % 2 ^ bits
raised-mod x bits h =
    ap (λ (y : ℕ). (x + y) % 2 ^ bits) (pow_split 66 (66 - bits) bits (omega arith))
    ∙ add-mul-mod_self_right x (2 ^ (66 - bits)) (2 ^ bits)

pub cut_is : (value r : ℤ) (bits : ℕ) → bits ≤ 66 → IsNear (2 ^ 67) value → IsNear (2 ^ 67) r
    → IsResidue (2 ^ 66) (2 ^ bits) (raised (to_z w128 (of_z w128 value))) (raised r)
    → unsigned_abs (to_z w128 (of_z w128 r)) ≡ raised value % 2 ^ bits
cut_is value (pos k) bits h value_near near is =
    let small : k < 2 ^ bits = omega (arith, is.below) in
    let same : unsigned_abs (to_z w128 (of_z w128 (pos k))) ≡ k =
    ap unsigned_abs (to_z-of_z (near-fits (2 ^ 67) (pos k) (lit< tt) (lit≤ tt) near)) in
    let passed : to_z w128 (of_z w128 value) ≡ value = to_z-of_z (near-fits (2 ^ 67) value (lit< tt) (lit≤ tt) value_near) in
    same ∙ sym (mod-eq_of_lt small) ∙ sym (raised-mod k bits h) ∙ is.congruent ∙ ap (λ (z : ℤ). raised z % 2 ^ bits) passed
cut_is value (negsuc k) bits h value_near near is = absurd (omega (arith, is.from))

-- ---- The window of an address, and what lies in it
module _ (address size : ℕ) (low : ℤ) (address_fits : address < 2 ^ 64) (some : 0 < size) (size_fits : size ≤ 2 ^ 66)
    (low_is : low +ℤ pos size ≡ pos address +ℤ pos 1) where
  pub low-near : IsNear (2 ^ 64) low
  low-near = near-in (2 ^ 64) low (omega (arith, ints)) (omega (arith, ints))

  low-raised : raised low + size ≡ address + 1 + 2 ^ 66
  low-raised =
      let p = near-parts (2 ^ 64) low (lit< tt) low-near in
      omega (arith, ints, raised-parts low p.1)

  module _ (start : ℤ) (value : ℕ) (is : IsResidue (raised low) size value (raised start)) (near : IsNear (2 ^ 67) start) where
    pub start-begins : raised start ≤ address + 2 ^ 66
    start-begins = omega (arith, is.below, low-raised)

    pub start-ends : address + 2 ^ 66 < raised start + size
    start-ends = omega (arith, is.from, low-raised)

    pub start-near : IsNear (2 ^ 64) start
    start-near =
        let p = near-parts (2 ^ 67) start (lit< tt) near in
        let r = raised-parts start p.1 in
        near-in (2 ^ 64) start (omega (arith, start-begins)) (omega arith)

-- a natural value that is raised is congruent to itself
pub natural_residue : (low n x bits : ℕ) → bits ≤ 66 → IsResidue low (2 ^ bits) (n + 2 ^ 66) x → IsResidue low (2 ^ bits) n x
natural_residue low n x bits h is = record { from = is.from; below = is.below; congruent = is.congruent ∙ raised-mod n bits h }

-- a number near 0 comes back from its bits as it was
pub passed : (limit : ℕ) (z : ℤ) → 0 < limit → limit ≤ 2 ^ 67 → IsNear limit z → to_z w128 (of_z w128 z) ≡ z
passed limit z p q h = to_z-of_z (near-fits limit z p q h)

pub coded_low : (address size : ℕ) (from power : ℤ) → address < 2 ^ 64 → size ≤ 2 ^ 66 → from ≡ pos address → power ≡ pos size
    → to_z w128 (of_z w128 (to_z w128 (of_z w128 (to_z w128 (of_z w128 from) +ℤ pos 1)) -ℤ to_z w128 (of_z w128 power))) +ℤ pos size
    ≡ pos address +ℤ pos 1
coded_low address size from power fits small from_is power_is = omega (arith, ints, from_is, power_is)

-- some eighths of a window are less than one
pub eighths_are : (k e : ℕ) → k < 8 → e ≤ 52 → (k * 2048 * 2 ^ e + 2 ^ 66) % 2 ^ (e + 14) ≡ k * 2048 * 2 ^ e
eighths_are k e h small =
    let below : k * 2048 * 2 ^ e < 16384 * 2 ^ e = mul-lt-mul_of_pos_right (let p : k * 2048 < 16384 = omega arith in p) (pow_pos e) in
    raised-mod (k * 2048 * 2 ^ e) (e + 14) (omega arith) ∙ mod-eq_of_lt (omega (arith, size_is e))
