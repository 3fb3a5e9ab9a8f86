-- The closed forms of a word's bounds are the one answer of the relation.
use Rattle.std.proofs.Common.{◌≡◌, ℕ, ◌+◌, ◌-◌, ◌*◌, ◌/◌, ◌%◌, ◌^◌, ◌<◌, ◌≤◌, sym, ap, ◌∙◌, refl, inl, inr, arith}
use Rattle.std.proofs.{Common.{le-leb, mul-le-mul_left, nat_eq, nat_le, pow_pos, subst}, Math.Nat.{min-le_right, zero-mul}}
use Rattle.std.proofs.lemmas.Bool.{cases_lt, lt-leb, Decides.{eqb_tells, nat_tests}}
use Rattle.std.proofs.lemmas.Nat.{shl_whole, shl_below}
use Rattle.cap_word.specs.Fields.{ie_of, e_of, b_of, t_of, address_of}
use Rattle.cap_bounds.specs.Bounds.{window_start_at, IsResidue, IsMantissa, IsWindow, AreBounds, IsSound, span_at, span_of}
use Rattle.cap_bounds.specs.Bounds.{mantissa_of, cut_exponent_of, unit_of, window_size, raw_base_at, top_at, length_of}
use Rattle.cap_bounds.specs.{Bounds.{base_of, top_of}, Range.window_start}
use Rattle.cap_bounds.proofs.Mantissas.{span_at-lt, mantissa_is, span_of-mantissa_of, IsMantissa-mantissa_of}
use Rattle.cap_bounds.proofs.{Mantissas.IsMantissa-unique, Powers.{eighth_is, size_is, size-le, length-lt, pow_le}}
use Rattle.cap_bounds.proofs.{Residues.{IsResidue-unique, same_residue}, Windows.{start_below, end_above}}
use Rattle.cap_bounds.proofs.Windows.{start_aligned, raw_from_start, raw_above, raw_within, raw_residue, top_residue}

pub exponent-le : (w : ℕ) → cut_exponent_of w ≤ 52
exponent-le w = min-le_right (e_of w) 52

pub b_of-lt : (w : ℕ) → b_of w < 2 ^ 14
b_of-lt w = grind (arith, nat_tests)

pub t_of-lt : (w : ℕ) → t_of w < 2 ^ 12
t_of-lt w = grind (arith, nat_tests)

pub window_start_coded : (w e b a : ℕ) → e ≡ cut_exponent_of w → b ≡ b_of w → a ≡ address_of w → window_start_at e b a ≡ window_start w
unfolding window_start
window_start_coded w e b a e_is b_is a_is = rw (e_is, b_is, a_is) refl

module _ (e b a : ℕ) (he : e ≤ 52) (hb : b < 2 ^ 14) where
  high : 2 ^ (e + 14) ≤ a + 2 ^ 66
  high = omega (arith, size-le e he)

  pub window_start_at-le : window_start_at e b a ≤ a + 2 ^ 66
  window_start_at-le = start_below (2 ^ e) (2 ^ (e + 11)) (2 ^ (e + 14)) b (a + 2 ^ 66) (pow_pos e) (eighth_is e) (size_is e) hb high

  pub window_start_at-gt : a + 2 ^ 66 < window_start_at e b a + 2 ^ (e + 14)
  window_start_at-gt = end_above (2 ^ e) (2 ^ (e + 11)) (2 ^ (e + 14)) b (a + 2 ^ 66) (pow_pos e) (eighth_is e) (size_is e) hb high

  pub window_start_at-mod : window_start_at e b a % 2 ^ (e + 14) ≡ (b / 2 ^ 11 + 7) % 8 * 2 ^ 11 * 2 ^ e
  window_start_at-mod = start_aligned (2 ^ e) (2 ^ (e + 11)) (2 ^ (e + 14)) b (a + 2 ^ 66) (pow_pos e) (eighth_is e) (size_is e) hb high

  pub raw_base_from_start : raw_base_at e b a ≡ window_start_at e b a + (2048 + b % 2048) * 2 ^ e
  unfolding raw_base_at
  raw_base_from_start = raw_from_start (2 ^ e) (2 ^ (e + 11)) (2 ^ (e + 14)) b (a + 2 ^ 66) (pow_pos e) (eighth_is e) (size_is e) hb high

  pub raw_base_at-ge : window_start_at e b a + 2 ^ 11 * 2 ^ e ≤ raw_base_at e b a
  unfolding raw_base_at
  raw_base_at-ge = raw_above (2 ^ e) (2 ^ (e + 11)) (2 ^ (e + 14)) b (a + 2 ^ 66) (pow_pos e) (eighth_is e) (size_is e) hb high

  pub raw_top-lt : (d : ℕ) → d < 2 ^ 13 → raw_base_at e b a + d * 2 ^ e + 2 ^ 12 * 2 ^ e < window_start_at e b a + 2 ^ (e + 14)
  unfolding raw_base_at
  raw_top-lt d hd = raw_within (2 ^ e) (2 ^ (e + 11)) (2 ^ (e + 14)) b (a + 2 ^ 66) (pow_pos e) (eighth_is e) (size_is e) hb high d hd

  pub raw_base_at-residue : IsResidue (window_start_at e b a) (2 ^ (e + 14)) (b * 2 ^ e) (raw_base_at e b a)
  unfolding raw_base_at
  raw_base_at-residue = record {
    from = omega (arith, raw_base_at-ge);
    below = omega (arith, raw_top-lt 0 (omega arith));
    congruent = raw_residue (2 ^ e) (2 ^ (e + 11)) (2 ^ (e + 14)) b (a + 2 ^ 66) (pow_pos e) (eighth_is e) (size_is e) hb high b;
  }

  pub raw_top_at-residue : (d : ℕ) → d < 2 ^ 13
      → IsResidue (window_start_at e b a) (2 ^ (e + 14)) ((b + d) % 2 ^ 14 * 2 ^ e) (raw_base_at e b a + d * 2 ^ e)
  unfolding raw_base_at
  raw_top_at-residue d hd = record {
    from = omega (arith, raw_base_at-ge);
    below = omega (arith, raw_top-lt d hd);
    congruent = top_residue (2 ^ e) (2 ^ (e + 11)) (2 ^ (e + 14)) b (a + 2 ^ 66) (pow_pos e) (eighth_is e) (size_is e) hb high d;
  }

pub top_at-corrected : (e raw length : ℕ) → e ≤ 50 → top_at e raw length ≡ raw % 2 ^ 64 + length
unfolding top_at
top_at-corrected e raw length h = grind (arith, nat_tests)

pub top_at-uncorrected : (e raw length : ℕ) → 51 ≤ e → top_at e raw length ≡ (raw + length) % 2 ^ 65
unfolding top_at
top_at-uncorrected e raw length h = grind (arith, nat_tests)

-- the length of a word is its span in units
pub length_is : (w : ℕ) → length_of w ≡ span_at (b_of w) (t_of w) (ie_of w) * unit_of w
unfolding length_of
length_is w = refl

-- a sound word's bounds hold no address where its span is 0
pub empty_is : (w span : ℕ) → span ≡ span_at (b_of w) (t_of w) (ie_of w) → IsSound w → nat_eq span 0 ≡ nat_le (top_of w) (base_of w)
empty_is w span is sound =
    let long = length_is w ∙ ap (λ (x : ℕ). x * unit_of w) (sym is) in
    elim (eqb_tells span 0) [
      | inl none ↦
          let nothing = long ∙ ap (λ (x : ℕ). x * unit_of w) none.1 ∙ zero-mul (unit_of w) in
          none.0 ∙ sym (le-leb (top_of w) (base_of w) (omega (arith, sound.0, nothing)))
      | inr some ↦
          let more = mul-le-mul_left span (pow_pos (cut_exponent_of w)) in
          some.0 ∙ sym (lt-leb (top_of w) (base_of w) (omega (arith, sound.0, long, more, some.1)))
    ]

-- and that is how far its mantissas lie apart
pub length_of-mantissa : (w mantissa : ℕ) → IsMantissa (b_of w) (t_of w) (ie_of w) mantissa
    → length_of w ≡ span_of (b_of w) mantissa * unit_of w
unfolding length_of
length_of-mantissa w mantissa is =
    ap (λ (x : ℕ). x * unit_of w) (sym (span_of-mantissa_of (b_of w) (t_of w) (ie_of w) (b_of-lt w))
    ∙ ap (span_of (b_of w)) (sym (IsMantissa-unique (b_of w) (t_of w) (ie_of w) mantissa (b_of-lt w) is)))

pub IsWindow-window_start : (w : ℕ) → IsWindow w (window_start w)
unfolding window_start
IsWindow-window_start w = record {
  begins = window_start_at-le (cut_exponent_of w) (b_of w) (address_of w) (exponent-le w) (b_of-lt w);
  ends = window_start_at-gt (cut_exponent_of w) (b_of w) (address_of w) (exponent-le w) (b_of-lt w);
  aligned = window_start_at-mod (cut_exponent_of w) (b_of w) (address_of w) (exponent-le w) (b_of-lt w);
}

pub IsWindow-unique : (w start : ℕ) → IsWindow w start → start ≡ window_start w
IsWindow-unique w start h =
    let g = IsWindow-window_start w in
    let size : 0 < window_size w = pow_pos (cut_exponent_of w + 14) in
    same_residue (window_size w) start (window_start w) (address_of w + 2 ^ 66 + 1 - window_size w) (h.aligned ∙ sym g.aligned)
    (omega (arith, h.ends)) (omega (arith, h.begins)) (omega (arith, g.ends)) (omega (arith, g.begins))

-- the raw top of a word, in closed form
abbrev raw_top_of : ℕ → ℕ
raw_top_of w = raw_base_at (cut_exponent_of w) (b_of w) (address_of w) + span_at (b_of w) (t_of w) (ie_of w) * unit_of w

raw_base_of-residue : (w : ℕ)
    → IsResidue (window_start w) (window_size w) (b_of w * unit_of w) (raw_base_at (cut_exponent_of w) (b_of w) (address_of w))
unfolding window_start
raw_base_of-residue w = raw_base_at-residue (cut_exponent_of w) (b_of w) (address_of w) (exponent-le w) (b_of-lt w)

raw_top_of-residue : (w : ℕ)
    → IsResidue (window_start w) (window_size w) (mantissa_of (b_of w) (t_of w) (ie_of w) * unit_of w) (raw_top_of w)
unfolding window_start
raw_top_of-residue w =
    subst (λ (x : ℕ). IsResidue (window_start w) (window_size w) (x * unit_of w) (raw_top_of w))
    (sym (mantissa_is (b_of w) (t_of w) (ie_of w)))
    (raw_top_at-residue (cut_exponent_of w) (b_of w) (address_of w) (exponent-le w) (b_of-lt w) (span_at (b_of w) (t_of w) (ie_of w))
    (span_at-lt (b_of w) (t_of w) (ie_of w)))

-- the top of a word follows its base up to exponent 50
pub top_of-corrected : (w : ℕ) → cut_exponent_of w ≤ 50 → top_of w ≡ base_of w + length_of w
unfolding top_of base_of
top_of-corrected w h = top_at-corrected (cut_exponent_of w) (raw_base_at (cut_exponent_of w) (b_of w) (address_of w)) (length_of w) h

-- and is the raw top cut to 65 bits from exponent 51 on
top_of-uncorrected : (w : ℕ) → 51 ≤ cut_exponent_of w → top_of w ≡ raw_top_of w % 2 ^ 65
unfolding top_of
top_of-uncorrected w h =
    top_at-uncorrected (cut_exponent_of w) (raw_base_at (cut_exponent_of w) (b_of w) (address_of w)) (length_of w) h
    ∙ ap (λ (x : ℕ). (raw_base_at (cut_exponent_of w) (b_of w) (address_of w) + x) % 2 ^ 65) (length_is w)

pub length_of-lt : (w : ℕ) → cut_exponent_of w ≤ 50 → length_of w < 2 ^ 63
length_of-lt w h = omega
    (arith, length_is w, length-lt (cut_exponent_of w) (span_at (b_of w) (t_of w) (ie_of w)) h (span_at-lt (b_of w) (t_of w) (ie_of w)))

top_near : (raw length : ℕ) → length < 2 ^ 63 → IsResidue (raw % 2 ^ 64) (2 ^ 64) (raw + length) (raw % 2 ^ 64 + length)
top_near raw length h = record { from = omega arith; below = omega arith; congruent = omega arith }

top_of-residue : (w : ℕ) → cut_exponent_of w ≤ 50 → IsResidue (base_of w) (2 ^ 64) (raw_top_of w) (top_of w)
unfolding base_of
top_of-residue w h =
    subst (λ (x : ℕ). IsResidue (base_of w) (2 ^ 64) (raw_top_of w) x) (sym (top_of-corrected w h))
    (subst (λ (x : ℕ). IsResidue (base_of w) (2 ^ 64) (raw_base_at (cut_exponent_of w) (b_of w) (address_of w) + x)
    (base_of w + length_of w)) (length_is w)
    (top_near (raw_base_at (cut_exponent_of w) (b_of w) (address_of w)) (length_of w) (length_of-lt w h)))

-- the bounds of a word are the closed forms
pub AreBounds-exists : (w : ℕ) → AreBounds w (base_of w) (top_of w)
unfolding base_of
AreBounds-exists w = record {
  mantissa = mantissa_of (b_of w) (t_of w) (ie_of w);
  first = window_start w;
  raw_base = raw_base_at (cut_exponent_of w) (b_of w) (address_of w);
  raw_top = raw_top_of w;
  mantissa_is = IsMantissa-mantissa_of (b_of w) (t_of w) (ie_of w) (b_of-lt w) (t_of-lt w);
  window = IsWindow-window_start w;
  raw_base_is = raw_base_of-residue w;
  raw_top_is = raw_top_of-residue w;
  base_is = refl;
  corrected_top = top_of-residue w;
  uncorrected_top = top_of-uncorrected w;
}

-- and no others
pub AreBounds-unique : (w base top : ℕ) → AreBounds w base top → (base ≡ base_of w) × (top ≡ top_of w)
unfolding base_of
AreBounds-unique w base top h =
    let mantissa : h.mantissa
    ≡ mantissa_of (b_of w) (t_of w) (ie_of w) = IsMantissa-unique (b_of w) (t_of w) (ie_of w) h.mantissa (b_of-lt w) h.mantissa_is in
    let start : h.first ≡ window_start w = IsWindow-unique w h.first h.window in
    let raw_base : h.raw_base ≡ raw_base_at (cut_exponent_of w) (b_of w) (address_of w) =
    IsResidue-unique (window_start w) (window_size w) (b_of w * unit_of w) h.raw_base _
    (subst (λ (x : ℕ). IsResidue x (window_size w) (b_of w * unit_of w) h.raw_base) start h.raw_base_is) (raw_base_of-residue w) in
    let raw_top : h.raw_top ≡ raw_top_of w =
    IsResidue-unique (window_start w) (window_size w) (mantissa_of (b_of w) (t_of w) (ie_of w) * unit_of w) h.raw_top _
    (subst (λ (x : ℕ). IsResidue x (window_size w) (mantissa_of (b_of w) (t_of w) (ie_of w) * unit_of w) h.raw_top) start
    (subst (λ (x : ℕ). IsResidue h.first (window_size w) (x * unit_of w) h.raw_top) mantissa h.raw_top_is)) (raw_top_of-residue w) in
    let base_is : base ≡ base_of w = h.base_is ∙ ap (λ (x : ℕ). x % 2 ^ 64) raw_base in (
      base_is,
      elim (cases_lt 50 (cut_exponent_of w)) [
        | inl far ↦ h.uncorrected_top far ∙ ap (λ (x : ℕ). x % 2 ^ 65) raw_top ∙ sym (top_of-uncorrected w far)
        | inr near ↦ IsResidue-unique (base_of w) (2 ^ 64) (raw_top_of w) top (top_of w)
            (subst (λ (x : ℕ). IsResidue x (2 ^ 64) (raw_top_of w) top) base_is
            (subst (λ (x : ℕ). IsResidue base (2 ^ 64) x top) raw_top (h.corrected_top near))) (top_of-residue w near)
      ],
    )

-- what the code computes: its shifts lose nothing
pub length_shifted : (e d : ℕ) → e ≤ 52 → d < 2 ^ 13 → d * 2 ^ e % 2 ^ 128 ≡ d * 2 ^ e
length_shifted e d he hd = shl_whole d 13 e 128 hd (omega arith)

pub length_at-lt : (e d : ℕ) → e ≤ 52 → d < 2 ^ 13 → d * 2 ^ e < 2 ^ 65
length_at-lt e d he hd = omega (arith, shl_below d 13 e hd, pow_le (13 + e) 65 (omega arith))

-- the bounds and the length of a word, from what it decodes to
pub decoded : (w e b d a : ℕ) → e ≡ cut_exponent_of w → b ≡ b_of w → d ≡ span_at (b_of w) (t_of w) (ie_of w) → a ≡ address_of w
    → (raw_base_at e b a % 2 ^ 64 ≡ base_of w) × (d * 2 ^ e ≡ length_of w) × (top_at e (raw_base_at e b a) (d * 2 ^ e) ≡ top_of w)
unfolding base_of top_of length_of
decoded w e b d a e_is b_is d_is a_is = rw (e_is, b_is, d_is, a_is) (refl, refl, refl)

-- a base has 64 bits, and a top 65
pub base_of-lt : (w : ℕ) → base_of w < 2 ^ 64
unfolding base_of
base_of-lt w = omega arith

pub top_of-lt : (w : ℕ) → top_of w < 2 ^ 65
top_of-lt w = elim (cases_lt 50 (cut_exponent_of w)) [
  | inl far ↦ omega (arith, top_of-uncorrected w far)
  | inr near ↦ omega (arith, top_of-corrected w near, base_of-lt w, length_of-lt w near)
]
