-- Bounds that were found from the fields of a word are those of the word.
use Rattle.std.proofs.Common.{◌≡◌, ℕ, Bool, ◌+◌, ◌*◌, ◌/◌, ◌%◌, ◌^◌, ◌<◌, ◌≤◌, ap, ◌∙◌, ◌-◌, subst, sym}
use Rattle.cap_word.specs.Fields.{ie_of, b_of, t_of, address_of}
use Rattle.cap_bounds.specs.Bounds.{AreBounds, IsMantissa, IsResidue, cut_exponent_of, unit_of, length_of}
use Rattle.cap_bounds.proofs.Decoded.{length_of-mantissa}

-- the same as of a word, of its fields
pub record AreFound (e b t : ℕ) (ie : Bool) (address mantissa start raw_base raw_top base top : ℕ) : Type 0 where
  pub mantissa_is : IsMantissa b t ie mantissa
  pub begins : start ≤ address + 2 ^ 66
  pub ends : address + 2 ^ 66 < start + 2 ^ (e + 14)
  pub aligned : start % 2 ^ (e + 14) ≡ (b / 2 ^ 11 + 7) % 8 * 2 ^ 11 * 2 ^ e
  pub raw_base_is : IsResidue start (2 ^ (e + 14)) (b * 2 ^ e) raw_base
  pub raw_top_is : IsResidue start (2 ^ (e + 14)) (mantissa * 2 ^ e) raw_top
  pub base_is : base ≡ raw_base % 2 ^ 64
  pub corrected_top : e ≤ 50 → IsResidue base (2 ^ 64) raw_top top
  pub uncorrected_top : 51 ≤ e → top ≡ raw_top % 2 ^ 65

module _ (w e b t : ℕ) (ie : Bool) (address : ℕ) (mantissa start raw_base raw_top base top : ℕ) (e_is : e ≡ cut_exponent_of w)
    (b_is : b ≡ b_of w) (t_is : t ≡ t_of w) (ie_is : ie ≡ ie_of w) (address_is : address ≡ address_of w)
    (found : AreFound e b t ie address mantissa start raw_base raw_top base top) where
  of_word : AreFound (cut_exponent_of w) (b_of w) (t_of w) (ie_of w) (address_of w) mantissa start raw_base raw_top base top
  of_word =
      subst (λ (x : ℕ). AreFound (cut_exponent_of w) (b_of w) (t_of w) (ie_of w) x mantissa start raw_base raw_top base top) address_is
      (subst (λ (x : Bool). AreFound (cut_exponent_of w) (b_of w) (t_of w) x address mantissa start raw_base raw_top base top) ie_is
      (subst (λ (x : ℕ). AreFound (cut_exponent_of w) (b_of w) x ie address mantissa start raw_base raw_top base top) t_is
      (subst (λ (x : ℕ). AreFound (cut_exponent_of w) x t ie address mantissa start raw_base raw_top base top) b_is
      (subst (λ (x : ℕ). AreFound x b t ie address mantissa start raw_base raw_top base top) e_is found))))

  pub found_bounds : AreBounds w base top
  found_bounds =
      let f = of_word in
      record {
        mantissa = mantissa;
        first = start;
        raw_base = raw_base;
        raw_top = raw_top;
        mantissa_is = f.mantissa_is;
        window = record { begins = f.begins; ends = f.ends; aligned = f.aligned };
        raw_base_is = f.raw_base_is;
        raw_top_is = f.raw_top_is;
        base_is = f.base_is;
        corrected_top = f.corrected_top;
        uncorrected_top = f.uncorrected_top;
      }

-- the length of a word, from its mantissa and exponent
pub length_found : (w e b t : ℕ) (ie : Bool) (mantissa : ℕ) → e ≡ cut_exponent_of w → b ≡ b_of w → t ≡ t_of w → ie ≡ ie_of w
    → IsMantissa b t ie mantissa → (mantissa + 2 ^ 14 - b) % 2 ^ 14 * 2 ^ e ≡ length_of w
length_found w e b t ie mantissa e_is b_is t_is ie_is is =
    let of_word : IsMantissa (b_of w) (t_of w) (ie_of w) mantissa =
    subst (λ (x : Bool). IsMantissa (b_of w) (t_of w) x mantissa) ie_is
    (subst (λ (x : ℕ). IsMantissa (b_of w) x ie mantissa) t_is (subst (λ (x : ℕ). IsMantissa x t ie mantissa) b_is is)) in
    ap (λ (x : ℕ). (mantissa + 2 ^ 14 - b) % 2 ^ 14 * 2 ^ x) e_is
    ∙ ap (λ (x : ℕ). (mantissa + 2 ^ 14 - x) % 2 ^ 14 * unit_of w) b_is
    ∙ sym (length_of-mantissa w mantissa of_word)
