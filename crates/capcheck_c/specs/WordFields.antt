-- The fields of a word as C has them (this profile's own).
use Rattle.std.specs.Prelude.{◌≡◌, ◌≢◌, ℕ, ◌<◌, ◌%◌, ◌^◌}
use Rattle.cap_word.specs.Fields.{perms_of, reserved_of, flag_of, otype_of, ie_of, e_of, b_of, t_of, address_of}
use Rattle.cap_word.specs.Fields.{joined_word}
use Rattle.cap_halves.specs.Passed.{is_set, whole_of}
use Rattle.capcheck_c.specs.declared.values.{OptionalWord.OptionalWord, WordFields.WordFields}

-- a word has these fields
pub record HasFields (w : ℕ) (fields : WordFields) : Type 0 where
  pub perms : perms_of w ≡ fields.perms
  pub reserved : reserved_of w ≡ fields.reserved
  pub flag : flag_of w ≡ is_set fields.flag
  pub otype : otype_of w ≡ fields.otype
  pub ie : ie_of w ≡ is_set fields.ie
  pub e : e_of w ≡ fields.e
  pub b : b_of w ≡ fields.b
  pub t : t_of w ≡ fields.t
  pub address : address_of w ≡ fields.address

-- the word that has these fields
abbrev pub joined_of : WordFields → ℕ
joined_of f = joined_word f.perms f.reserved (is_set f.flag) f.otype (is_set f.ie) f.e f.b f.t f.address

-- some word has these fields: each fits its width, without IE there is no exponent, and with it B and T
-- leave room for one
pub record AreFields (fields : WordFields) : Type 0 where
  pub reserved : fields.reserved < 2 ^ 2
  pub otype : fields.otype < 2 ^ 18
  pub e : fields.e < 2 ^ 6
  pub b : fields.b < 2 ^ 14
  pub t : fields.t < 2 ^ 12
  pub no_exponent : fields.ie ≡ 0 → fields.e ≡ 0
  pub b_aligned : fields.ie ≢ 0 → fields.b % 8 ≡ 0
  pub t_aligned : fields.ie ≢ 0 → fields.t % 8 ≡ 0

-- there is no word: the answer has none, and 0 in its place
pub record IsNoWord (answer : OptionalWord) : Type 0 where
  pub absent : answer.present ≡ 0
  pub zero : whole_of answer.word ≡ 0
