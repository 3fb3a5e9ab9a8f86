-- What is derived stays within its source.
use Rattle.std.proofs.Common.{◌≡◌, ◌==◌, ◌+◌, ◌-◌, ◌*◌, ◌/◌, ◌%◌, ◌^◌, ℕ, Bool, true, false, if◌then◌else◌, bit_and, eqb-true, min, nat_le, ◌||◌, ◌⊎◌, inl, inr}
use Rattle.std.proofs.{Common.{sym, ap, refl, subst, ◌∙◌, arith, shr-shr}, Math.Path.fun_ext}
use Rattle.std.proofs.lemmas.Bool.{and_parts}
use Rattle.cap_word.specs.{declared.word.{Cap.Cap, Word.Word}, Fields.address_of}
use Rattle.cap_bounds.specs.Bounds.{IsSound, base_of, length_of, raw_base_at, span_at, top_at, top_of}
use Rattle.cap_ops.specs.Authority.{ReachesNoMore, StaysWithin}
use Rattle.cap_ops.specs.{DerivedWords.{is_opened, reaches_no_more}, Operations.covers, Permissions.{perm_view_of, unsealed_type, with_type}}
use Rattle.cap_ops.proofs.PermissionLemmas.{IsFewer, IsFewer-masked, IsFewer-same}
use Rattle.cap_ops.proofs.ReachLemmas.{ReachesNoMore-same, ReachesNoMore-trans, no_more_low}
use Rattle.cap_ops.proofs.{ReplacedFields.{perms_of-with_type, with_type-low}, TestLemmas.IsInside-covers}

pub derived_within : (source : Cap) (word : Word) → source.tag ≡ true → IsSound word.0 → reaches_no_more word.0 source.word.0 ≡ true
    → StaysWithin (record { tag = true; word = word }) source
derived_within source word tagged sound reaches =
    let w = word.0 in
    let s = source.word.0 in
    let both = and_parts (covers s (base_of w) (top_of w)) (bit_and (perm_view_of s) (perm_view_of w) == perm_view_of w) reaches in
    record {
      from_tagged = λ _. tagged;
      no_more = λ _ _. record {
        inside = IsInside-covers s (base_of w) (top_of w) both.0;
        fewer = IsFewer-masked w s (perm_view_of w) (sym (eqb-true (bit_and (perm_view_of s) (perm_view_of w)) (perm_view_of w) both.1));
      };
      sound = λ _ _. sound;
    }

-- a word at an address with bit 0 cleared has the same bounds: they depend on the address above its low eleven bits alone
abbrev pub even : ℕ → ℕ
even w = w - w % 2

even_shifted : (x k : ℕ) → even x / 2 ^ (1 + k) ≡ x / 2 ^ (1 + k)
even_shifted x k =
    let halves : even x / 2 ^ 1 ≡ x / 2 ^ 1 = omega arith in
    sym (shr-shr (even x) 1 k) ∙ ap (λ (n : ℕ). n / 2 ^ k) halves ∙ shr-shr x 1 k

-- the blocks of 2 ^ (e + 11) addresses that an address lies in, by e
abbrev pub blocks_of : ℕ → ℕ → ℕ
blocks_of w e = (address_of w + 2 ^ 66) / 2 ^ (e + 11)

even_blocks : (w : ℕ) → blocks_of (even w) ≡ blocks_of w
even_blocks w = fun_ext (λ e.
    let x = address_of w + 2 ^ 66 in
    let x_is : address_of (even w) + 2 ^ 66 ≡ even x = omega arith in
    let k_is : 1 + (e + 10) ≡ e + 11 = omega arith in
    ap (λ (n : ℕ). n / 2 ^ (e + 11)) x_is
    ∙ subst (λ (k : ℕ). even x / 2 ^ k ≡ x / 2 ^ k) k_is (even_shifted x (e + 10)))

-- what depends on the fields above the address and on the blocks
even_same : {A : Type 0} (told : ℕ → ℕ → ℕ → (ℕ → ℕ) → A) (w : ℕ)
    → told (even w / 2 ^ 90) (even w / 2 ^ 78) (even w / 2 ^ 64) (blocks_of (even w)) ≡ told (w / 2 ^ 90) (w / 2 ^ 78) (w / 2 ^ 64) (blocks_of w)
even_same told w =
    let ie : even w / 2 ^ 90 ≡ w / 2 ^ 90 = omega arith in
    let t : even w / 2 ^ 78 ≡ w / 2 ^ 78 = omega arith in
    let b : even w / 2 ^ 64 ≡ w / 2 ^ 64 = omega arith in
    ap (λ (x : ℕ). told x (even w / 2 ^ 78) (even w / 2 ^ 64) (blocks_of (even w))) ie
    ∙ ap (λ (x : ℕ). told (w / 2 ^ 90) x (even w / 2 ^ 64) (blocks_of (even w))) t
    ∙ ap (λ (x : ℕ). told (w / 2 ^ 90) (w / 2 ^ 78) x (blocks_of (even w))) b
    ∙ ap (told (w / 2 ^ 90) (w / 2 ^ 78) (w / 2 ^ 64)) (even_blocks w)

-- the cut exponent, B, the low bits of T and IE, of the shifted words
abbrev pub cut_at : ℕ → ℕ → ℕ → ℕ
cut_at ie t b = min (if ie % 2 == 1 then t % 2 ^ 12 % 8 * 8 + b % 2 ^ 14 % 8 else 0) 52

abbrev pub b_at : ℕ → ℕ → ℕ
b_at ie b = if ie % 2 == 1 then b % 2 ^ 14 / 8 * 8 else b % 2 ^ 14

abbrev pub length_at : ℕ → ℕ → ℕ → ℕ
length_at ie t b =
    span_at (b_at ie b) (if ie % 2 == 1 then t % 2 ^ 12 / 8 * 8 else t % 2 ^ 12) (ie % 2 == 1) * 2 ^ cut_at ie t b

abbrev pub raw_at : ℕ → ℕ → ℕ → (ℕ → ℕ) → ℕ
raw_at ie t b blocks =
    (2 ^ 14 * ((blocks (cut_at ie t b) + 1 - b_at ie b / 2 ^ 11) / 8) + b_at ie b) * 2 ^ cut_at ie t b

even-base : (w : ℕ) → base_of (even w) ≡ base_of w
unfolding base_of raw_base_at
even-base w = even_same (λ ie t b blocks. raw_at ie t b blocks % 2 ^ 64) w

even-length : (w : ℕ) → length_of (even w) ≡ length_of w
unfolding length_of
even-length w = even_same (λ ie t b blocks. length_at ie t b) w

even-top : (w : ℕ) → top_of (even w) ≡ top_of w
unfolding top_of raw_base_at length_of top_at
even-top w = even_same (λ ie t b blocks.
    if nat_le (cut_at ie t b) 50 then raw_at ie t b blocks % 2 ^ 64 + length_at ie t b else (raw_at ie t b blocks + length_at ie t b) % 2 ^ 65) w

even-fewer : (w : ℕ) → IsFewer (even w) w
even-fewer w = IsFewer-same (even w) w (ap (λ (n : ℕ). n % 2 ^ 16) (let e : even w / 2 ^ 112 ≡ w / 2 ^ 112 = omega arith in e))

or_parts : (a b : Bool) → (a || b) ≡ true → (a ≡ true) ⊎ (b ≡ true)
or_parts true b is = inl refl
or_parts false b is = inr is

-- a word without its seal stays within it
open_within : (source word : ℕ) → word ≡ with_type source unsealed_type → IsSound source → ReachesNoMore word source × IsSound word
open_within source word is sound =
    subst (λ (w : ℕ). ReachesNoMore w source × IsSound w) (sym is)
    (no_more_low (with_type source unsealed_type) source (with_type-low source unsealed_type)
    (IsFewer-same (with_type source unsealed_type) source (perms_of-with_type source unsealed_type (omega arith))) sound)

pub opened_within : (source word : ℕ) → is_opened source word ≡ true → IsSound source → ReachesNoMore word source × IsSound word
opened_within source word is sound =
    let open_word = with_type source unsealed_type in
    let reach = open_within source open_word refl sound in
    elim (or_parts (word == open_word) (word == open_word - open_word % 2) is) [
      | inl whole ↦ open_within source word (eqb-true word open_word whole) sound
      | inr cut ↦
          let word_is : even open_word ≡ word = sym (eqb-true word (even open_word) cut) in
          subst (λ (w : ℕ). ReachesNoMore w source × IsSound w) word_is (
            ReachesNoMore-trans (even open_word) open_word source
                (ReachesNoMore-same (even open_word) open_word (even-base open_word) (even-top open_word) (even-fewer open_word)) reach.0,
            (
                let base = even-base open_word in
                let length = even-length open_word in
                let top = even-top open_word in
                (omega (arith, reach.1, base, length, top), omega (arith, reach.1, top))
                ),
          )
    ]

pub stays_by : (source : Cap) (word : Word) → source.tag ≡ true → (IsSound source.word.0 → ReachesNoMore word.0 source.word.0 × IsSound word.0)
    → StaysWithin (record { tag = true; word = word }) source
stays_by source word tagged reach = record {
  from_tagged = λ _. tagged;
  no_more = λ _ sound. (reach sound).0;
  sound = λ _ sound. (reach sound).1;
}

pub code_within : (source : Cap) (word : Word) → source.tag ≡ true → is_opened source.word.0 word.0 ≡ true
    → StaysWithin (record { tag = true; word = word }) source
code_within source word tagged is = stays_by source word tagged (opened_within source.word.0 word.0 is)

pub data_within : (source : Cap) (word : Word) → source.tag ≡ true → (word.0 == with_type source.word.0 unsealed_type) ≡ true
    → StaysWithin (record { tag = true; word = word }) source
data_within source word tagged is = stays_by source word tagged (open_within source.word.0 word.0 (eqb-true _ _ is))
