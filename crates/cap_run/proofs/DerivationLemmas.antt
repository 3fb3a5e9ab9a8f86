-- Words with the bounds and the permissions of a source that is sound: no check of a derivation refuses them.
use Rattle.std.proofs.Common.{◌≡◌, ◌⊎◌, inl, inr, ℕ, ◌+◌, ◌-◌, ◌*◌, ◌/◌, ◌%◌, ◌^◌, ◌<◌, ◌==◌, ◌||◌, ◌&&◌, not, Bool, true, false, None}
use Rattle.std.proofs.Common.{refl, sym, ap, ◌∙◌, arith, bit_and, eq-eqb, pow-add}
use Rattle.std.proofs.{Math.Nat.div-div-eq-div-mul, lemmas.Bool.{and_from, false≢true}}
use Rattle.std.specs.Int.Bits.{and_self}
use Rattle.cap_word.specs.{declared.word.{Cap.Cap, Word.Word}, Fields.{address_of, b_of, otype_of, perms_of}}
use Rattle.cap_bounds.specs.{Bounds.{IsSound, base_of, cut_exponent_of, length_of, raw_base_at, top_at, top_of}, Range.KeepsBounds}
use Rattle.cap_bounds.proofs.SameFields.{base_of-low, base_of-same, base_of-with_address, length_of-low, length_of-same, top_of-low, top_of-same, top_of-with_address}
use Rattle.cap_bounds.proofs.SoundTests.{is_sound-from}
use Rattle.cap_ops.specs.{Authority.StaysWithin, Checks.first_of, DerivedWords.{derive_checks, is_opened, keeps_seal, reaches_no_more, sentry_type}}
use Rattle.cap_ops.specs.{Operations.covers, Permissions.{is_sealed, perm_view_of, unsealed_type, with_type}}
use Rattle.cap_ops.proofs.{DerivedLemmas.derived_within, TestLemmas.covers-inside}
use Rattle.cap_run.specs.Moved.{IsMoved, IsOpenSentry}

-- a word with the bounds and the permissions of another
record IsAlike (s w : ℕ) : Type 0 where
  base : base_of w ≡ base_of s
  top : top_of w ≡ top_of s
  length : length_of w ≡ length_of s
  perms : perms_of w ≡ perms_of s

alike_sound : (s w : ℕ) → IsAlike s w → IsSound s → IsSound w
alike_sound s w alike sound = (omega (arith, alike.base, alike.top, alike.length, sound.0), omega (arith, alike.top, sound.1))

alike_view : (s w : ℕ) → IsAlike s w → perm_view_of w ≡ perm_view_of s
unfolding perm_view_of
alike_view s w alike = ap (λ (p : ℕ). p % 2 ^ 12 + p / 2 ^ 12 * 2 ^ 15) alike.perms

alike_reaches : (s w : ℕ) → IsAlike s w → reaches_no_more w s ≡ true
alike_reaches s w alike =
    let view = alike_view s w alike in
    and_from (covers s (base_of w) (top_of w)) (bit_and (perm_view_of s) (perm_view_of w) == perm_view_of w)
    (covers-inside s (base_of w) (top_of w) (omega (arith, alike.base), omega (arith, alike.top)))
    (eq-eqb (bit_and (perm_view_of s) (perm_view_of w)) (perm_view_of w)
    (ap (λ (v : ℕ). bit_and v (perm_view_of w)) (sym view) ∙ and_self (perm_view_of w)))

-- a moved word
module _ (s w : ℕ) (moved : IsMoved s w) where
  fields : w / 2 ^ 64 % 2 ^ 27 ≡ s / 2 ^ 64 % 2 ^ 27
  fields = elim moved.same [
    | inl same ↦ omega (arith, same)
    | inr same ↦ omega (arith, same)
  ]

  fits : address_of w < 2 ^ 64
  fits = omega arith

  types : (otype_of w ≡ unsealed_type) ⊎ (otype_of w ≡ sentry_type)
  types = elim moved.same [
    | inl same ↦ inl (omega (arith, same, moved.unsealed))
    | inr same ↦ inr (omega (arith, same, moved.unsealed))
  ]

  permissions : perms_of w ≡ perms_of s
  permissions = elim moved.same [
    | inl same ↦ omega (arith, same)
    | inr same ↦ omega (arith, same, moved.unsealed)
  ]

  moved_alike : IsAlike s w
  moved_alike = record {
    base = base_of-same w s fields ∙ sym (base_of-with_address s (address_of w) fits) ∙ moved.keeps.0;
    top = top_of-same w s fields ∙ sym (top_of-with_address s (address_of w) fits) ∙ moved.keeps.1;
    length = length_of-same w s fields;
    perms = permissions;
  }

  type_kept : ((otype_of w == unsealed_type) || (otype_of w == sentry_type)) ≡ true
  type_kept = elim types [
    | inl is ↦ rw (is) refl
    | inr is ↦ rw (is) refl
  ]

  moved_keeps : (opens : Bool) → keeps_seal s w opens ≡ true
  unfolding is_sealed
  moved_keeps opens = rw (moved.unsealed, type_kept) refl

-- an address of the same 2048 aligned bytes: it lies in the same window, whatever the unit is
same_units : (e a b : ℕ) → a / 2 ^ 11 ≡ b / 2 ^ 11 → (a + 2 ^ 66) / 2 ^ (e + 11) ≡ (b + 2 ^ 66) / 2 ^ (e + 11)
same_units e a b near =
    let split : 2 ^ (e + 11) ≡ 2 ^ 11 * 2 ^ e = ap (λ (n : ℕ). 2 ^ n) (let same : e + 11 ≡ 11 + e = omega arith in same) ∙ pow-add 2 11 e in
    let raised : (a + 2 ^ 66) / 2 ^ 11 ≡ (b + 2 ^ 66) / 2 ^ 11 = omega (arith, near) in
    ap (λ (d : ℕ). (a + 2 ^ 66) / d) split ∙ sym (div-div-eq-div-mul (a + 2 ^ 66) (2 ^ 11) (2 ^ e))
    ∙ ap (λ (n : ℕ). n / 2 ^ e) raised
    ∙ div-div-eq-div-mul (b + 2 ^ 66) (2 ^ 11) (2 ^ e) ∙ ap (λ (d : ℕ). (b + 2 ^ 66) / d) (sym split)

same_raw : (e b a s : ℕ) → a / 2 ^ 11 ≡ s / 2 ^ 11 → raw_base_at e b a ≡ raw_base_at e b s
unfolding raw_base_at
same_raw e b a s near = ap (λ (units : ℕ). (2 ^ 14 * ((units + 1 - b / 2 ^ 11) / 8) + b) * 2 ^ e) (same_units e a s near)

pub near_keeps : (s a : ℕ) → a < 2 ^ 64 → a / 2 ^ 11 ≡ address_of s / 2 ^ 11 → KeepsBounds s a
unfolding base_of top_of
near_keeps s a fits near =
    let same = same_raw (cut_exponent_of s) (b_of s) a (address_of s) near in (
      base_of-with_address s a fits ∙ ap (λ (raw : ℕ). raw % 2 ^ 64) same,
      top_of-with_address s a fits ∙ ap (λ (raw : ℕ). top_at (cut_exponent_of s) raw (length_of s)) same,
    )

-- the word itself
same_alike : (s w : ℕ) → w ≡ s → IsAlike s w
same_alike s w is = record { base = ap base_of is; top = ap top_of is; length = ap length_of is; perms = ap perms_of is }

same_keeps : (s w : ℕ) (opens : Bool) → w ≡ s → keeps_seal s w opens ≡ true
unfolding is_sealed
same_keeps s w opens is = rw is (by_type (otype_of s == unsealed_type) (otype_of s == sentry_type) (s == s) (opens && is_opened s s) (eq-eqb s s refl))
  where
    by_type : (unsealed sentry same opened : Bool) → same ≡ true
        → (((not (not unsealed) && (unsealed || sentry)) || (not unsealed && same)) || (sentry && opened)) ≡ true
    by_type true sentry same opened is = refl
    by_type false sentry true opened is = refl
    by_type false sentry false opened is = absurd (false≢true is)

or_true : (b : Bool) → (b || true) ≡ true
or_true true = refl
or_true false = refl

-- a sentry that is opened
module _ (s w : ℕ) (opened : IsOpenSentry s w) where
  low : w % 2 ^ 91 ≡ s % 2 ^ 91
  low = omega (arith, opened.word_is)

  opened_alike : IsAlike s w
  opened_alike = record {
    base = base_of-low w s low;
    top = top_of-low w s low;
    length = length_of-low w s low;
    perms = omega (arith, opened.word_is, opened.sentry);
  }

  open_is : w ≡ with_type s unsealed_type
  open_is = omega (arith, opened.word_is, opened.sentry)

  opened_keeps : keeps_seal s w true ≡ true
  unfolding is_sealed
  opened_keeps = rw (opened.sentry, eq-eqb w (with_type s unsealed_type) open_is) (or_true (w == s))

module _ (source : Cap) (word : Word) (opens : Bool) (tagged : source.tag ≡ true) (sound : IsSound source.word.0)
    (alike : IsAlike source.word.0 word.0) (keeps : keeps_seal source.word.0 word.0 opens ≡ true) where
  alike_passes : first_of (derive_checks source word.0 opens) ≡ None
  alike_passes =
      let is = sym (is_sound-from true word.0 (λ _. alike_sound source.word.0 word.0 alike sound, λ _. refl)) in
      let reaches = alike_reaches source.word.0 word.0 alike in
      rw (tagged, is, reaches, keeps) refl

  alike_within : StaysWithin (record { tag = true; word = word }) source
  alike_within = derived_within source word tagged (alike_sound source.word.0 word.0 alike sound) (alike_reaches source.word.0 word.0 alike)

pub moved_passes : (source : Cap) (word : Word) (opens : Bool) → source.tag ≡ true → IsSound source.word.0 → IsMoved source.word.0 word.0
    → (first_of (derive_checks source word.0 opens) ≡ None) × StaysWithin (record { tag = true; word = word }) source
moved_passes source word opens tagged sound moved =
    let alike = moved_alike source.word.0 word.0 moved in
    let keeps = moved_keeps source.word.0 word.0 moved opens in
    (alike_passes source word opens tagged sound alike keeps, alike_within source word opens tagged sound alike keeps)

pub opened_passes : (source : Cap) (word : Word) → source.tag ≡ true → IsSound source.word.0 → IsOpenSentry source.word.0 word.0
    → (first_of (derive_checks source word.0 true) ≡ None) × StaysWithin (record { tag = true; word = word }) source
opened_passes source word tagged sound opened =
    let alike = opened_alike source.word.0 word.0 opened in
    let keeps = opened_keeps source.word.0 word.0 opened in
    (alike_passes source word true tagged sound alike keeps, alike_within source word true tagged sound alike keeps)

pub same_passes : (source : Cap) (word : Word) (opens : Bool) → source.tag ≡ true → IsSound source.word.0 → word.0 ≡ source.word.0
    → (first_of (derive_checks source word.0 opens) ≡ None) × StaysWithin (record { tag = true; word = word }) source
same_passes source word opens tagged sound is =
    let alike = same_alike source.word.0 word.0 is in
    let keeps = same_keeps source.word.0 word.0 opens is in
    (alike_passes source word opens tagged sound alike keeps, alike_within source word opens tagged sound alike keeps)
