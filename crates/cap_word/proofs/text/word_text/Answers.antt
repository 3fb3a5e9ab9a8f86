use Rattle.std.proofs.Common.{◌≡◌, ℕ, ◌++◌, ◌/◌, ◌%◌, ◌^◌, [], List, length, drop, ◌∙◌, ap, sym, refl, take_at, drop_at}
use Rattle.std.proofs.Common.{append-nil}
use borrow.Rule.Slice.PartMut.{put_mid}
use Rattle.cap_word.specs.Digits.{hex_digits}
use Rattle.cap_word.proofs.ReadingLemmas.{hex_digits-halves}
use Rattle.cap_word.proofs.text.word_text.Goals as goal

-- a text whose second half was written behind its first
two_halves : (n : ℕ) (a b zs : List ℕ) → length a ≡ 16 → drop 16 zs ≡ [] → a ≡ hex_digits 16 (n / 2 ^ 64)
    → b ≡ hex_digits 16 (n % 2 ^ 64) → put_mid 16 16 (a ++ zs) b ≡ hex_digits 32 n
two_halves n a b zs long none high low =
    let put : put_mid 16 16 (a ++ zs) b ≡ a ++ b = rw (take_at a zs 16 long, drop_at a zs 16 long, none, append-nil b) refl in
    put ∙ ap (λ (x : List ℕ). x ++ b) high ∙ ap (λ (x : List ℕ). hex_digits 16 (n / 2 ^ 64) ++ x) low ∙ sym (hex_digits-halves n)

pub returns : goal.returns
returns c = record {
  digits = two_halves c.args.word.0 _ _ _ c.copy_from_slice.ensures.len refl
      (c.copy_from_slice.ensures.after ∙ c.number_text.ensures.digits)
      (c.copy_from_slice-2.ensures.after ∙ c.number_text-2.ensures.digits);
}
