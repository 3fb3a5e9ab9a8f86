use Rattle.std.proofs.Common.{refl, ◌≡◌, ℕ, ◌/◌, ◌%◌, ◌+◌, ◌*◌, ◌∷◌, [], arith}
use Rattle.std.specs.{Int.bytes_high_first, Prelude.{bit_and, codes}}
use Rattle.cap_word.proofs.WritingLemmas.{lanes-are}
use Rattle.cap_word.proofs.digits.number_text.Goals as goal

-- a list of eight, element by element
row8 : (a b c d e f g h a' b' c' d' e' f' g' h' : ℕ) → a ≡ a' → b ≡ b' → c ≡ c' → d ≡ d' → e ≡ e' → f ≡ f' → g ≡ g' → h ≡ h'
    → (a ∷ b ∷ c ∷ d ∷ e ∷ f ∷ g ∷ h ∷ []) ≡ (a' ∷ b' ∷ c' ∷ d' ∷ e' ∷ f' ∷ g' ∷ h' ∷ [])
row8 a b c d e f g h a' b' c' d' e' f' g' h' i j k l m n o p = rw (i, j, k, l, m, n, o, p) refl

bytes : (n : ℕ) → ((n + 18446744073709551616 * 0) / 256 / 256 / 256 / 256 / 256 / 256 / 256 % 256
    ∷ (n + 18446744073709551616 * 0) / 256 / 256 / 256 / 256 / 256 / 256 % 256
    ∷ (n + 18446744073709551616 * 0) / 256 / 256 / 256 / 256 / 256 % 256
    ∷ (n + 18446744073709551616 * 0) / 256 / 256 / 256 / 256 % 256
    ∷ (n + 18446744073709551616 * 0) / 256 / 256 / 256 % 256
    ∷ (n + 18446744073709551616 * 0) / 256 / 256 % 256
    ∷ (n + 18446744073709551616 * 0) / 256 % 256
    ∷ (n + 18446744073709551616 * 0) % 256 ∷ []) ≡ bytes_high_first 8 n
bytes n = row8 _ _ _ _ _ _ _ _ _ _ _ _ _ _ _ _ (omega arith) (omega arith) (omega arith) (omega arith) (omega arith) (omega arith) (omega arith) (omega arith)

pub returns : goal.returns
returns c = record {
  digits = lanes-are (λ a k. a / 16) bit_and 4 15 (codes "0123456789abcdef") refl refl c.args.number _ (bytes c.args.number);
}
