-- The operands of an order: what their digits spell, and which orders cannot be followed.
use Rattle.std.specs.Int.{bytes_high_first, from_be_bytes}
use Rattle.std.proofs.Common.{◌≡◌, Bool, true, false, ℕ, ◌+◌, ◌*◌, ◌^◌, ◌<◌, ◌≤◌, List, length, Ok, refl, sym, ap}
use Rattle.std.proofs.{Common.{subst, ◌∙◌, arith, w64}, lemmas.Nat.from_be_bytes-to_be_bytes_8}
use Rattle.hex.specs.Hex.{decode_sized}
use Rattle.hex.proofs.HexLemmas.{decode_sized-encode_lower}
use Rattle.cap_word.specs.Digits.{hex_digits}
use Rattle.cap_word.proofs.{DigitLemmas.{hex_of_bytes, IsBytes-bytes_high_first}, TextLemmas.length-bytes}
use Rattle.cap_texts.proofs.MemoryTexts.{spelled_memory}
use Rattle.cap_program.specs.declared.faults.Fault.{Fault, TheVariants.{BadWord, BadRequest}}
use Rattle.cap_program.specs.{Faults.status_of}
use Rattle.capcheck.specs.Operands.{SpellsRequest, RefusesRequest, SpellsWord}

-- the digits of a number, decoded
decoded : (k n : ℕ) → decode_sized (hex_digits (2 * k) n) k ≡ Ok (bytes_high_first k n)
decoded k n =
    subst (λ (text : List ℕ). decode_sized text k ≡ Ok (bytes_high_first k n)) (hex_of_bytes k n)
    (decode_sized-encode_lower (bytes_high_first k n) k (length-bytes k n) (IsBytes-bytes_high_first k n))

-- digits spell one number of 64 bits
one_number : (text : List ℕ) (m n : ℕ) → m < 2 ^ 64 → n < 2 ^ 64 → text ≡ hex_digits 16 m → text ≡ hex_digits 16 n → m ≡ n
one_number text m n m_fits n_fits is_m is_n =
    let same : bytes_high_first 8 m ≡ bytes_high_first 8 n =
    (let left = decoded 8 m in let right = decoded 8 n in let both = ap (λ (t : List ℕ). decode_sized t 8) (sym is_m ∙ is_n) in cc) in
    sym (from_be_bytes-to_be_bytes_8 m m_fits) ∙ ap (from_be_bytes w64) same ∙ from_be_bytes-to_be_bytes_8 n n_fits

-- where two words are refused as a request, the status is 2
pub refused_status : (base_word length_word : List ℕ) (fault : Fault) → RefusesRequest base_word length_word fault → status_of fault ≡ 2
refused_status base_word length_word BadWord none = refl
refused_status base_word length_word BadRequest above = refl
refused_status base_word length_word fault impossible = absurd impossible

-- where two words are refused as a request, the status is that of an order that cannot be followed
pub refused_request : (base_word length_word : List ℕ) (fault : Fault) → RefusesRequest base_word length_word fault
    → (status_of fault ≡ 2 → (base length : ℕ) → SpellsRequest base_word length_word base length → base + length ≤ 2 ^ 64 → ⊥)
    × (((base length : ℕ) → SpellsRequest base_word length_word base length → base + length ≤ 2 ^ 64 → ⊥) → status_of fault ≡ 2)
refused_request base_word length_word BadWord none = (λ two base length spelled fits. none base length spelled, λ faulty. refl)
refused_request base_word length_word BadRequest (base, length, spelled, above) = (
  λ two other_base other_length other fits.
      let bases = one_number base_word base other_base spelled.base_fits other.base_fits spelled.base_is other.base_is in
      let lengths = one_number length_word length other_length spelled.length_fits other.length_fits spelled.length_is other.length_is in
      omega arith,
  λ faulty. refl,
)
refused_request base_word length_word fault impossible = absurd impossible

-- a text that isn't the digits of a number of 128 bits spells no word, in neither way
pub no_word : (memory : Bool) (text : List ℕ) → ((n : ℕ) → n < 2 ^ 128 → text ≡ hex_digits 32 n → ⊥) → (w : ℕ) → w < 2 ^ 128
    → SpellsWord memory text w → ⊥
no_word false text none w fits spelled = none w fits spelled
no_word true text none w fits spelled = let number = spelled_memory w in none number.0 number.1 (spelled ∙ number.2)
