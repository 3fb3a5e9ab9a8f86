-- The lines of a text, one after another.
use Rattle.std.proofs.Common.{◌≡◌, ◌≢◌, ℕ, ◌+◌, ◌<◌, eqb, inl, inr, List, [], ◌∷◌, ◌++◌, length, take, get_or, refl, sym, ap, ◌∙◌}
use Rattle.std.proofs.Common.{append_assoc, append-nil}
use Rattle.std.proofs.lemmas.{Bool.{cond-true, cond-false, Decides.eqb_tells}, Grind.flat_map-append, List.take_more}
use Rattle.cap_json.specs.Words.{escaped, escaped_byte, in_first, lines_of, past, upto}

-- where the first byte ends the bytes, and where it doesn't
upto_here : (end byte : ℕ) (bytes : List ℕ) → byte ≡ end → upto end (byte ∷ bytes) ≡ []
unfolding upto
upto_here end byte bytes same = elim (eqb_tells byte end) [
  | inl is ↦ cond-true (eqb byte end) [] (byte ∷ upto end bytes) is.0
  | inr differ ↦ absurd (differ.1 same)
]

past_here : (end byte : ℕ) (bytes : List ℕ) → byte ≡ end → past end (byte ∷ bytes) ≡ bytes
unfolding past
past_here end byte bytes same = elim (eqb_tells byte end) [
  | inl is ↦ cond-true (eqb byte end) bytes (past end bytes) is.0
  | inr differ ↦ absurd (differ.1 same)
]

upto_more : (end byte : ℕ) (bytes : List ℕ) → byte ≢ end → upto end (byte ∷ bytes) ≡ byte ∷ upto end bytes
unfolding upto
upto_more end byte bytes other = elim (eqb_tells byte end) [
  | inl is ↦ absurd (other is.1)
  | inr differ ↦ cond-false (eqb byte end) [] (byte ∷ upto end bytes) differ.0
]

past_more : (end byte : ℕ) (bytes : List ℕ) → byte ≢ end → past end (byte ∷ bytes) ≡ past end bytes
unfolding past
past_more end byte bytes other = elim (eqb_tells byte end) [
  | inl is ↦ absurd (other is.1)
  | inr differ ↦ cond-false (eqb byte end) bytes (past end bytes) differ.0
]

-- the first line of a text, and the others
in_front : (byte : ℕ) (bytes : List ℕ) → byte ≢ 10 → (bytes ≢ [] → lines_of bytes ≡ upto 10 bytes ∷ lines_of (past 10 bytes))
    → in_first byte (lines_of bytes) ≡ upto 10 (byte ∷ bytes) ∷ lines_of (past 10 (byte ∷ bytes))
unfolding lines_of upto past
in_front byte [] other lines = ap (λ (line : List ℕ). line ∷ []) (sym (upto_more 10 byte [] other))
    ∙ ap (λ (rest : List ℕ). upto 10 (byte ∷ []) ∷ lines_of rest) (sym (past_more 10 byte [] other))
in_front byte (next ∷ bytes) other lines = ap (in_first byte) (lines (λ is. cc))
    ∙ ap (λ (line : List ℕ). line ∷ lines_of (past 10 (next ∷ bytes))) (sym (upto_more 10 byte (next ∷ bytes) other))
    ∙ ap (λ (rest : List ℕ). upto 10 (byte ∷ next ∷ bytes) ∷ lines_of rest) (sym (past_more 10 byte (next ∷ bytes) other))

pub first_line : (bytes : List ℕ) → bytes ≢ [] → lines_of bytes ≡ upto 10 bytes ∷ lines_of (past 10 bytes)
unfolding lines_of
first_line [] some = absurd (some refl)
first_line (byte ∷ bytes) some = elim (eqb_tells byte 10) [
  | inl is ↦ cond-true (eqb byte 10) ([] ∷ lines_of bytes) (in_first byte (lines_of bytes)) is.0
      ∙ ap (λ (line : List ℕ). line ∷ lines_of bytes) (sym (upto_here 10 byte bytes is.1))
      ∙ ap (λ (rest : List ℕ). upto 10 (byte ∷ bytes) ∷ lines_of rest) (sym (past_here 10 byte bytes is.1))
  | inr differ ↦ cond-false (eqb byte 10) ([] ∷ lines_of bytes) (in_first byte (lines_of bytes)) differ.0
      ∙ in_front byte bytes differ.1 (first_line bytes)
]

-- the text of one byte more
pub escaped_more : (bytes start items new : List ℕ) (i : ℕ) → i < length bytes → items ≡ start ++ escaped (take i bytes)
    → new ≡ items ++ escaped_byte (get_or bytes i 0) → new ≡ start ++ escaped (take (i + 1) bytes)
escaped_more bytes start items new i within so_far more =
    let byte = get_or bytes i 0 in
    let text : escaped (take i bytes) ++ escaped_byte byte ≡ escaped (take (i + 1) bytes) =
    ap (λ (t : List ℕ). escaped (take i bytes) ++ t) (sym (append-nil (escaped_byte byte)))
    ∙ sym (ap escaped (take_more bytes i 0 within) ∙ flat_map-append escaped_byte (take i bytes) (byte ∷ [])) in
    more ∙ ap (λ (t : List ℕ). t ++ escaped_byte byte) so_far ∙ append_assoc start (escaped (take i bytes)) (escaped_byte byte)
    ∙ ap (λ (t : List ℕ). start ++ t) text
