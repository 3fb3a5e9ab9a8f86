-- The lines of vectors: where their operands stand, and that operands have one true line.
use Rattle.std.proofs.Common.{◌≡◌, ℕ, ◌+◌, ◌-◌, Bool, List, ◌++◌, length, take, drop, codes, decimal, sym, ap, subst}
use Rattle.std.proofs.Common.{◌∙◌, arith, append_assoc, drop_at, length-append, take_at}
use Rattle.std.proofs.lemmas.Bool.Decides.{same_from_decides}
use Rattle.cap_word.specs.Digits.{hex_digits}
use Rattle.cap_word.proofs.DigitLemmas.{length-hex_digits}
use Rattle.cap_log.specs.Lines.{tag_spelling}
use Rattle.cap_texts.specs.TextLines.{bytes_text}
use Rattle.cap_vectors.specs.Vectors.{Bounds, Keeps, Round, Memory, Holds, IsLineOf, vector_spelling}

-- what stands behind a front, as a slice
pub slice_at : (line front middle rest : List ℕ) (at k : ℕ) → line ≡ front ++ (middle ++ rest) → length front ≡ at → length middle ≡ k
    → take (at + k - at) (drop at line) ≡ middle
slice_at line front middle rest at k is before long =
    let count : at + k - at ≡ k = omega arith in
    ap (λ (n : ℕ). take n (drop at line)) count ∙ ap (λ (l : List ℕ). take k (drop at l)) is
    ∙ ap (take k) (drop_at front (middle ++ rest) at before) ∙ take_at middle rest k long

-- it lies within the line
pub slice_within : (line front middle rest : List ℕ) → line ≡ front ++ (middle ++ rest)
    → length line ≡ length front + (length middle + length rest)
slice_within line front middle rest is = ap length is ∙ simp (length-append)

-- the front of a line up to its second operand
pub front_of_two : (head : List ℕ) (k n m : ℕ) → length head ≡ m → length (head ++ hex_digits k n ++ codes " ") ≡ m + k + 1
front_of_two head k n m is =
    omega (arith, length-append (head ++ hex_digits k n) (codes " "), length-append head (hex_digits k n), length-hex_digits k n)

-- the operands of each line
pub bounds_word : (w base top : ℕ) (answer : Bool)
    → (rest : List ℕ) × (vector_spelling (Bounds w base top answer) ≡ codes "bounds " ++ (hex_digits 32 w ++ rest))
bounds_word w base top answer =
    (codes " = " ++ (hex_digits 16 base ++ (codes " " ++ (hex_digits 17 top ++ (codes " " ++ tag_spelling answer)))), simp append_assoc)

pub keeps_word : (w address : ℕ) (answer : Bool)
    → (rest : List ℕ) × (vector_spelling (Keeps w address answer) ≡ codes "keeps " ++ (hex_digits 32 w ++ rest))
keeps_word w address answer = (codes " " ++ (hex_digits 16 address ++ (codes " = " ++ tag_spelling answer)), simp append_assoc)

pub keeps_address : (w address : ℕ) (answer : Bool)
    → (rest : List ℕ) × (vector_spelling (Keeps w address answer) ≡ (codes "keeps " ++ hex_digits 32 w ++ codes " ")
    ++ (hex_digits 16 address ++ rest))
keeps_address w address answer = (codes " = " ++ tag_spelling answer, simp append_assoc)

pub memory_word : (w : ℕ) (bytes : List ℕ) → (rest : List ℕ) × (vector_spelling (Memory w bytes) ≡ codes "memory " ++ (hex_digits 32 w ++ rest))
memory_word w bytes = (codes " = " ++ bytes_text bytes, simp append_assoc)

-- what is written of a rounding
abbrev pub rounding_text : (base_rounded top_rounded : ℕ) (ie : Bool) (e : ℕ) (exact : Bool) → List ℕ
rounding_text base_rounded top_rounded ie e exact =
    codes " = " ++ hex_digits 16 base_rounded ++ codes " " ++ hex_digits 17 top_rounded ++ codes " " ++ tag_spelling ie ++ codes " "
    ++ decimal e ++ codes " " ++ tag_spelling exact

pub round_base : (base size base_rounded top_rounded : ℕ) (ie : Bool) (e : ℕ) (exact : Bool)
    → (rest : List ℕ) × (vector_spelling (Round base size base_rounded top_rounded ie e exact) ≡ codes "round " ++ (hex_digits 16 base ++ rest))
round_base base size base_rounded top_rounded ie e exact =
    (codes " " ++ (hex_digits 16 size ++ rounding_text base_rounded top_rounded ie e exact), simp append_assoc)

three_then_more : (a b c d e f g h i j k l m n : List ℕ)
    → a ++ b ++ c ++ d ++ e ++ f ++ g ++ h ++ i ++ j ++ k ++ l ++ m ++ n ≡ (a ++ b ++ c)
    ++ (d ++ (e ++ f ++ g ++ h ++ i ++ j ++ k ++ l ++ m ++ n))
three_then_more a b c d e f g h i j k l m n = simp append_assoc

pub round_length : (base size base_rounded top_rounded : ℕ) (ie : Bool) (e : ℕ) (exact : Bool)
    → (rest : List ℕ) × (vector_spelling (Round base size base_rounded top_rounded ie e exact)
    ≡ (codes "round " ++ hex_digits 16 base ++ codes " ") ++ (hex_digits 16 size ++ rest))
round_length base size base_rounded top_rounded ie e exact = (
  rounding_text base_rounded top_rounded ie e exact,
  three_then_more (codes "round ") (hex_digits 16 base) (codes " ") (hex_digits 16 size) (codes " = ") (hex_digits 16 base_rounded)
      (codes " ") (hex_digits 17 top_rounded) (codes " ")
      (tag_spelling ie) (codes " ") (decimal e) (codes " ") (tag_spelling exact),
)

-- operands have one true line
pub same_bounds : (line written : List ℕ) (w v base top base' top' : ℕ) (answer answer' : Bool) → v ≡ w
    → IsLineOf line (Bounds w base top answer)
    → IsLineOf written (Bounds v base' top' answer') → line ≡ written
same_bounds line written w v base top base' top' answer answer' is h k =
    let first = h.true_vector.holds in
    let second = subst (λ (x : ℕ). Holds (Bounds x base' top' answer')) is k.true_vector.holds in
    let same : answer ≡ answer' = same_from_decides answer answer' first.2 second.2 in
    let one : Bounds w base top answer ≡ Bounds v base' top' answer' = cc in
    h.spelled ∙ ap vector_spelling one ∙ sym k.spelled

pub same_keeps : (line written : List ℕ) (w v address address' : ℕ) (answer answer' : Bool) → v ≡ w → address' ≡ address
    → IsLineOf line (Keeps w address answer)
    → IsLineOf written (Keeps v address' answer') → line ≡ written
same_keeps line written w v address address' answer answer' is also h k =
    let first = h.true_vector.holds in
    let second = subst (λ (x : ℕ). Holds (Keeps w x answer')) also (subst (λ (x : ℕ). Holds (Keeps x address' answer'))
    is k.true_vector.holds) in
    let same : answer ≡ answer' = same_from_decides answer answer' first second in
    let one : Keeps w address answer ≡ Keeps v address' answer' = cc in
    h.spelled ∙ ap vector_spelling one ∙ sym k.spelled

pub same_round : (line written : List ℕ) (base size base' size' base_rounded top_rounded base_rounded' top_rounded' : ℕ) (ie ie' : Bool)
    (e e' : ℕ) (exact exact' : Bool)
    → base' ≡ base → size' ≡ size → IsLineOf line (Round base size base_rounded top_rounded ie e exact)
    → IsLineOf written (Round base' size' base_rounded' top_rounded' ie' e' exact') → line ≡ written
same_round line written base size base' size' base_rounded top_rounded base_rounded' top_rounded' ie ie' e e' exact exact' is also h k =
    let first = h.true_vector.holds in
    let second =
    subst (λ (x : ℕ). Holds (Round base x base_rounded' top_rounded' ie' e' exact')) also
    (subst (λ (x : ℕ). Holds (Round x size' base_rounded' top_rounded' ie' e' exact')) is k.true_vector.holds) in
    let same : exact ≡ exact' = same_from_decides exact exact' first.5 second.5 in
    let one : Round base size base_rounded top_rounded ie e exact ≡ Round base' size' base_rounded' top_rounded' ie' e' exact' = cc in
    h.spelled ∙ ap vector_spelling one ∙ sym k.spelled

pub same_memory : (line written : List ℕ) (w v : ℕ) (bytes bytes' : List ℕ) → v ≡ w → IsLineOf line (Memory w bytes)
    → IsLineOf written (Memory v bytes') → line ≡ written
same_memory line written w v bytes bytes' is h k =
    let first = h.true_vector.holds in
    let second = k.true_vector.holds in
    let one : Memory w bytes ≡ Memory v bytes' = cc in
    h.spelled ∙ ap vector_spelling one ∙ sym k.spelled
