-- Spellings: bytes spell one line at most, and a spelling with its line feed is the line at the front of any bytes.
use Rattle.std.proofs.Common.{◌≡◌, ◌≢◌, ℕ, ◌+◌, ◌≤◌, List, [], ◌∷◌, ◌++◌, length, sym, ap, subst, ◌∙◌, refl, arith}
use Rattle.std.proofs.{Common.length-append, lemmas.List.{append_cancel_right, Elements.{All-append, All-cons}}}
use Rattle.cap_log.specs.{declared.{kinds.Head.Head, lines.Line.Line}, Heads.head_spelling}
use Rattle.cap_log.specs.{Lines.{IsInRange, IsLineAt, Spells, spelling}, Parts.{Begins, BeginsWithNone}}
use Rattle.cap_log.specs.SpacelessLaws.{head-spaceless}
use Rattle.cap_streams.specs.{Front.{HasNoFeed, IsLine}, Written.Writes}
use Rattle.cap_log.proofs.Cuts.{same_cut}
use Rattle.cap_log.proofs.Shapes.{Fits, Value, fits-of, head-operand, head_of, made, made-of, operands_of, row}
use Rattle.cap_log.proofs.{Shapes.{row-short, spelling-of, text}, WriteLemmas.{front_and_byte, room_behind}}

-- lines with one spelling are one
same_made : (h k : Head) → h ≡ k → (x : Value h) (y : Value k) → Fits h x → Fits k y → text h x ≡ text k y → made h x ≡ made k y
same_made h k e x = subst (λ k. (y : Value k) → Fits h x → Fits k y → text h x ≡ text k y → made h x ≡ made k y) e
    (λ y fits fits' same. ap (made h) ((row h).operand.one x y fits fits' same))

pub one_spelling : (bytes : List ℕ) (a b : Line) → Spells bytes a → Spells bytes b → a ≡ b
one_spelling bytes a b spells spells' =
    let parts = same_cut 32 (head_spelling (head_of a)) (head_spelling (head_of b)) (text (head_of a) (operands_of a))
    (text (head_of b) (operands_of b))
    (head-spaceless (head_of a)) (head-spaceless (head_of b)) (sym (spelling-of a) ∙ (sym spells.1 ∙ (spells'.1 ∙ spelling-of b))) in
    sym (made-of a) ∙ same_made (head_of a) (head_of b) (head-operand.one (head_of a) (head_of b) tt tt parts.0) (operands_of a)
    (operands_of b) (fits-of a spells.0) (fits-of b spells'.0) parts.1 ∙ made-of b

-- a spelling has no line feed and at most 95 bytes
pub spelling-plain : (l : Line) → IsInRange l → HasNoFeed (spelling l)
spelling-plain l fits = rw (spelling-of l) (All-append (λ b. b ≢ 10) (head_spelling (head_of l)) (32 ∷ text (head_of l) (operands_of l))
    (head-operand.plain (head_of l) tt)
    (All-cons (λ b. b ≢ 10) 32 (text (head_of l) (operands_of l)) (omega arith)
    ((row (head_of l)).operand.plain (operands_of l) (fits-of l fits))))

pub spelling-short : (l : Line) → IsInRange l → length (spelling l) ≤ 95
spelling-short l fits = omega (
  arith,
  ap length (spelling-of l) ∙ length-append (head_spelling (head_of l)) (32 ∷ text (head_of l) (operands_of l)),
  head-operand.short (head_of l) tt,
  (row (head_of l)).operand.short (operands_of l) (fits-of l fits),
  row-short (head_of l),
)

-- so a spelling and a line feed are the line at the front of any bytes
pub IsLine-spelling : (l : Line) → IsInRange l → (rest : List ℕ) → IsLine (spelling l ++ 10 ∷ rest) (spelling l) rest
IsLine-spelling l fits rest = record { whole = refl; one = spelling-plain l fits; short = spelling-short l fits }

-- bytes with a line feed behind them: what stands at their front says what they spell
pub fed_none : (bytes : List ℕ) → BeginsWithNone IsInRange spelling 10 (bytes ++ 10 ∷ []) → (l : Line) → Spells bytes l → ⊥
fed_none bytes none l spells = none l [] (spells.0, ap (λ (b : List ℕ). b ++ 10 ∷ []) spells.1)

pub fed_some : (bytes rest : List ℕ) (l : Line) → Begins IsInRange spelling 10 (bytes ++ 10 ∷ []) l rest → rest ≡ [] → Spells bytes l
fed_some bytes rest l begins all =
    (begins.0, append_cancel_right bytes (spelling l) (10 ∷ []) (begins.1 ∙ ap (λ (r : List ℕ). spelling l ++ 10 ∷ r) all))

pub fed_more : (bytes rest : List ℕ) (l : Line) → Begins IsInRange spelling 10 (bytes ++ 10 ∷ []) l rest → rest ≢ []
    → (k : Line) → Spells bytes k → ⊥
fed_more bytes rest l begins more k spells =
    let e = ap (λ (b : List ℕ). b ++ 10 ∷ []) (sym spells.1) ∙ begins.1 in
    more (sym (same_cut 10 (spelling k) (spelling l) [] rest (spelling-plain k spells.0) (spelling-plain l begins.0) e).1)

-- a spelling at the front of a buffer, and a line feed behind it
pub line_at : (l : Line) → IsInRange l → (end count : ℕ) (old mid new : List ℕ) → 96 ≤ length old → Writes 0 (spelling l) old mid end
    → Writes end (10 ∷ []) mid new count → IsLineAt l old new count
line_at l fits end count old mid new room words feed =
    let short = spelling-short l fits in
    let ends = words.ends in
    let ends' = feed.ends in
    let both = front_and_byte end count 10 (spelling l) old mid new words feed in
    record {
      ends = omega arith;
      fits = omega arith;
      written = both.0;
      rest = both.1;
      spells = (fits, both.2);
      reads_back = λ other spells. one_spelling _ other l spells (fits, both.2);
    }

-- the room for that line feed
pub feed_room : (l : Line) → IsInRange l → (end : ℕ) (old mid : List ℕ) → 96 ≤ length old → Writes 0 (spelling l) old mid end
    → end + 1 ≤ length mid
feed_room l fits end old mid room words = room_behind 0 end 1 (spelling l) old mid words (omega (arith, spelling-short l fits))
