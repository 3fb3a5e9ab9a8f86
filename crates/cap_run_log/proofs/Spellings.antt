-- Spellings: bytes spell one line of a run log at most, and a spelling has no line feed and at most 95 bytes.
use Rattle.std.proofs.Common.{◌≡◌, ◌≢◌, ℕ, ◌+◌, ◌≤◌, List, [], ◌∷◌, ◌++◌, length, sym, ap, subst, ◌∙◌, refl, arith, lit≤, take, drop}
use Rattle.std.proofs.{Common.length-append, lemmas.List.{append_cancel_right, Elements.{All-append, All-cons}}}
use Rattle.cap_log.specs.{Heads.head_spelling, SpacelessLaws.head-spaceless}
use Rattle.cap_log.proofs.Shapes.{head_of, operands_of, spelling-of, text}
use Rattle.cap_log.specs.declared.{kinds.{Head.Head, Step.Step}, lines.{Line.Line, Mode.Mode}}
use Rattle.cap_log.specs.{Lines.{IsLineAt, spelling}, SpacelessLaws.Lacks-by_test}
use Rattle.cap_log.specs.Parts.{Begins, BeginsWithNone}
use Rattle.cap_streams.specs.{Front.{HasNoFeed}, Written.{Writes, ◌⨾◌, length-Writes}}
use Rattle.cap_log.proofs.{Cuts.same_cut, SpellingLemmas.{one_spelling, spelling-plain, spelling-short}}
use Rattle.cap_run_log.specs.declared.{heads.RunHead.RunHead, lines.RunLine.RunLine}
use Rattle.cap_run_log.specs.{RunHeads.run_head_spelling, RunLines.{IsRunLineAt, IsRunLineInRange, SpellsRun, run_spelling}}
use Rattle.cap_run_log.proofs.Rows.{Fits, Kind, Own, Usual, Value, is_made, kind_of, made, not_its, one_head, row, row-short, run_line_of}
use Rattle.cap_run_log.proofs.Rows.{run_head-spaceless, run_text}

head-plain : (h : RunHead) → HasNoFeed (run_head_spelling h)
head-plain RunHead.Version = Lacks-by_test 10 (run_head_spelling RunHead.Version) refl
head-plain h = Lacks-by_test 10 (run_head_spelling h) refl

head-short : (h : RunHead) → length (run_head_spelling h) ≤ 8
head-short RunHead.Version = lit≤ tt
head-short h = lit≤ tt

-- how a line is spelled, by its head and its operands
own_spelling : (h : RunHead) (x : Value h) (line : RunLine) → made h x ≡ line → run_spelling line ≡ run_head_spelling h ++ 32 ∷ run_text h x
own_spelling h x line same = sym (ap run_spelling same) ∙ (is_made h x).spelling_is

own_fits : (h : RunHead) (x : Value h) (line : RunLine) → made h x ≡ line → IsRunLineInRange line → Fits h x
own_fits h x line same range = (is_made h x).fits (subst IsRunLineInRange (sym same) range)

-- no line of the other logs is spelled so
own_or_usual : (h : RunHead) (x : Value h) (line : RunLine) (other : Line) → (head_of other ≡ Head.Root → ⊥)
    → run_head_spelling h ++ 32 ∷ run_text h x ≡ spelling other → ⊥
own_or_usual h x line other not_root e =
    let parts = same_cut 32 (run_head_spelling h) (head_spelling (head_of other)) (run_text h x) (text (head_of other) (operands_of other))
    (run_head-spaceless h) (head-spaceless (head_of other)) (e ∙ spelling-of other) in
    not_its (head_of other) h not_root (sym parts.0)

pub run_spelling-plain : (line : RunLine) → IsRunLineInRange line → HasNoFeed (run_spelling line)
run_spelling-plain line range = go (kind_of line) where
  go : Kind line → HasNoFeed (run_spelling line)
  go (Own h x same) = rw (own_spelling h x line same) (All-append (λ b. b ≢ 10) (run_head_spelling h) (32 ∷ run_text h x) (head-plain h)
      (All-cons (λ b. b ≢ 10) 32 (run_text h x) (omega arith) ((row h).operand.plain x (own_fits h x line same range))))
  go (Usual other inside same not_root back) = rw same (spelling-plain other (inside range))

pub run_spelling-short : (line : RunLine) → IsRunLineInRange line → length (run_spelling line) ≤ 95
run_spelling-short line range = go (kind_of line) where
  go : Kind line → length (run_spelling line) ≤ 95
  go (Own h x same) =
      let long = ap length (own_spelling h x line same) ∙ length-append (run_head_spelling h) (32 ∷ run_text h x) in
      let first = head-short h in
      let second = (row h).operand.short x (own_fits h x line same range) in
      let most = row-short h in
      omega arith
  go (Usual other inside same not_root back) = rw same (spelling-short other (inside range))

-- lines with one spelling are one
same_made : (h k : RunHead) → h ≡ k → (x : Value h) (y : Value k) → Fits h x → Fits k y → run_text h x ≡ run_text k y → made h x ≡ made k y
same_made h k e x = subst (λ k. (y : Value k) → Fits h x → Fits k y → run_text h x ≡ run_text k y → made h x ≡ made k y) e
    (λ y fits fits' same. ap (made h) ((row h).operand.one x y fits fits' same))

pub one_run_spelling : (bytes : List ℕ) (a b : RunLine) → SpellsRun bytes a → SpellsRun bytes b → a ≡ b
one_run_spelling bytes a b spells spells' = go (kind_of a) (kind_of b) where
  both : run_spelling a ≡ run_spelling b
  both = sym spells.1 ∙ spells'.1

  go : Kind a → Kind b → a ≡ b
  go (Own h x is) (Own k y is') =
      let parts = same_cut 32 (run_head_spelling h) (run_head_spelling k) (run_text h x) (run_text k y) (run_head-spaceless h)
      (run_head-spaceless k) (sym (own_spelling h x a is) ∙ both ∙ own_spelling k y b is') in
      sym is ∙ same_made h k (one_head h k parts.0) x y (own_fits h x a is spells.0) (own_fits k y b is' spells'.0) parts.1 ∙ is'
  go (Own h x is) (Usual other inside same not_root back) =
      absurd (own_or_usual h x a other not_root (sym (own_spelling h x a is) ∙ both ∙ same))
  go (Usual other inside same not_root back) (Own k y is') =
      absurd (own_or_usual k y b other not_root (sym (own_spelling k y b is') ∙ sym both ∙ same))
  go (Usual one inside same not_root back) (Usual other inside' same' not_root' back') =
      sym back ∙ ap run_line_of (one_spelling (spelling one) one other (inside spells.0, refl) (inside' spells'.0, sym same ∙ both ∙ same')) ∙ back'

-- the room for the line feed behind a spelling
pub run_feed_room : (line : RunLine) → IsRunLineInRange line → (end : ℕ) (old mid : List ℕ) → 96 ≤ length old
    → Writes 0 (run_spelling line) old mid end → end + 1 ≤ length mid
run_feed_room line range end old mid room words =
    let short = run_spelling-short line range in
    let ends = words.ends in
    let same = length-Writes 0 end (run_spelling line) old mid words (omega arith) in
    omega arith

-- a line of the other logs that is written is this one
usual_at : (line : RunLine) (other : Line) → run_spelling line ≡ spelling other → (count : ℕ) (old new : List ℕ) → IsLineAt other old new count
    → IsRunLineAt line old new count
usual_at line other same count old new at =
    record { ends = rw same at.ends; fits = at.fits; written = rw same at.written; rest = at.rest }

pub version_at : (version count : ℕ) (old new : List ℕ) → IsLineAt (Line.Version version) old new count
    → IsRunLineAt (RunLine.Plain version) old new count
unfolding run_spelling spelling
version_at version = usual_at (RunLine.Plain version) (Line.Version version) refl

pub mode_at : (mode : Mode) (count : ℕ) (old new : List ℕ) → IsLineAt (Line.Mode mode) old new count
    → IsRunLineAt (RunLine.Mode mode) old new count
unfolding run_spelling spelling
mode_at mode = usual_at (RunLine.Mode mode) (Line.Mode mode) refl

pub step_at : (step : Step) (count : ℕ) (old new : List ℕ) → IsLineAt (Line.Step step) old new count
    → IsRunLineAt (RunLine.Step step) old new count
unfolding run_spelling spelling
step_at step = usual_at (RunLine.Step step) (Line.Step step) refl

pub end_at : (steps count : ℕ) (old new : List ℕ) → IsLineAt (Line.End steps) old new count
    → IsRunLineAt (RunLine.End steps) old new count
unfolding run_spelling spelling
end_at steps = usual_at (RunLine.End steps) (Line.End steps) refl

-- bytes with a line feed behind them: what stands at their front says what they spell
pub run_fed_none : (bytes : List ℕ) → BeginsWithNone IsRunLineInRange run_spelling 10 (bytes ++ 10 ∷ []) → (line : RunLine)
    → SpellsRun bytes line → ⊥
run_fed_none bytes none line spells = none line [] (spells.0, ap (λ (b : List ℕ). b ++ 10 ∷ []) spells.1)

pub run_fed_some : (bytes rest : List ℕ) (line : RunLine) → Begins IsRunLineInRange run_spelling 10 (bytes ++ 10 ∷ []) line rest → rest ≡ []
    → SpellsRun bytes line
run_fed_some bytes rest line begins all =
    (begins.0, append_cancel_right bytes (run_spelling line) (10 ∷ []) (begins.1 ∙ ap (λ (r : List ℕ). run_spelling line ++ 10 ∷ r) all))

pub run_fed_more : (bytes rest : List ℕ) (line : RunLine) → Begins IsRunLineInRange run_spelling 10 (bytes ++ 10 ∷ []) line rest → rest ≢ []
    → (other : RunLine) → SpellsRun bytes other → ⊥
run_fed_more bytes rest line begins more other spells =
    let e = ap (λ (b : List ℕ). b ++ 10 ∷ []) (sym spells.1) ∙ begins.1 in
    more (sym (same_cut 10 (run_spelling other) (run_spelling line) [] rest (run_spelling-plain other spells.0)
    (run_spelling-plain line begins.0) e).1)

-- a text at the front of a buffer, and one byte behind it
pub front_and_byte : (i j c : ℕ) (a old mid new : List ℕ) → Writes 0 a old mid i → Writes i (c ∷ []) mid new j → j ≤ length old
    → (take j new ≡ a ++ c ∷ []) × (drop j new ≡ drop j old)
front_and_byte i j c a old mid new first second room =
    let ends = first.ends in
    let ends' = second.ends in
    let both = first ⨾ second in
    (both.written, both.rest j (omega arith))
