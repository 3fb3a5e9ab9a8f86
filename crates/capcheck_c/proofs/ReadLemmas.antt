-- What is read at the front of some bytes.
use Rattle.std.proofs.Common.{◌≡◌, ◌≢◌, ◌+◌, ◌-◌, ◌≤◌, ◌∙◌, ℕ, List, [], ◌∷◌, ◌++◌, ap, append_assoc, arith, drop}
use Rattle.std.proofs.Common.{length, refl, subst, sym, take, length-append, take-append-drop}
use Rattle.std.proofs.Math.Seq.{drop-append_seam}
use Rattle.cap_log.specs.declared.{kinds.Step.Step, lines.{Line.Line, Mode.TheVariants.{Strict, Clear}}}
use Rattle.cap_log.specs.{declared.lines.Place.TheVariants.{Register, Granule}, Lines.{IsInRange, spelling}}
use Rattle.cap_log.specs.Parts.{Begins, BeginsWithNone}
use Rattle.cap_streams.specs.Front.{IsLine}
use Rattle.cap_streams.proofs.FrontLemmas.{IsLine-same}
use Rattle.cap_log.proofs.SpellingLemmas.{IsLine-spelling, one_spelling}
use Rattle.cap_halves.specs.declared.values.PassedLine.{PassedLine}
use Rattle.capcheck_c.specs.LinesRead.{IsLineRead, IsStepRead, ReadsFront, ReadsLines}

-- bytes begin with one line, and one rest follows it
pub one_front : (bytes : List ℕ) (a b : Line) (rest other : List ℕ) → Begins IsInRange spelling 10 bytes a rest
    → Begins IsInRange spelling 10 bytes b other → (a ≡ b) × (rest ≡ other)
one_front bytes a b rest other here there =
    let first = subst (λ (bs : List ℕ). IsLine bs (spelling a) rest) (sym here.1) (IsLine-spelling a here.0 rest) in
    let second = subst (λ (bs : List ℕ). IsLine bs (spelling b) other) (sym there.1) (IsLine-spelling b there.0 other) in
    let both = IsLine-same bytes (spelling a) rest (spelling b) other first second in
    (one_spelling (spelling a) a b (here.0, refl) (there.0, both.0), both.1)

-- how long the line is at the front of bytes, by how long they are and what follows it
pub front_length : (bytes : List ℕ) (line : Line) (rest : List ℕ) → Begins IsInRange spelling 10 bytes line rest
    → length bytes ≡ length (spelling line) + 1 + length rest
front_length bytes line rest begins =
    let all = ap length begins.1 ∙ length-append (spelling line) (10 ∷ rest) in
    omega (arith, all)

-- one line more was read
pub reads_more : (bytes : List ℕ) (reads : List PassedLine) (rest : List ℕ) (read : PassedLine) → ReadsLines bytes reads rest
    → (read.kind ≢ 0) → ReadsFront rest read → ReadsLines bytes (reads ++ read ∷ []) (drop read.length rest)
reads_more bytes [] rest read before some front =
    (some, subst (λ (b : List ℕ). ReadsFront b read) (sym before) front, ap (drop read.length) before)
reads_more bytes (first ∷ reads) rest read before some front =
    (before.0, before.1, reads_more (drop first.length bytes) reads rest read before.2 some front)

-- what was read lies in front of the rest
reads_front : (bytes : List ℕ) (reads : List PassedLine) (rest : List ℕ) → ReadsLines bytes reads rest
    → (front : List ℕ) × (bytes ≡ front ++ rest)
reads_front bytes [] rest all = ([], all)
reads_front bytes (read ∷ reads) rest all =
    let more = reads_front (drop read.length bytes) reads rest all.2 in (
      take read.length bytes ++ more.0,
      sym (take-append-drop read.length bytes) ∙ ap (λ (b : List ℕ). take read.length bytes ++ b) more.1
          ∙ sym (append_assoc (take read.length bytes) more.0 rest),
    )

-- so the rest is what is left of the bytes by its length
pub rest_of : (bytes : List ℕ) (reads : List PassedLine) (rest : List ℕ) → ReadsLines bytes reads rest
    → (length rest ≤ length bytes) × (drop (length bytes - length rest) bytes ≡ rest)
rest_of bytes reads rest all =
    let front = reads_front bytes reads rest all in
    let long = ap length front.1 ∙ length-append front.0 rest in
    let same : length bytes - length rest ≡ length front.0 = omega (arith, long) in (
      omega (arith, long),
      ap (λ (n : ℕ). drop n bytes) same ∙ ap (drop (length front.0)) front.1 ∙ drop-append_seam front.0 rest,
    )

-- a line that was read has a kind
step_kind : (step : Step) (read : PassedLine) → IsStepRead step read → read.kind ≡ 0 → ⊥
step_kind (Step.Move step) read is none = omega (arith, none, is.0.kind_is)
step_kind step read is none = omega (arith, none, is.0.kind_is)

line_kind : (line : Line) (read : PassedLine) → IsLineRead line read → read.kind ≡ 0 → ⊥
line_kind (Line.Version version) read is none = omega (arith, none, is.0.kind_is)
line_kind (Line.Mode Strict) read is none = omega (arith, none, is.0.kind_is)
line_kind (Line.Mode Clear) read is none = omega (arith, none, is.0.kind_is)
line_kind (Line.Root (Register register) word) read is none = omega (arith, none, is.0.kind_is)
line_kind (Line.Root (Granule granule) word) read is none = omega (arith, none, is.0.kind_is)
line_kind (Line.Step step) read is none = step_kind step read is none
line_kind (Line.End steps) read is none = omega (arith, none, is.0.kind_is)

-- bytes of which none was read begin with none
pub none_read : (bytes : List ℕ) (read : PassedLine) → ReadsFront bytes read → read.kind ≡ 0
    → BeginsWithNone IsInRange spelling 10 bytes
none_read bytes read front none line rest begins = line_kind line read (front.line line rest begins).0 none
