-- What is read at the front of the bytes of a run log.
use Rattle.std.proofs.Common.{◌≡◌, ◌+◌, ◌∙◌, ℕ, List, ◌∷◌, ap, arith, length, length-append, refl}
use Rattle.cap_log.specs.Parts.{Begins}
use Rattle.cap_streams.{specs.Front.IsLine, proofs.FrontLemmas.IsLine-same}
use Rattle.cap_run_log.specs.{declared.lines.RunLine.RunLine, RunLines.{IsRunLineInRange, run_spelling}}
use Rattle.cap_run_log.proofs.Spellings.{one_run_spelling, run_spelling-plain, run_spelling-short}

-- bytes that begin with a line begin with its text
run_line_is : (bytes : List ℕ) (line : RunLine) (rest : List ℕ) → Begins IsRunLineInRange run_spelling 10 bytes line rest
    → IsLine bytes (run_spelling line) rest
run_line_is bytes line rest here = record {
  whole = here.1;
  one = run_spelling-plain line here.0;
  short = run_spelling-short line here.0;
}

-- bytes begin with one line, and one rest follows it
pub one_run_front : (bytes : List ℕ) (a b : RunLine) (rest other : List ℕ) → Begins IsRunLineInRange run_spelling 10 bytes a rest
    → Begins IsRunLineInRange run_spelling 10 bytes b other → (a ≡ b) × (rest ≡ other)
one_run_front bytes a b rest other here there =
    let both = IsLine-same bytes (run_spelling a) rest (run_spelling b) other (run_line_is bytes a rest here) (run_line_is bytes b other there) in
    (one_run_spelling (run_spelling a) a b (here.0, refl) (there.0, both.0), both.1)

-- how long the line is at the front of bytes, by how long they are and what follows it
pub run_front_length : (bytes : List ℕ) (line : RunLine) (rest : List ℕ) → Begins IsRunLineInRange run_spelling 10 bytes line rest
    → length bytes ≡ length (run_spelling line) + 1 + length rest
run_front_length bytes line rest begins =
    let all = ap length begins.1 ∙ length-append (run_spelling line) (10 ∷ rest) in
    omega (arith, all)
