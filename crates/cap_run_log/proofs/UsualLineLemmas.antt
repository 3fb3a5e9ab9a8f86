-- Lines that logs and run logs both have are spelled alike.
use Rattle.std.proofs.Common.{◌≡◌, ◌↔◌, ◌∙◌, ℕ, List, refl, sym, subst, Option, Some, None, option_map}
use Rattle.cap_log.specs.declared.lines.{Line.Line, Place.Place}
use Rattle.cap_log.specs.{Lines.{IsInRange, Spells, spelling}, Parts.ReadsAs}
use Rattle.cap_run_log.specs.declared.lines.{RunLine.RunLine, RunPlace.RunPlace}
use Rattle.cap_run_log.specs.{RunLines.{IsRunLineInRange, SpellsRun, run_spelling}, UsualLines.{IsUsualLine, as_run}}

-- the spelling is the same
pub spelled_alike : (line : Line) → run_spelling (as_run line) ≡ spelling line
unfolding run_spelling spelling
spelled_alike (Line.Version version) = refl
spelled_alike (Line.Mode mode) = refl
spelled_alike (Line.Root (Place.Register number) word) = refl
spelled_alike (Line.Root (Place.Granule number) word) = refl
spelled_alike (Line.Step step) = refl
spelled_alike (Line.End count) = refl

-- and so are the ranges
pub in_range_alike : (line : Line) → IsInRange line ↔ IsRunLineInRange (as_run line)
in_range_alike (Line.Version version) = (λ f. f, λ f. f)
in_range_alike (Line.Mode mode) = (λ f. f, λ f. f)
in_range_alike (Line.Root (Place.Register number) word) = (λ f. f, λ f. f)
in_range_alike (Line.Root (Place.Granule number) word) = (λ f. f, λ f. f)
in_range_alike (Line.Step step) = (λ f. f, λ f. f)
in_range_alike (Line.End count) = (λ f. f, λ f. f)

pub spells_alike : (bytes : List ℕ) (line : Line) → Spells bytes line ↔ SpellsRun bytes (as_run line)
spells_alike bytes line = (
  λ spells. ((in_range_alike line).0 spells.0, spells.1 ∙ sym (spelled_alike line)),
  λ spells. ((in_range_alike line).1 spells.0, spells.1 ∙ spelled_alike line),
)

-- a line that logs have, too, as one of a log
pub as_usual : (line : RunLine) → IsUsualLine line → (usual : Line) × (line ≡ as_run usual)
as_usual RunLine.Version is = absurd is
as_usual (RunLine.Plain version) is = (Line.Version version, refl)
as_usual (RunLine.Mode mode) is = (Line.Mode mode, refl)
as_usual (RunLine.Root (RunPlace.General number) word) is = (Line.Root (Place.Register number) word, refl)
as_usual (RunLine.Root (RunPlace.Special number) word) is = absurd is
as_usual (RunLine.Root (RunPlace.Granule number) word) is = (Line.Root (Place.Granule number) word, refl)
as_usual (RunLine.Step step) is = (Line.Step step, refl)
as_usual (RunLine.Hart hart) is = absurd is
as_usual (RunLine.Run step) is = absurd is
as_usual (RunLine.End count) is = (Line.End count, refl)

pub read_alike : (bytes : List ℕ) (line : RunLine) → SpellsRun bytes line → IsUsualLine line
    → (usual : Line) × Spells bytes usual × (line ≡ as_run usual)
read_alike bytes line spells is =
    let found = as_usual line is in
    (found.0, (spells_alike bytes found.0).1 (subst (SpellsRun bytes) found.1 spells), found.1)

-- what a text is read as that spells no line that only run logs have
pub reads_alike : (text : List ℕ) → ((line : RunLine) → SpellsRun text line → IsUsualLine line) → (line : Option Line)
    → ReadsAs IsInRange spelling text line → ReadsAs IsRunLineInRange run_spelling text (option_map as_run line)
reads_alike text usual (Some line) reads = (spells_alike text line).0 reads
reads_alike text usual None none =
    λ line range is. let found = read_alike text line (range, is) (usual line (range, is)) in none found.0 found.1.0 found.1.1
