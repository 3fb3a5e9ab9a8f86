-- The text of a verdict, by what its judge had read and the line that it refused (this profile's own).
use Rattle.std.specs.Prelude.{◌≡◌, ℕ, Bool, true, false, List, ◌++◌}
use Rattle.cap_texts.specs.ShownBytes.{shown_line}
use Rattle.cap_heap.specs.declared.{progress.Progress.Progress, refusal.HeapRefusal.HeapRefusal}
use Rattle.cap_heap.specs.declared.verdict.HeapVerdict.{HeapVerdict, TheVariants.{Yes, No}}
use Rattle.cap_heap.specs.{Beginnings.{Beginning, AreDetailsBehind}, HeapReports.report_lines, Progresses.StandsFor}
use Rattle.cap_heap.specs.VerdictLines.{heap_line}

-- what is told of a line that was refused
abbrev pub IsLineReport : Progress → List ℕ → HeapRefusal → List ℕ → Type 0
IsLineReport progress line refusal report =
    (details : List ℕ) × ((beginning : Beginning) → StandsFor progress beginning → AreDetailsBehind beginning line refusal details)
    × (report ≡ shown_line line ++ details)

-- the text of a verdict
abbrev pub IsText : Bool → Bool → Progress → List ℕ → HeapVerdict → List ℕ → Type 0
IsText false why progress line (Yes events live) text = text ≡ heap_line (Yes events live)
IsText true why progress line (Yes events live) text = text ≡ heap_line (Yes events live) ++ report_lines progress.report
IsText reports false progress line (No number refusal) text = text ≡ heap_line (No number refusal)
IsText reports true progress line (No number refusal) text =
    (report : List ℕ) × IsLineReport progress line refusal report × (text ≡ heap_line (No number refusal) ++ report)
