-- What follows `object` and `free`. All of it is this profile's own.
use Rattle.std.specs.Prelude.{◌≡◌, ℕ, List, ◌∷◌, ◌++◌, decimal}
use Rattle.cap_log.specs.Lines.{IsTarget, register_spelling}
use Rattle.cap_run_log.specs.declared.parts.{Freed.Freed, Handed.Handed}
use Rattle.cap_run_log.specs.declared.parts.Freed.TheVariants as freed
use Rattle.cap_run_log.specs.declared.parts.Handed.TheVariants as handed
use Rattle.cap_run_log.specs.{declared.{heads.RunHead.RunHead, lines.RunLine.RunLine}, RunHeads.run_head_spelling}
use Rattle.cap_run_log.specs.RunLines.{IsObjectNumber, IsRunLineInRange, run_spelling}

abbrev pub IsHanded : Handed → Type 0
IsHanded (handed.Alone register) = IsTarget register
IsHanded (handed.Numbered register number) = IsTarget register × IsObjectNumber number

abbrev pub handed_spelling : Handed → List ℕ
handed_spelling (handed.Alone register) = register_spelling register
handed_spelling (handed.Numbered register number) = register_spelling register ++ 32 ∷ decimal number

abbrev pub IsFreed : Freed → Type 0
IsFreed (freed.Owner register) = IsTarget register
IsFreed (freed.Number number) = IsObjectNumber number

abbrev pub freed_spelling : Freed → List ℕ
freed_spelling (freed.Owner register) = register_spelling register
freed_spelling (freed.Number number) = decimal number

-- behind the word of such a head and its space stands such a part, in each line that begins with them
pub record StandsAfter {A : Type 0} (head : RunHead) (Fits : A → Type 0) (spelled : A → List ℕ) : Type 0 where
  pub part_of : (line : RunLine) (text : List ℕ) → IsRunLineInRange line → run_spelling line ≡ run_head_spelling head ++ 32 ∷ text
      → (value : A) × Fits value × (text ≡ spelled value)
