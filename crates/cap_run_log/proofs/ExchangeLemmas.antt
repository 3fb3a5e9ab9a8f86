-- Where no line of a step stands.
use Rattle.std.proofs.Common.{◌≡◌, ℕ, List, ◌∷◌, ◌++◌, Option, Some, None, IfNone, IfSome, ap, drop, sym, take, take-append-drop, ◌∙◌}
use Rattle.cap_log.specs.Parts.{Begins, BeginsWithNone, BeginsWithout}
use Rattle.cap_run_log.specs.declared.{heads.RunHead.RunHead, lines.{RunLine.RunLine, RunStep.RunStep}}
use Rattle.cap_run_log.specs.{RunHeads.run_head_spelling, RunLines.{IsRunLineInRange, run_spelling}}

-- none stands where none does after the word of its line
pub none_behind : {A B : Type 0} (found : Option A) (line : B → RunLine) (head : RunHead) (bytes operands : List ℕ)
    → bytes ≡ run_head_spelling head ++ 32 ∷ operands
    → IfNone found (BeginsWithNone IsRunLineInRange run_spelling 10 (run_head_spelling head ++ 32 ∷ operands))
    → IfNone found ((it : B) (rest : List ℕ) → Begins IsRunLineInRange run_spelling 10 bytes (line it) rest → ⊥)
none_behind None line head bytes operands is none = λ it rest begins. none (line it) rest (begins.0, sym is ∙ begins.1)
none_behind (Some found) line head bytes operands is none = tt

-- a front that is a text, and what follows it
pub front_is : (n : ℕ) (bytes front rest text : List ℕ) → front ≡ take n bytes → rest ≡ drop n bytes → front ≡ text → bytes ≡ text ++ rest
front_is n bytes front rest text cut tail same =
    sym (take-append-drop n bytes) ∙ ap (λ (bs : List ℕ). bs ++ drop n bytes) (sym cut ∙ same) ∙ ap (λ (bs : List ℕ). text ++ bs) (sym tail)

-- what follows a text and a space, where a space stands after the text
pub text_then : {A : Type 0} (found : Option A) (rest_of : A → List ℕ) (bytes text others : List ℕ) → bytes ≡ text ++ others
    → IfSome found (λ rest. others ≡ 32 ∷ rest_of rest) → IfSome found (λ rest. bytes ≡ text ++ 32 ∷ rest_of rest)
text_then None rest_of bytes text others is then = tt
text_then (Some rest) rest_of bytes text others is then = is ∙ ap (λ (bs : List ℕ). text ++ bs) then

-- where a line of a step would stand, its head stands, if none does after it
pub no_step_behind : {A : Type 0} (found : Option A) (head : RunHead) (bytes operands : List ℕ)
    → bytes ≡ run_head_spelling head ++ 32 ∷ operands
    → IfNone found (BeginsWithNone IsRunLineInRange run_spelling 10 (run_head_spelling head ++ 32 ∷ operands))
    → IfNone found ((step : RunStep) (rest : List ℕ) → Begins IsRunLineInRange run_spelling 10 bytes (RunLine.Run step) rest
    → BeginsWithout (run_head_spelling head) 32 bytes)
no_step_behind None head bytes operands is none = λ step rest begins. absurd (none (RunLine.Run step) rest (begins.0, sym is ∙ begins.1))
no_step_behind (Some found) head bytes operands is none = tt
