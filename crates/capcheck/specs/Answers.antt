-- What the program prints for an order, and the status that goes with it (this profile's own).
use Rattle.std.specs.Prelude.{◌≡◌, ◌↔◌, ℕ, ◌+◌, ◌^◌, ◌≤◌, Bool, List, Option, Some, None, IfSome, IsTrue}
use Rattle.cap_bounds.specs.declared.rounding.Rounded.{Rounded}
use Rattle.cap_bounds.specs.Rounding.{rounded_base, rounded_top, rounded_ie, rounded_exponent, IsExact}
use Rattle.cap_texts.specs.{ExplainLines.explain_lines, TextLines.round_lines}
use Rattle.cap_vectors.specs.declared.files.VectorVerdict.{VectorVerdict, TheVariants.{Pass, Fail}}
use Rattle.cap_vectors.specs.VectorFiles.{IsVectorVerdict, vector_line}
use Rattle.cap_judge.specs.{declared.verdict.Verdict.Verdict, Reports.Tells, VerdictLines.verdict_status}
use Rattle.cap_judge.specs.Verdicts.{IsVerdict}
use Rattle.capcheck.specs.declared.words.Order.{Order, TheVariants.{Explain, Round, Judge, Vectors}}
use Rattle.capcheck.specs.Operands.{SpellsWord, SpellsRequest}

-- the exit status of a verdict on a vector file
abbrev pub vector_status : VectorVerdict → ℕ
vector_status (Pass lines) = 0
vector_status (Fail line) = 1

-- a rounding is that of a request
pub record IsRounding (rounded : Rounded) (base length : ℕ) : Type 0 where
  pub base_is : rounded.base ≡ rounded_base base length
  pub top_is : rounded.top ≡ rounded_top base length
  pub ie_is : rounded.ie ≡ rounded_ie length
  pub e_is : rounded.e ≡ rounded_exponent base length
  pub exact_is : IsTrue rounded.exact ↔ IsExact base length

-- two words spell a request, and the text is that of its rounding
pub record ShowsRounding (base_word length_word text : List ℕ) : Type 0 where
  pub base : ℕ
  pub length : ℕ
  pub rounded : Rounded
  pub spelled : SpellsRequest base_word length_word base length
  pub within : base + length ≤ 2 ^ 64
  pub rounding : IsRounding rounded base length
  pub text_is : text ≡ round_lines rounded

-- the text is the line of the verdict on an input as a vector file, and the status is the verdict's
abbrev pub ShowsCheck : Option (List ℕ) → List ℕ → ℕ → Type 0
ShowsCheck input text status =
    (verdict : VectorVerdict) × IfSome input (λ bytes. IsVectorVerdict bytes verdict)
    × (text ≡ vector_line verdict) × (status ≡ vector_status verdict)

-- an input is judged: the text is that of the verdict on its bytes, with the origins where these are asked for
abbrev pub PrintsVerdict : Bool → Option (List ℕ) → List ℕ → ℕ → Type 0
PrintsVerdict origins input text status =
    (bytes : List ℕ) × IfSome input (λ known. known ≡ bytes)
    × (verdict : Verdict) × IsVerdict bytes verdict × Tells origins bytes verdict text × (status ≡ verdict_status verdict)

-- the text that an order prints, and its status
abbrev pub Prints : Option Order → Option (List ℕ) → List ℕ → ℕ → Type 0
Prints None input text status = ⊥
Prints (Some (Explain memory tag hex)) input text status =
    (w : ℕ) × SpellsWord memory hex.now w × (text ≡ explain_lines w tag) × (status ≡ 0)
Prints (Some (Round base_word length_word)) input text status = ShowsRounding base_word.now length_word.now text × (status ≡ 0)
Prints (Some (Judge origins file)) input text status = PrintsVerdict origins input text status
Prints (Some (Vectors file)) input text status = ShowsCheck input text status

-- an order that reads an input
abbrev pub ReadsInput : Option Order → Type 0
ReadsInput (Some (Judge origins file)) = Unit {0}
ReadsInput (Some (Vectors file)) = Unit {0}
ReadsInput order = ⊥
