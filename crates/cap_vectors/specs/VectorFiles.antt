-- Vector files, and the first line of one that fails. All of it is this profile's own.
use Rattle.std.specs.Prelude.{◌≡◌, ◌≢◌, ℕ, ◌+◌, ◌-◌, ◌^◌, ◌<◌, ◌⊎◌, ⊤, Bool, true, false, List, [], ◌∷◌, ◌++◌, length}
use Rattle.std.specs.{Prelude.{flat_map, Result, IfOk, IfErr, codes, decimal}, List.AllByRecursion}
use Rattle.cap_streams.specs.{declared.sources.PullFault.PullFault, Front.{IsCut, FrontIs}}
use Rattle.cap_vectors.specs.declared.files.VectorVerdict.{VectorVerdict, TheVariants.{Pass, Fail}}
use Rattle.cap_vectors.specs.Vectors.{Vector, IsTrueVector, IsTrueLine, vector_spelling}

-- the line that fails whatever it holds, so that no file goes on for ever
abbrev pub last_line : ℕ
last_line = 2 ^ 64 - 1

-- the text of vectors: each one's line and a line feed
abbrev pub vector_text_of : List Vector → List ℕ
vector_text_of vectors = flat_map (λ vector. vector_spelling vector ++ 10 ∷ []) vectors

-- the bytes are so many lines that state something true, and a rest
pub record BeginsTrue (bytes : List ℕ) (count : ℕ) (rest : List ℕ) : Type 0 where
  pub vectors : List Vector
  pub count_is : count ≡ length vectors
  pub few : count < last_line
  pub all_true : AllByRecursion IsTrueVector vectors
  pub bytes_are : bytes ≡ vector_text_of vectors ++ rest

-- a whole line fails: it is the last one, or it states nothing true
abbrev pub FailsWhole : ℕ → List ℕ → Type 0
FailsWhole number line = (number ≡ last_line) ⊎ (IsTrueLine line → ⊥)

-- the line of this number is the first that fails: those before it state something true, and it is too long, lacks its
-- line feed, or is a whole line that fails
pub record FailsFirst (bytes : List ℕ) (number : ℕ) : Type 0 where
  pub before : ℕ
  pub rest : List ℕ
  pub begins : BeginsTrue bytes before rest
  pub number_is : number ≡ before + 1
  pub fails : FrontIs rest ⊤ (rest ≢ []) (FailsWhole number)

-- what is answered of these bytes, where they are all
abbrev pub IsVectorVerdict : List ℕ → VectorVerdict → Type 0
IsVectorVerdict bytes (Pass lines) = BeginsTrue bytes lines []
IsVectorVerdict bytes (Fail line) = FailsFirst bytes line

-- the verdict on these bytes, where their source has ended; where it has not, a fail that stands whatever bytes follow
abbrev pub IsVectorVerdictOf : List ℕ → Bool → VectorVerdict → Type 0
IsVectorVerdictOf bytes true verdict = IsVectorVerdict bytes verdict
IsVectorVerdictOf bytes false (Pass lines) = ⊥
IsVectorVerdictOf bytes false (Fail line) = (more : List ℕ) → FailsFirst (bytes ++ more) line

-- the whole lines state something true, and less than a line follows them
pub record BreaksOff (bytes : List ℕ) : Type 0 where
  pub count : ℕ
  pub rest : List ℕ
  pub begins : BeginsTrue bytes count rest
  pub cut : IsCut rest

-- an answer is that of the bytes that the source gave in the call
pub record Checked {S : Type 0} (gave : S → S → List ℕ → Type 0) (ended : S → Bool) (old new : S)
    (result : Result VectorVerdict PullFault) : Type 0 where
  pub given : List ℕ
  pub gives : gave old new given
  pub verdict : IfOk result (IsVectorVerdictOf given (ended new))
  pub fault : IfErr result (λ fault. BreaksOff given)

-- the verdict in a word and a decimal number, with its line feed
abbrev pub vector_line : VectorVerdict → List ℕ
vector_line (Pass lines) = codes "pass " ++ decimal lines ++ codes "\n"
vector_line (Fail line) = codes "fail " ++ decimal line ++ codes "\n"
