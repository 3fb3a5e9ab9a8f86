-- What belongs to an order and to the bytes that were given for it. All of it is this profile's own.
use Rattle.std.specs.Prelude.{◌≡◌, ℕ, ◌^◌, ◌<◌, Bool, true, List, Option, Some, None, codes}
use Rattle.cap_texts.specs.ExplainLines.{explain_lines}
use Rattle.cap_vectors.specs.declared.files.VectorVerdict.{VectorVerdict}
use Rattle.cap_vectors.specs.VectorFiles.{BreaksOff, IsVectorVerdictOf, vector_line}
use Rattle.cap_judge.specs.{Judgings.IsAnswerOf, Reports.Tells, VerdictLines.verdict_status}
use Rattle.cap_program.specs.{declared.faults.Fault.{Fault, TheVariants.{BadWords, BadWord, Read}}, Commands.Meaning}
use Rattle.cap_program.specs.Judging.{ShowsVerdict, StopsJudging}
use Rattle.capcheck.specs.declared.words.Order.{Order, TheVariants.{Explain, Round, Judge, Vectors}}
use Rattle.capcheck.specs.Answers.{Prints, ReadsInput, ShowsRounding, vector_status}
use Rattle.capcheck.specs.Operands.{IsFaulty, SpellsWord, RefusesRequest}

-- the text of the verdict on the bytes given as a vector file, and its status
abbrev pub ShowsCheckOf : List ℕ → Bool → List ℕ → ℕ → Type 0
ShowsCheckOf given ended text status =
    (verdict : VectorVerdict) × IsVectorVerdictOf given ended verdict × (text ≡ vector_line verdict) × (status ≡ vector_status verdict)

-- the text that belongs to an order and the bytes given for it, and its status
abbrev pub Shows : Option Order → List ℕ → Bool → List ℕ → ℕ → Type 0
Shows None given ended text status = ⊥
Shows (Some (Explain memory tag hex)) given ended text status =
    (w : ℕ) × (w < 2 ^ 128) × SpellsWord memory hex.now w × (text ≡ explain_lines w tag) × (status ≡ 0)
Shows (Some (Round base_word length_word)) given ended text status = ShowsRounding base_word.now length_word.now text × (status ≡ 0)
Shows (Some (Judge origins file)) given ended text status =
    ShowsVerdict verdict_status (IsAnswerOf given ended) (Tells origins given) text status
Shows (Some (Vectors file)) given ended text status = ShowsCheckOf given ended text status

-- why the bytes given were not checked as a vector file: reading failed behind lines that are true
abbrev pub StopsChecking : List ℕ → Fault → Type 0
StopsChecking given Read = BreaksOff given
StopsChecking given fault = ⊥

-- the fault that belongs to an order and the bytes given for it, but for one of the output: there is no order; a word,
-- or two, are not of their form; the request ends above the address space; or reading failed, or memory was wanted
abbrev pub Fails : Option Order → List ℕ → Fault → Type 0
Fails None given BadWords = Unit {0}
Fails (Some (Explain memory tag hex)) given BadWord = (w : ℕ) → w < 2 ^ 128 → SpellsWord memory hex.now w → ⊥
Fails (Some (Round base_word length_word)) given fault = RefusesRequest base_word.now length_word.now fault
Fails (Some (Judge origins file)) given fault = StopsJudging (IsAnswerOf given true) fault
Fails (Some (Vectors file)) given fault = StopsChecking given fault
Fails order given fault = ⊥

-- what the orders of the program mean
abbrev pub order_meaning : Meaning Order
order_meaning = record {
  front = λ order fault. codes "capcheck: ";
  shows = Shows;
  fails = Fails;
  prints = Prints;
  is_faulty = IsFaulty;
  reads_input = ReadsInput;
}
