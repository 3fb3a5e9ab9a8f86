-- What a run of a program writes, and which fault it tells. All of it is this profile's own.
use Rattle.std.specs.Prelude.{◌≡◌, ◌≢◌, ◌≤◌, ◌↔◌, ℕ, ◌⊎◌, List, [], take, Option, Result, IfOk, IfErr}
use Rattle.std.specs.Io.KnownBytes.{Appends, Consumes, Keeps}
use Rattle.cap_program.specs.{declared.faults.Fault.{Fault, TheVariants.Write}, Commands.Meaning}
use Rattle.cap_program.specs.Faults.{fault_line, status_of}

-- nothing, or a beginning of a text that is printed with some status
abbrev pub BeginsText : (List ℕ → ℕ → Type 0) → List ℕ → Type 0
BeginsText prints written =
    (written ≡ []) ⊎ ((text : List ℕ) × (status : ℕ) × prints text status × (n : ℕ) × (written ≡ take n text))

-- the fault that belongs to an input: there was a text that could not be written, or another fault of bytes that were
-- read
abbrev pub TellsFault : (List ℕ → ℕ → Type 0) → (List ℕ → Fault → Type 0) → Option (List ℕ) → Fault → Type 0
TellsFault prints fails input Write = (text : List ℕ) × (status : ℕ) × prints text status
TellsFault prints fails input fault = (given : List ℕ) × (rest : Option (List ℕ)) × Consumes input rest given × fails given fault

-- what was written for an order by the exit status, and the fault that was told
pub record Ran (prints : List ℕ → ℕ → Type 0) (belongs : Fault → Type 0) (faulty : Type 0) (before after : Option (List ℕ))
    (done : Result ℕ Fault) (status : ℕ) : Type 0 where
  pub range : status ≤ 3
  pub low : IfOk done (λ shown. status ≤ 1)
  pub printed : status ≤ 1 → (text : List ℕ) × prints text status × Appends before after text
  pub asked : (status ≡ 2) ↔ faulty
  pub kept : status ≡ 2 → Keeps before after
  pub stopped : status ≡ 3 → (written : List ℕ) × BeginsText prints written × Appends before after written
  pub failed : IfErr done (λ fault. belongs fault × (status_of fault ≡ status) × (fault ≢ Write → Keeps before after))

-- what a run wrote and told for an order, by the exit status
pub record IsRan {C : Type 0} (m : Meaning C) (order : Option C) (input : Option (List ℕ)) (is_missing : Type 0)
    (before after faults faults_after : Option (List ℕ)) (status : ℕ) : Type 0 where
  pub range : status ≤ 3
  -- at status 0 and 1 the output gained just the text that belongs to the order and the known bytes of the input; at status 2 it kept what
  -- it had; at status 3 it gained nothing, or a beginning of that text. Where the input is missing the status is 3, and nothing was printed
  pub printed : status ≤ 1 → (text : List ℕ) × m.prints order input text status × Appends before after text
  pub asked : (status ≡ 2) ↔ m.is_faulty order
  pub kept : status ≡ 2 → Keeps before after
  pub stopped : status ≡ 3 → (written : List ℕ) × BeginsText (m.prints order input) written × Appends before after written
  pub missing : m.reads_input order → is_missing → (status ≡ 3) × Keeps before after
  -- at status 0 and 1 no fault was told; at 2 and 3 a beginning of the line of the fault that belongs to the order, its input and the status.
  -- But for a fault of the output, that kept what it had
  pub silent : status ≤ 1 → Keeps faults faults_after
  pub told : 2 ≤ status → (fault : Fault) × TellsFault (m.prints order input) (m.fails order) input fault × (status_of fault ≡ status)
      × (n : ℕ) × Appends faults faults_after (take n (fault_line (m.front order fault) fault)) × (fault ≢ Write → Keeps before after)
