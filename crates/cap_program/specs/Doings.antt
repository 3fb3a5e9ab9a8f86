-- What a program does with an order, over any streams. All of it is this profile's own.
use Rattle.std.specs.Prelude.{◌≡◌, ◌≢◌, ℕ, Bool, false, ◌⊎◌, List, [], take, Option, Some, None, Result, Ok, Err, IfOk}
use Rattle.std.specs.Prelude.{IfErr}
use Rattle.cap_streams.specs.Streams.{next_count}
use Rattle.cap_program.specs.{declared.faults.Fault.{Fault, TheVariants.{Read, Write}}, Commands.Meaning}
use Rattle.cap_program.specs.Faults.{fault_line}

-- the bytes that an input has left, where there is one and they are known
abbrev pub known_bytes : {R : Type 0} → (R → Option (List ℕ)) → Option R → Option (List ℕ)
known_bytes remaining None = None
known_bytes remaining (Some reader) = remaining reader

-- the bytes that an input gave, where there is one
abbrev pub gave_by : {S : Type 0} → (S → S → List ℕ → Type 0) → Option S → Option S → List ℕ → Type 0
gave_by gave (Some before) (Some after) given = gave before after given
gave_by gave (Some before) None given = ⊥
gave_by gave None after given = given ≡ []

-- whether an input has ended; one that isn't there has not
abbrev pub ended_by : {S : Type 0} → (S → Bool) → Option S → Bool
ended_by ended (Some input) = ended input
ended_by ended None = false

-- what was done for an order: its text was taken, with its status; a beginning of that text, where the output failed;
-- or nothing, for another fault that belongs to it
abbrev pub IsDone : (List ℕ → ℕ → Type 0) → (Fault → Type 0) → (List ℕ → Type 0) → Result ℕ Fault → Type 0
IsDone shows fails took (Ok status) = (text : List ℕ) × shows text status × took text
IsDone shows fails took (Err Write) = (text : List ℕ) × (status : ℕ) × shows text status × (n : ℕ) × took (take n text)
IsDone shows fails took (Err fault) = fails fault × took []

-- a stream counts one fault more just where this fault is the answer
pub record IsCounted (fault : Fault) (done : Result ℕ Fault) (before after : ℕ) : Type 0 where
  pub counted : done ≡ Err fault → after ≡ next_count before
  pub uncounted : done ≢ Err fault → after ≡ before

-- the same of an input, where there is one
abbrev pub IsInputCounted : {S : Type 0} → (S → ℕ) → Result ℕ Fault → Option S → Option S → Type 0
IsInputCounted faults done (Some before) (Some after) = IsCounted Read done (faults before) (faults after)
IsInputCounted faults done (Some before) None = ⊥
IsInputCounted faults done None after = Unit {0}

-- what was done, once its text was handed on: the same, or a fault of the output that counted one
abbrev pub IsHandedOn : Result ℕ Fault → ℕ → ℕ → Result ℕ Fault → Type 0
IsHandedOn (Ok status) before after done =
    ((done ≡ Ok status) × (after ≡ before)) ⊎ ((done ≡ Err Write) × (after ≡ next_count before))
IsHandedOn (Err fault) before after done = (done ≡ Err fault) × (after ≡ before)

-- a text was taken, or a beginning of it by a sink that counted a fault
abbrev pub IsPushed : {F : Type 0} → (F → F → List ℕ → Type 0) → (F → ℕ) → F → F → List ℕ → Type 0
IsPushed took faults before after text =
    ((faults after ≡ faults before) × took before after text)
    ⊎ ((faults after ≡ next_count (faults before)) × ((n : ℕ) × took before after (take n text)))

-- what was done for an order over an input and an output
pub record IsFollowed {C S K : Type 0} (m : Meaning C) (order : Option C) (gave : S → S → List ℕ → Type 0) (ended : S → Bool)
    (pulls : S → ℕ) (took : K → K → List ℕ → Type 0) (pushes : K → ℕ) (before after : Option S) (out out_after : K) (answer : Result ℕ Fault)
    : Type 0 where
  -- the text is the one that belongs to the order and the bytes that its input gave, and so is the status; for a fault of the output a
  -- beginning of that text was taken, and for each other fault nothing
  pub done : (given : List ℕ) × gave_by gave before after given
      × IsDone (m.shows order given (ended_by ended after)) (m.fails order given) (took out out_after) answer
  -- a read fault comes just where the input is missing or counted a fault, a write fault just where the output did
  pub read : IsInputCounted pulls answer before after
  pub missing : m.reads_input order → before ≡ None → answer ≡ Err Read
  pub written : IsCounted Write answer (pushes out) (pushes out_after)

-- what was told of it, where the line of each fault begins with this: with a status nothing; with a fault a beginning of its line
-- was taken, and the whole line unless a fault was counted
pub record TellsFaultLine {F : Type 0} (front : Fault → List ℕ) (took : F → F → List ℕ → Type 0) (faults : F → ℕ) (answer : Result ℕ Fault)
    (before after : F) : Type 0 where
  pub silent : IfOk answer (λ status. after ≡ before)
  pub told : IfErr answer (λ fault. (n : ℕ) × took before after (take n (fault_line (front fault) fault)))
  pub whole : IfErr answer (λ fault. IsPushed took faults before after (fault_line (front fault) fault))
