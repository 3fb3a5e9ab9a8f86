-- What a judge of lines has read of the bytes that it was handed. All of it is this profile's own.
use Rattle.std.specs.Prelude.{◌≡◌, ◌⊎◌, ℕ, ◌+◌, false, IsTrue, List, [], ◌++◌, Option, None, Some}
use Rattle.cap_ops.specs.declared.refusal.Refusal.TheVariants.{Misplaced, Truncated}
use Rattle.cap_streams.specs.Front.{IsCut, IsLine, IsTooLong}
use Rattle.cap_turns.specs.declared.stops.Stop.{Stop, TheVariants.{Cut, Fault, NoMemory}}
use Rattle.cap_turns.specs.Turns.{Allows, Due, Ended, Goes, IsAtFault, Refused, Stage, Turns, lines_by, refusal_at, next_stage}
use Rattle.cap_turns.specs.Verdicts.{IsLastFront, Lacks, RefusesWhole, long_refusal}

-- the bytes are one line with its line feed, or begin with more bytes than a line has
abbrev pub IsWholeLine : List ℕ → Type 0
IsWholeLine bytes = ((text : List ℕ) × IsLine bytes text []) ⊎ IsTooLong bytes

-- they are neither
abbrev pub IsNoLine : List ℕ → Type 0
IsNoLine bytes = ((text : List ℕ) → IsLine bytes text [] → ⊥) × (IsTooLong bytes → ⊥)

module _ {Line State Refusal : Type 0} (turns : Turns Line State Refusal) where
  -- a line that is allowed leads from a stage to a stage
  abbrev pub Takes : Stage State Refusal → Line → Stage State Refusal → Type 0
  Takes old line new = Allows turns old line × (new ≡ next_stage turns old line)

  -- why a line is not taken: it is refused; or nothing refuses it, and it may want memory
  abbrev pub EndsLine : Stage State Refusal → Line → Option Refusal → Type 0
  EndsLine stage line (Some refusal) = refusal_at turns stage (Some line) ≡ Some refusal
  EndsLine stage line None = Allows turns stage line × IsTrue (turns.wants stage.state line)

  -- what the bytes begin with is refused at a stage, whatever follows them: a whole line, or more bytes than a line has
  abbrev pub RefusesNext : Stage State Refusal → List ℕ → Refusal → Type 0
  RefusesNext stage bytes refusal =
      ((text : List ℕ) × (more : List ℕ) × IsLine bytes text more × RefusesWhole turns stage text refusal)
      ⊎ (IsTooLong bytes × (refusal ≡ long_refusal turns stage.due))

  -- why what the bytes begin with is not taken
  abbrev pub EndsBytes : Stage State Refusal → List ℕ → Option Refusal → Type 0
  EndsBytes stage bytes (Some refusal) = RefusesNext stage bytes refusal
  EndsBytes stage bytes None = (more : List ℕ) × Lacks turns stage bytes more

  -- the next line as the faulty one
  abbrev pub refused_by : State → Due Refusal → Refusal → List ℕ → Due Refusal
  refused_by state due refusal text = Refused (lines_by turns state due + 1) refusal text

  -- a line is faulty: one before the bytes, or the first is what they begin with
  abbrev pub Faults : Stage State Refusal → List ℕ → Stage State Refusal → Type 0
  Faults old bytes new =
      (IsAtFault old.due × (new ≡ old))
      ⊎ ((IsAtFault old.due → ⊥) × (refusal : Refusal) × (text : List ℕ) × RefusesNext old bytes refusal × IsLastFront bytes false text
      × (new ≡ record { state = old.state; due = refused_by old.state old.due refusal text }))

  -- the bytes lead from a stage to a stage: they are lines, or lines before what begins with a faulty one
  abbrev pub Follows : Stage State Refusal → List ℕ → Stage State Refusal → Type 0
  Follows old bytes new =
      Goes turns old bytes new
      ⊎ ((front : List ℕ) × (rest : List ℕ) × (bytes ≡ front ++ rest) × (middle : Stage State Refusal) × Goes turns old front middle
      × Faults middle rest new)

  -- a judge that was handed a front and a rest took the front and stopped: the rest is less than a line; or begins with a
  -- faulty line; or with a line that nothing refuses and that may want memory
  abbrev pub StopsAt : Stage State Refusal → List ℕ → List ℕ → Stop → Stage State Refusal → Type 0
  StopsAt old front rest Cut new = Goes turns old front new × IsCut rest × (IsAtFault new.due → ⊥)
  StopsAt old front rest Fault new = (middle : Stage State Refusal) × Goes turns old front middle × Faults middle rest new
  StopsAt old front rest NoMemory new = Goes turns old front new × (more : List ℕ) × Lacks turns new rest more

  -- what is due where a log ends with these bytes, which are less than a line: they are faulty, or none after the end line
  abbrev pub due_at_end : State → Due Refusal → List ℕ → Due Refusal
  due_at_end state Ended [] = Ended
  due_at_end state Ended rest = refused_by state Ended (turns.usual Misplaced) rest
  due_at_end state (Refused line refusal text) rest = Refused line refusal text
  due_at_end state due rest = refused_by state due (turns.usual Truncated) rest
