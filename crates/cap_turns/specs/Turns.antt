-- A log read a line at a time, each line allowed in its turn, whatever its lines say. All of it is this profile's own.
use Rattle.std.specs.Prelude.{◌≡◌, ℕ, ◌+◌, Bool, if◌then◌else◌, List, [], ◌∷◌, ◌++◌, flat_map, Option, Some, None}
use Rattle.std.specs.List.{AllByRecursion}
use Rattle.cap_ops.specs.declared.refusal.Refusal as every
use Rattle.cap_ops.specs.declared.refusal.Refusal.TheVariants.{BadHeader, BadLine, BadMode, Misplaced}

-- what the next line of a log has to be: the version line; the mode line; a root, a step or the end line; none, after
-- the end line; or none, after the faulty line with this number and this text
pub data Due (Refusal : Type 0) : Type 0 where
  First : Due Refusal
  Second : Due Refusal
  Body : Due Refusal
  Ended : Due Refusal
  Refused : (line : ℕ) (refusal : Refusal) (text : List ℕ) → Due Refusal

-- a line is faulty
abbrev pub IsAtFault : {Refusal : Type 0} → Due Refusal → Type 0
IsAtFault (Refused line refusal text) = Unit {0}
IsAtFault due = ⊥

-- how far a log is read: the state that its lines lead to, and what the next line has to be
pub record Stage (State Refusal : Type 0) : Type 0 where
  pub state : State
  pub due : Due Refusal

-- what the lines of a log are judged by
pub record Turns (Line State Refusal : Type 0) : Type 1 where
  -- which lines are in range, and how each is spelled
  pub IsInRange : Line → Type 0
  pub spelling : Line → List ℕ
  -- the version lines, and the mode lines
  pub opens : Line → Bool
  pub sets_mode : Line → Bool
  -- why a line after the header is refused at a state
  pub check : State → Line → Option Refusal
  -- the state after a line that is allowed, and what the line after it has to be
  pub after : State → Line → State
  pub next : Line → Due Refusal
  -- whether a line may want memory
  pub wants : State → Line → Bool
  -- how many lines lead to a state: those of the header, the roots and the steps
  pub read : State → ℕ
  -- a refusal that any log may have
  pub usual : every.Refusal → Refusal

module _ {Line State Refusal : Type 0} (turns : Turns Line State Refusal) where
  -- why a line is refused, or bytes that no line spells, by what the next line has to be
  abbrev pub refusal_by : State → Due Refusal → Option Line → Option Refusal
  refusal_by state First (Some line) = if turns.opens line then None else Some (turns.usual BadHeader)
  refusal_by state First None = Some (turns.usual BadHeader)
  refusal_by state Second (Some line) = if turns.sets_mode line then None else Some (turns.usual BadMode)
  refusal_by state Second None = Some (turns.usual BadMode)
  refusal_by state Body (Some line) = turns.check state line
  refusal_by state Body None = Some (turns.usual BadLine)
  refusal_by state due line = Some (turns.usual Misplaced)

  -- why one is refused at a stage
  abbrev pub refusal_at : Stage State Refusal → Option Line → Option Refusal
  refusal_at stage line = refusal_by stage.state stage.due line

  -- a line that nothing refuses at a stage
  abbrev pub Allows : Stage State Refusal → Line → Type 0
  Allows stage line = refusal_at stage (Some line) ≡ None

  -- the stage after a line that is allowed
  abbrev pub next_stage : Stage State Refusal → Line → Stage State Refusal
  next_stage stage line = record { state = turns.after stage.state line; due = turns.next line }

  -- lines, each allowed at the stage after those before it, lead from a stage to a stage
  abbrev pub Reads : Stage State Refusal → List Line → Stage State Refusal → Type 0
  Reads from [] to = from ≡ to
  Reads from (line ∷ lines) to = Allows from line × Reads (next_stage from line) lines to

  -- the text of lines: each line's spelling and a line feed
  abbrev pub text_of : List Line → List ℕ
  text_of lines = flat_map (λ line. turns.spelling line ++ 10 ∷ []) lines

  -- the bytes are lines that lead from a stage to a stage
  pub record Goes (old : Stage State Refusal) (bytes : List ℕ) (new : Stage State Refusal) : Type 0 where
    pub lines : List Line
    pub in_range : AllByRecursion turns.IsInRange lines
    pub bytes_are : bytes ≡ text_of lines
    pub reads : Reads old lines new

  -- how many lines were read, where none is faulty
  abbrev pub lines_by : State → Due Refusal → ℕ
  lines_by state First = 0
  lines_by state Second = 1
  lines_by state Body = turns.read state
  lines_by state due = turns.read state + 1

  abbrev pub lines_read : Stage State Refusal → ℕ
  lines_read stage = lines_by stage.state stage.due
