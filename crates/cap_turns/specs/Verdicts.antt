-- The verdict on the bytes of a log that is judged a line at a time. All of it is this profile's own.
use Rattle.std.specs.Prelude.{◌≡◌, ◌≢◌, ℕ, ◌+◌, Bool, true, false, IsTrue, List, [], ◌++◌, length, take, Option, Some}
use Rattle.cap_ops.specs.declared.refusal.Refusal.TheVariants.{LineTooLong, Misplaced, Truncated}
use Rattle.cap_streams.specs.Front.{FrontIs, IsCut}
use Rattle.cap_log.specs.Parts.{Begins, ReadsAs}
use Rattle.cap_turns.specs.Turns.{Allows, Body, Due, Ended, First, Goes, Second, Stage, Turns, refusal_at}

-- the text is the front of these bytes, and where that is cut their source has ended
abbrev pub IsLastFront : List ℕ → Bool → List ℕ → Type 0
IsLastFront rest ended text = FrontIs rest (text ≡ take 96 rest) ((text ≡ rest) × (ended ≡ true)) (λ line. text ≡ line)

module _ {Line State Refusal : Type 0} (turns : Turns Line State Refusal) where
  -- the bytes are whole lines that lead from a stage to a stage, and a rest
  pub record IsBehind (start : Stage State Refusal) (bytes : List ℕ) (stage : Stage State Refusal) (rest : List ℕ) : Type 0 where
    pub front : List ℕ
    pub bytes_are : bytes ≡ front ++ rest
    pub goes : Goes turns start front stage

  -- why more bytes than a line has are refused
  abbrev pub long_refusal : Due Refusal → Refusal
  long_refusal First = turns.usual LineTooLong
  long_refusal Second = turns.usual LineTooLong
  long_refusal Body = turns.usual LineTooLong
  long_refusal due = turns.usual Misplaced

  -- the bytes end with less than a line where a line has to follow; or with some byte after the end line
  abbrev pub RefusesCut : Due Refusal → List ℕ → Refusal → Type 0
  RefusesCut Ended rest refusal = (rest ≢ []) × (refusal ≡ turns.usual Misplaced)
  RefusesCut due rest refusal = refusal ≡ turns.usual Truncated

  -- a whole line is refused at a stage
  abbrev pub RefusesWhole : Stage State Refusal → List ℕ → Refusal → Type 0
  RefusesWhole stage text refusal =
      (line : Option Line) × ReadsAs turns.IsInRange turns.spelling text line × (refusal_at turns stage line ≡ Some refusal)

  -- what follows is refused at a stage: a line that is too long, cut, or refused as a whole
  abbrev pub Refuses : Stage State Refusal → List ℕ → Refusal → Type 0
  Refuses stage rest refusal =
      FrontIs rest (refusal ≡ long_refusal stage.due) (RefusesCut stage.due rest refusal) (λ text. RefusesWhole stage text refusal)

  -- the bytes are a whole log, which leads to a stage
  pub record IsWhole (start : Stage State Refusal) (bytes : List ℕ) (stage : Stage State Refusal) : Type 0 where
    pub goes : Goes turns start bytes stage
    pub ended : stage.due ≡ Ended

  -- the bytes are lines that begin a log, and a rest that is refused: the line after those is the first faulty one
  pub record IsFirstFault (start : Stage State Refusal) (bytes : List ℕ) (number : ℕ) (refusal : Refusal) : Type 0 where
    pub stage : Stage State Refusal
    pub rest : List ℕ
    pub behind : IsBehind start bytes stage rest
    pub number_is : number ≡ length behind.goes.lines + 1
    pub refused : Refuses stage rest refusal

  -- the bytes begin with a line that no check refuses at a stage, and that may want memory, before this rest
  pub record Lacks (stage : Stage State Refusal) (bytes more : List ℕ) : Type 0 where
    pub line : Line
    pub begins : Begins turns.IsInRange turns.spelling 10 bytes line more
    pub allowed : Allows turns stage line
    pub wants : IsTrue (turns.wants stage.state line)

  -- the bytes are lines that begin a log, such a line, and more
  pub record MayLackMemory (start : Stage State Refusal) (bytes more : List ℕ) : Type 0 where
    pub stage : Stage State Refusal
    pub rest : List ℕ
    pub behind : IsBehind start bytes stage rest
    pub lacks : Lacks stage rest more

  -- whole lines that begin a log, and less than a line after them
  pub record BeginsLog (start : Stage State Refusal) (bytes : List ℕ) : Type 0 where
    pub stage : Stage State Refusal
    pub rest : List ℕ
    pub behind : IsBehind start bytes stage rest
    pub cut : IsCut rest

  -- a no with this line and refusal: the first fault of bytes whose source has ended; or one that stands whatever follows
  abbrev pub IsNo : Stage State Refusal → List ℕ → Bool → ℕ → Refusal → Type 0
  IsNo start bytes true line refusal = IsFirstFault start bytes line refusal
  IsNo start bytes false line refusal = (more : List ℕ) → IsFirstFault start (bytes ++ more) line refusal

  -- the bytes are lines that lead to a stage, and the line of this number, whose text is this
  pub record StopsBefore (start : Stage State Refusal) (bytes : List ℕ) (ended : Bool) (line : ℕ) (text : List ℕ) : Type 0 where
    pub stage : Stage State Refusal
    pub rest : List ℕ
    pub behind : IsBehind start bytes stage rest
    pub line_is : line ≡ length behind.goes.lines + 1
    pub front : IsLastFront rest ended text
