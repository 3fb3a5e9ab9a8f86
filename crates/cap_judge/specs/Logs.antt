-- Logs, how they begin, and the first fault of bytes that are none. All of it is this profile's own.
use Rattle.std.specs.Prelude.{◌≡◌, ◌≢◌, ℕ, ◌+◌, ◌≤◌, ◌==◌, Bool, true, false, not, nat_eq, nat_lt, ◌⊎◌, List, [], ◌∷◌}
use Rattle.std.specs.Prelude.{◌++◌, length, map, flat_map, Option, Some, None, IsTrue}
use Rattle.std.specs.List.{AllByRecursion, IsDistinct}
use Rattle.cap_bounds.specs.Bounds.{is_sound}
use Rattle.cap_ops.specs.declared.refusal.Refusal.{Refusal, TheVariants.{BadHeader, LineTooLong, BadLine, Misplaced}}
use Rattle.cap_ops.specs.{declared.refusal.Refusal.TheVariants.{Truncated, WrongCount, BadMode}, Checks.first_of}
use Rattle.cap_log.specs.declared.lines.Line.{Line, TheVariants.{Version, Mode, Root, Step, End}}
use Rattle.cap_log.specs.{declared.lines.Mode.TheVariants.{Strict, Clear}, Lines.{spelling, IsInRange, Spells}}
use Rattle.cap_streams.specs.Front.{FrontIs}
use Rattle.cap_log.specs.declared.kinds.Step as steps_module
use Rattle.cap_log.specs.declared.lines.Mode as modes_module
pub use Rattle.cap_machine.specs.RunAccounts.{account_after}
use Rattle.cap_machine.specs.{declared.rules.Rules.{Rules, TheVariants.{One, TwoStrict, TwoClear}}, Accounts.Account}
use Rattle.cap_machine.specs.Accounts.{most_roots, most_granules, most_steps, granule_of, named_by, is_new, root_checks}
use Rattle.cap_machine.specs.{Accounts.{row_in, step_checks}, Runs.IsRun, States.{State, DeclaredRoot, key_of, start}}

-- how a log begins: not at all; with the version line of version 2 alone; with its header, roots and steps; or with
-- its end line too
pub data Beginning : Type 0 where
  Empty : Beginning
  NoMode : Beginning
  Body : (rules_are : Rules) (roots : List DeclaredRoot) (steps : List steps_module.Step) → Beginning
  Whole : (rules_are : Rules) (roots : List DeclaredRoot) (steps : List steps_module.Step) → Beginning

-- the lines that say the rules
abbrev pub header_lines : Rules → List Line
header_lines One = Version 1 ∷ []
header_lines TwoStrict = Version 2 ∷ Mode Strict ∷ []
header_lines TwoClear = Version 2 ∷ Mode Clear ∷ []

-- the lines of a body: its header, a line for each root, and one for each step
abbrev pub body_lines : Rules → List DeclaredRoot → List steps_module.Step → List Line
body_lines rules roots steps = header_lines rules ++ (map (λ root. Root root.place root.word) roots ++ map Step steps)

-- the lines of a beginning
abbrev pub lines_of : Beginning → List Line
lines_of Empty = []
lines_of NoMode = Version 2 ∷ []
lines_of (Body rules roots steps) = body_lines rules roots steps
lines_of (Whole rules roots steps) = body_lines rules roots steps ++ End (length steps) ∷ []

-- the text of lines: each line's spelling and a line feed
abbrev pub text_of : List Line → List ℕ
text_of lines = flat_map (λ line. spelling line ++ 10 ∷ []) lines

-- roots and steps in range and within the limits, with sound roots at distinct places, whose steps have a run by the
-- rules
pub record RunsBy (rules : Rules) (roots : List DeclaredRoot) (steps : List steps_module.Step) : Type 0 where
  pub grammar : AllByRecursion IsInRange (body_lines rules roots steps)
  pub distinct : IsDistinct nat_eq (map (λ root. key_of root.place) roots)
  pub sound : AllByRecursion (λ root. IsTrue (is_sound root.word.0)) roots
  pub few_roots : length roots ≤ most_roots
  pub few_granules : (account_after rules roots steps).granules ≤ most_granules rules
  pub few_steps : length steps ≤ most_steps
  pub run : (states : List State) × IsRun rules (start roots) steps states

-- a beginning that is accepted
abbrev pub IsAccepted : Beginning → Type 0
IsAccepted (Body rules roots steps) = RunsBy rules roots steps
IsAccepted (Whole rules roots steps) = RunsBy rules roots steps
IsAccepted beginning = Unit {0}

-- the bytes are a log whose steps have a run
pub record IsLogOf (bytes : List ℕ) (rules : Rules) (roots : List DeclaredRoot) (steps : List steps_module.Step) : Type 0 where
  pub bytes_are : bytes ≡ text_of (body_lines rules roots steps ++ End (length steps) ∷ [])
  pub runs : RunsBy rules roots steps

-- whether a line has a form by the rules: version 1 has no mode line, and no version line but its own
abbrev pub has_form : Rules → Line → Bool
has_form One (Version version) = version == 1
has_form One (Mode mode) = false
has_form rules line = true

-- the bytes are the spelling of a line that has a form by the rules
abbrev pub SpellsBy : Rules → List ℕ → Line → Type 0
SpellsBy rules bytes line = Spells bytes line × IsTrue (has_form rules line)

-- the checks of a line with a form, after a body with this account
abbrev pub line_checks : Account → Line → List (Bool × Refusal)
line_checks account (Root place word) = (nat_lt 0 account.steps, Misplaced) ∷ root_checks account place word
line_checks account (Step step) = step_checks account step
line_checks account (End count) = (not (count == account.steps), WrongCount) ∷ []
line_checks account line = (true, Misplaced) ∷ []

-- the granule that a line names: a root's, an sc's or a store's
abbrev pub named_by_line : Account → Line → Option ℕ
named_by_line account (Root place word) = granule_of place
named_by_line account (Step step) = named_by (row_in account step)
named_by_line account line = None

-- the bytes have no form, or a form whose first failed check is this refusal
abbrev pub RefusesLine : Account → List ℕ → Refusal → Type 0
RefusesLine account bytes refusal =
    (((line : Line) → SpellsBy account.rules bytes line → ⊥) × (refusal ≡ BadLine))
    ⊎ ((line : Line) × SpellsBy account.rules bytes line × (first_of (line_checks account line) ≡ Some refusal))

-- a whole line after a beginning is refused
abbrev pub RefusesWhole : Beginning → List ℕ → Refusal → Type 0
RefusesWhole Empty bytes refusal = ((version : ℕ) → Spells bytes (Version version) → ⊥) × (refusal ≡ BadHeader)
RefusesWhole NoMode bytes refusal = ((mode : modes_module.Mode) → Spells bytes (Mode mode) → ⊥) × (refusal ≡ BadMode)
RefusesWhole (Body rules roots steps) bytes refusal = RefusesLine (account_after rules roots steps) bytes refusal
RefusesWhole (Whole rules roots steps) bytes refusal = ⊥

-- what follows a beginning is refused: any byte after the end line; before it a line that is too long, cut, or
-- refused as a whole
abbrev pub Refuses : Beginning → List ℕ → Refusal → Type 0
Refuses (Whole rules roots steps) rest refusal = (rest ≢ []) × (refusal ≡ Misplaced)
Refuses beginning rest refusal = FrontIs rest (refusal ≡ LineTooLong) (refusal ≡ Truncated) (λ line. RefusesWhole beginning line refusal)

-- the bytes are the text of an accepted beginning, and a rest that is refused: the line after the beginning is the
-- first faulty one
pub record IsFirstFault (bytes : List ℕ) (number : ℕ) (refusal : Refusal) : Type 0 where
  pub beginning : Beginning
  pub rest : List ℕ
  pub bytes_are : bytes ≡ text_of (lines_of beginning) ++ rest
  pub accepted : IsAccepted beginning
  pub number_is : number ≡ length (lines_of beginning) + 1
  pub refused : Refuses beginning rest refusal

-- the bytes are the text of a body whose steps have a run, a line that fails no check and names a granule for the
-- first time, and more
pub record MayLackMemory (bytes more : List ℕ) : Type 0 where
  pub rules : Rules
  pub roots : List DeclaredRoot
  pub steps : List steps_module.Step
  pub line : Line
  pub text : List ℕ
  pub bytes_are : bytes ≡ text_of (body_lines rules roots steps) ++ text ++ 10 ∷ more
  pub runs : RunsBy rules roots steps
  pub spelled : SpellsBy rules text line
  pub free : first_of (line_checks (account_after rules roots steps) line) ≡ None
  pub first : IsTrue (is_new (account_after rules roots steps) (named_by_line (account_after rules roots steps) line))

-- memory may be lacked for a granule that a line of the bytes names, once at least so many granules were named
abbrev pub LacksRoom : ℕ → List ℕ → Type 0
LacksRoom room bytes =
    (more : List ℕ) × (lacks : MayLackMemory bytes more) × (room ≤ (account_after lacks.rules lacks.roots lacks.steps).granules)

-- no line of the bytes, after lines in range, names a granule, whatever the account
abbrev pub NamesNoGranules : List ℕ → Type 0
NamesNoGranules bytes =
    (lines : List Line) (text more : List ℕ) (line : Line) (account : Account) → AllByRecursion IsInRange lines
    → bytes ≡ text_of lines ++ text ++ 10 ∷ more → Spells text line → named_by_line account line ≡ None
