-- Where the judge is, and what it may answer there.
use Rattle.std.specs.List.{AllByRecursion}
use Rattle.std.proofs.Common.{◌≡◌, ℕ, zero, suc, ◌+◌, true, List, [], ◌∷◌, ◌++◌, length, map, refl, sym, ap, subst, ◌∙◌}
use Rattle.std.proofs.Common.{append_assoc, false, arith, Result, Ok, Err, IsOk, IfErr, eqb-true, leb-true, Option}
use Rattle.std.proofs.{Common.{Some, None, IsTrue}, lemmas.{Bool.{false≢true, and_parts}, Grind.flat_map-append}}
use Rattle.std.proofs.lemmas.Option.{none-some}
use Rattle.cap_bounds.specs.Bounds.{IsSound, is_sound}
use Rattle.cap_ops.specs.declared.refusal.Refusal.{Refusal, TheVariants.{LineTooLong, Truncated}}
use Rattle.cap_streams.specs.{declared.judging.judge_faults.JudgeFault.JudgeFault, Front.FrontIs}
use Rattle.cap_log.specs.declared.{kinds.Step.Step, lines.Line.Line}
use Rattle.cap_log.specs.Lines.{Spells, spelling, IsInRange, IsStepInRange}
use Rattle.cap_log.proofs.SpellingLemmas.{one_spelling}
use Rattle.cap_machine.specs.{declared.rules.Rules.{Rules, TheVariants.One}, Accounts.{Account, is_new}}
use Rattle.cap_machine.specs.{Escapes.ClearsExactly, Runs.{AreSound, IsRun}, States.{State, DeclaredRoot, start}}
use Rattle.cap_machine.proofs.{AccessLemmas.lie_inside, AuthorityLemmas.one_root, EscapeLemmas.clears_along}
use Rattle.cap_judge.specs.{declared.verdict.Verdict.Verdict, Judgings.IsBehind, Logs.{Beginning, Whole, header_lines}}
use Rattle.cap_judge.specs.Logs.{body_lines, lines_of, text_of, account_after, RunsBy, RefusesWhole, SpellsBy, has_form}
use Rattle.cap_judge.specs.Logs.{Refuses, IsFirstFault, MayLackMemory, IsLogOf, NamesNoGranules, named_by_line}
use Rattle.cap_judge.specs.Verdicts.{IsYes, IsGuarded, NoVerdictIn}

-- a line that is read and has no form is no line by the rules
pub no_form : (rules_are : Rules) (bytes : List ℕ) (line : Line) → Spells bytes line → has_form rules_are line ≡ false → (other : Line)
    → SpellsBy rules_are bytes other → ⊥
no_form rules_are bytes line spells formless other by =
    false≢true (sym formless ∙ ap (has_form rules_are) (one_spelling bytes line other spells by.0) ∙ by.1)

-- one line more
pub text_push : (lines : List Line) (line : Line) (rest : List ℕ)
    → text_of (lines ++ line ∷ []) ++ rest ≡ text_of lines ++ (spelling line ++ 10 ∷ rest)
text_push lines line rest = simp (flat_map-append, append_assoc)

-- a beginning that goes on: it has no end line
abbrev pub IsUnended : Beginning → Type 0
IsUnended (Whole rules_are roots steps) = ⊥
IsUnended beginning = Unit {0}

-- the front of what follows a beginning is refused
abbrev pub RefusesFront : Beginning → List ℕ → Refusal → Type 0
RefusesFront beginning rest refusal =
    FrontIs rest (refusal ≡ LineTooLong) (refusal ≡ Truncated) (λ line. RefusesWhole beginning line refusal)

-- the line behind a beginning can be refused by its front
pub front_refused : (beginning : Beginning) (rest : List ℕ) (refusal : Refusal) → IsUnended beginning → RefusesFront beginning rest refusal
    → Refuses beginning rest refusal
front_refused (Whole rules_are roots steps) rest refusal unended refused = absurd unended
front_refused beginning rest refusal unended refused = refused

-- behind an accepted beginning the first line that is refused is the first fault
pub fault_behind : (bytes rest : List ℕ) (beginning : Beginning) (refusal : Refusal) → IsBehind bytes beginning rest
    → Refuses beginning rest refusal → IsFirstFault bytes (length (lines_of beginning) + 1) refusal
fault_behind bytes rest beginning refusal here refused = record {
  beginning = beginning;
  rest = rest;
  bytes_are = here.bytes_are;
  accepted = here.accepted;
  number_is = refl;
  refused = refused;
}

-- more bytes behind the rest
pub behind_more : (bytes rest more : List ℕ) (beginning : Beginning) → IsBehind bytes beginning rest
    → IsBehind (bytes ++ more) beginning (rest ++ more)
behind_more bytes rest more beginning here = record {
  bytes_are = ap (λ (l : List ℕ). l ++ more) here.bytes_are ∙ simp (append_assoc);
  accepted = here.accepted;
}

-- a log whose steps have a run is a yes
pub yes_of : (bytes : List ℕ) (rules_are : Rules) (roots : List DeclaredRoot) (steps : List Step)
    → bytes ≡ text_of (lines_of (Whole rules_are roots steps)) → RunsBy rules_are roots steps → IsYes bytes (length steps) (length roots)
yes_of bytes rules_are roots steps are runs = record {
  rules = rules_are;
  roots = roots;
  steps = steps;
  log = record { bytes_are = are; runs = runs };
  step_count_is = refl;
  root_count_is = refl;
}

-- a line that names no granule names none for the first time
not_new : (account : Account) (granule : Option ℕ) → granule ≡ None → is_new account granule ≡ true → ⊥
not_new account None none new = false≢true new
not_new account (Some granule) none new = none-some granule (sym none)

pub no_lack : (bytes more : List ℕ) → NamesNoGranules bytes → MayLackMemory bytes more → ⊥
no_lack bytes more none lack =
    let account = account_after lack.rules lack.roots lack.steps in
    let lines = body_lines lack.rules lack.roots lack.steps in
    not_new account (named_by_line account lack.line)
    (none lines lack.text more lack.line account lack.runs.grammar lack.bytes_are lack.spelled.0) lack.first

-- a log without lines that name granules has a verdict
pub answered : (bytes : List ℕ) (result : Result Verdict JudgeFault) → IfErr result (NoVerdictIn bytes) → NamesNoGranules bytes → IsOk result
answered bytes (Ok verdict) fault none = refl
answered bytes (Err JudgeFault.Pull) fault none = absurd fault
answered bytes (Err JudgeFault.NoMemory) fault none = absurd (no_lack bytes fault.0 none fault.1)

-- the steps of lines in range are in range
pub steps_in_range : (roots : List DeclaredRoot) (made : List Step)
    → AllByRecursion IsInRange (map (λ (root : DeclaredRoot). Line.Root root.place root.word) roots ++ map Line.Step made)
    → AllByRecursion IsStepInRange made
steps_in_range [] [] h = tt
steps_in_range [] (step ∷ made) h = (h.0, steps_in_range [] made h.1)
steps_in_range (root ∷ roots) made h = steps_in_range roots made h.1

-- sound roots, one by one
pub are_sound : (roots : List DeclaredRoot) → AllByRecursion (λ (root : DeclaredRoot). IsTrue (is_sound root.word.0)) roots → AreSound roots
are_sound [] all root there = absurd (omega (arith, there.1))
are_sound (first ∷ roots) all root (zero, below, is) =
    let parts = and_parts _ _ all.0 in subst (λ (r : DeclaredRoot). IsSound r.word.0) is (eqb-true _ _ parts.0, leb-true _ _ parts.1)
are_sound (first ∷ roots) all root (suc index, below, is) = are_sound roots all.1 root (index, omega arith, is)

-- what holds of each line of a log holds of those behind its header
pub behind_header : (rules_are : Rules) (lines : List Line) → AllByRecursion IsInRange (header_lines rules_are ++ lines)
    → AllByRecursion IsInRange lines
behind_header One lines all = all.1
behind_header rules_are lines all = all.1.1

-- every log is guarded, and clears tags, as its runs do
pub guarded : (bytes : List ℕ) → IsGuarded bytes
guarded bytes rules_are roots made states log run =
    let sound = are_sound roots log.runs.sound in
    let in_range = steps_in_range roots made (behind_header rules_are _ log.runs.grammar) in
    (one_root rules_are roots made states sound in_range run, lie_inside rules_are roots made states sound in_range run)

pub cleared_along : (bytes : List ℕ) (rules_are : Rules) (roots : List DeclaredRoot) (made : List Step) (states : List State)
    → IsLogOf bytes rules_are roots made → IsRun rules_are (start roots) made states → ClearsExactly rules_are roots made states
cleared_along bytes rules_are roots made states log run =
    clears_along rules_are roots made states (are_sound roots log.runs.sound) (steps_in_range roots made
    (behind_header rules_are _ log.runs.grammar)) run
