-- What the rules give for a step that is refused for its result.
use Rattle.std.proofs.Common.{◌≡◌, ◌≢◌, ℕ, inl, inr, Bool, true, false, not, List, [], ◌∷◌, ◌++◌, refl, sym, ap, subst}
use Rattle.std.proofs.{Common.{◌∙◌, Option, Some, None, append-nil, append_assoc}, lemmas.Bool.{false≢true}}
use Rattle.std.proofs.lemmas.Option.{none-some}
use Rattle.cap_word.specs.declared.word.Cap.{Cap}
use Rattle.cap_ops.specs.{declared.refusal.Refusal.{Refusal, TheVariants.{WrongResult, LimitPassed}}, Checks.first_of}
use Rattle.cap_ops.specs.Operations.{clear_result}
use Rattle.cap_ops.proofs.{ClearLemmas.clear_result-none, TestLemmas.first_of-append}
use Rattle.cap_log.specs.{declared.{kinds.Step.Step, lines.{Line.Line, Place.Place}}, Lines.Spells}
use Rattle.cap_streams.specs.Front.{IsLine}
use Rattle.cap_streams.proofs.FrontLemmas.{IsLine-same, IsLine-not_too_long}
use Rattle.cap_log.proofs.SpellingLemmas.{one_spelling}
use Rattle.cap_machine.specs.declared.rules.Rules.{Rules, TheVariants.TwoClear}
use Rattle.cap_machine.specs.{Accounts.{Account, row_in, step_checks}, Shown.{given_by, given_for as shown_for}}
use Rattle.cap_machine.specs.{States.{State, DeclaredRoot}, Steps.{Access, Recorded, Row, Nothing as Unrecorded}}
use Rattle.cap_machine.specs.Steps.{ReadNumber, Written, clear_row, row_by, row_of}
use Rattle.cap_machine.proofs.{EscapeLemmas.never_wrong, StepLemmas.is_recorded}
use Rattle.cap_judge.specs.declared.verdict.Expected.{Expected, TheVariants.{Capability, Number}}
use Rattle.cap_judge.specs.declared.verdict.Verdict.TheVariants.{No}
use Rattle.cap_judge.specs.Expectations.{Expects, ExpectsAt, IsExpected, GivesFor, GivesForText, expected_of, given_in}
use Rattle.cap_judge.specs.Judgings.{IsBehind, account_before}
use Rattle.cap_judge.specs.Logs.{Beginning, Body, Whole, Refuses, account_after, body_lines, IsAccepted, RunsBy, lines_of, text_of}
use Rattle.cap_judge.specs.{Readings.{IsReached, IsRest}, Turns.LogStage}
use Rattle.cap_judge.proofs.{EscapeLaws.{is_of_step, is_step, never_front}, OneVerdict.one_verdict}
use Rattle.cap_judge.proofs.TurnLaws.{begins, fault_stands, nothing_left, some_bytes}
use Rattle.cap_turns.specs.{Verdicts.IsLastFront, Turns.{Due, IsAtFault, Refused}}

other_recorded : (recorded limit : Bool) → first_of ((not recorded, WrongResult) ∷ (limit, LimitPassed) ∷ [])
    ≡ Some WrongResult → recorded ≡ false
other_recorded true true h = cc
other_recorded true false h = cc
other_recorded false limit h = refl

-- no test of a step that is refused for its result holds, and its line records another
wrong : (account : Account) (step : Step) → first_of (step_checks account step) ≡ Some WrongResult
    → (first_of (row_in account step).checks ≡ None) × (is_recorded (row_in account step) ≡ false)
wrong account step h =
    elim (first_of-append (row_in account step).checks _ WrongResult h) [
      | inl found ↦ absurd (never_wrong account step found)
      | inr last ↦ (last.0, other_recorded _ _ last.1)
    ]

-- a number is read through an access, and nothing written
abbrev ReadsThrough : Option (Place × Cap) → Recorded → Option Access → Type 0
ReadsThrough None (ReadNumber recorded in_memory) (Some access) = Unit {0}
ReadsThrough writes (ReadNumber recorded in_memory) access = ⊥
ReadsThrough writes records access = Unit {0}

reads_through : (state : State) (step : Step) → let row = row_of state step in ReadsThrough row.writes row.records row.access
reads_through state (Step.Load step) = tt
reads_through state step = tt

-- what is shown of a row is what the rules give, where no test of it holds and its line records another result
abbrev AreSame : Row → Row → Type 0
AreSame shown by =
    first_of by.checks ≡ None → is_recorded by ≡ false
    → (expected : Expected) × (expected_of (given_by shown) ≡ Some expected) × (given_in by ≡ Some expected)

abbrev row_with : List (Bool × Refusal) → Option (Place × Cap) → Option Place → Recorded → Option Access → Row
row_with checks_are write from recorded reached =
    record { checks = checks_are; writes = write; parent = from; records = recorded; access = reached }

strictly : (checks : List (Bool × Refusal)) (writes : Option (Place × Cap)) (from : Option Place) (records : Recorded) (access : Option Access)
    → ReadsThrough writes records access → AreSame (row_with checks writes from records access) (row_with checks writes from records access)
strictly checks (Some write) from (Written recorded) None through free other =
    (Capability write.1, ap (λ (cap : Cap). Some (Capability cap)) (clear_result-none checks write.1 free), refl)
strictly checks (Some write) from (Written recorded) (Some access) through free other = (Capability write.1, refl, refl)
strictly checks None from (ReadNumber recorded in_memory) (Some access) through free other = (
  Number in_memory access.size,
  ap (λ (fault : Option Refusal). expected_of (shown_for None (ReadNumber recorded in_memory) (Some access) fault None)) free,
  refl,
)
strictly checks None from (Written recorded) access through free other = absurd (false≢true (sym other))
strictly checks None from (ReadNumber recorded in_memory) None through free other = absurd through
strictly checks (Some write) from (ReadNumber recorded in_memory) access through free other = absurd through
strictly checks writes from Unrecorded access through free other = absurd (false≢true (sym other))

in_clear_mode : (checks : List (Bool × Refusal)) (writes : Option (Place × Cap)) (from : Option Place) (records : Recorded)
    → ReadsThrough writes records None → AreSame (row_with checks writes from records None) (clear_row None (row_with checks writes from records None))
in_clear_mode checks (Some write) from (Written recorded) through free other = (Capability (clear_result checks write.1), refl, refl)
in_clear_mode checks None from (Written recorded) through free other = absurd (false≢true (sym other))
in_clear_mode checks None from (ReadNumber recorded in_memory) through free other = absurd through
in_clear_mode checks (Some write) from (ReadNumber recorded in_memory) through free other = absurd through
in_clear_mode checks writes from Unrecorded through free other = absurd (false≢true (sym other))

by_rules : (rules_are : Rules) (checks : List (Bool × Refusal)) (writes : Option (Place × Cap)) (from : Option Place) (records : Recorded)
    (access : Option Access) → ReadsThrough writes records access
    → AreSame (row_with checks writes from records access) (row_by rules_are (row_with checks writes from records access))
by_rules TwoClear checks writes from records None through = in_clear_mode checks writes from records through
by_rules TwoClear checks writes from records (Some access) through = strictly checks writes from records (Some access) through
by_rules rules_are checks writes from records access through = strictly checks writes from records access through

-- what a step shows is what the rules give, where it is refused for its result
gives : (account : Account) (step : Step) (shown : Option Expected)
    → (first_of (step_checks account step) ≡ Some WrongResult
    → (expected : Expected) × (shown ≡ Some expected) × (given_in (row_in account step) ≡ Some expected))
    → GivesFor account step shown
gives account step None is = λ wrong_now. none-some _ (is wrong_now).1
gives account step (Some expected) is = λ wrong_now. (is wrong_now).2 ∙ sym (is wrong_now).1

pub gives_shown : (account : Account) (step : Step) → GivesFor account step (expected_of (given_by (row_of account.state step)))
gives_shown account step =
    let row = row_of account.state step in
    gives account step (expected_of (given_by row))
    (λ wrong_now. by_rules account.rules row.checks row.writes row.parent row.records row.access (reads_through account.state step)
    (wrong account step wrong_now).0 (wrong account step wrong_now).1)

-- which step a text spells
abbrev OfLine : Account → Line → Option Expected → Type 0
OfLine account (Line.Step step) result = GivesFor account step result
OfLine account line result = Unit {0}

pub for_text : (account : Account) (text : List ℕ) (step : Step) (result : Option Expected) → Spells text (Line.Step step)
    → GivesFor account step result
    → GivesForText account text result
for_text account text step result spells gives other spelled =
    subst (λ (l : Line). OfLine account l result) (one_spelling text (Line.Step step) (Line.Step other) spells spelled) gives

-- The first fault

-- nothing is not refused so
never_nothing : (beginning : Beginning) → Refuses beginning [] WrongResult → ⊥
never_nothing (Whole rules_are roots steps_are) refused = let bad = refused.1 in cc
never_nothing beginning (inl long) = let bad = long.1 in cc
never_nothing beginning (inr (inl cut)) = let bad = cut.1 in cc
never_nothing beginning (inr (inr line)) = some_bytes line.0 line.1 line.2.whole

none_expected : (bytes : List ℕ) (stage : LogStage) → IsReached stage bytes → (IsAtFault stage.due → ⊥) → Expects bytes None
none_expected bytes stage is clear = λ line fault.
    let here : IsBehind bytes fault.beginning fault.rest = record { bytes_are = fault.bytes_are; accepted = fault.accepted } in
    let none = nothing_left bytes fault.beginning fault.rest (No line WrongResult) (begins bytes stage is clear) here
    (fault.number_is, fault.refused) in
    never_nothing fault.beginning (subst (λ (r : List ℕ). Refuses fault.beginning r WrongResult) (sym none) fault.refused)

other_fault : (bytes : List ℕ) (stage : LogStage) (line : ℕ) (refusal : Refusal) (text : List ℕ) → IsReached stage bytes
    → stage.due ≡ Refused line refusal text → refusal ≢ WrongResult → Expects bytes None
other_fault bytes stage line refusal text is due other = λ number wrong.
    let same = one_verdict bytes (No line refusal) (No number WrongResult) (fault_stands bytes stage line refusal text is due true) wrong in
    other cc

-- the text of a fault is that of the line
text_is : (rest text line more : List ℕ) → IsLastFront rest false text → IsLine rest line more → text ≡ line
text_is rest text line more (inl long) whole = absurd (IsLine-not_too_long rest line more whole long.0)
text_is rest text line more (inr (inl cut)) whole = absurd (false≢true cut.1.1)
text_is rest text line more (inr (inr front)) whole = front.3 ∙ (IsLine-same rest front.0 front.1 line more front.2 whole).0

-- what is given for it
given_at : (account : Account) (step : Step) (bytes : List ℕ) (result : Option Expected)
    → ((expected : Expected) → given_in (row_in account step) ≡ Some expected → IsExpected bytes expected)
    → first_of (step_checks account step) ≡ Some WrongResult → GivesFor account step result → Expects bytes result
given_at account step bytes None is wrong gives = absurd (gives wrong)
given_at account step bytes (Some expected) is wrong gives = is expected (gives wrong)

body_expects : (rules_are : Rules) (roots : List DeclaredRoot) (steps_are : List Step) (rest bytes text : List ℕ) (result : Option Expected)
    → bytes ≡ text_of (body_lines rules_are roots steps_are) ++ rest → RunsBy rules_are roots steps_are
    → Refuses (Body rules_are roots steps_are) rest WrongResult → IsLastFront rest false text
    → GivesForText (account_after rules_are roots steps_are) text result → Expects bytes result
body_expects rules_are roots steps_are rest bytes text result is runs (inl long) front gives = absurd (let bad = long.1 in cc)
body_expects rules_are roots steps_are rest bytes text result is runs (inr (inl cut)) front gives = absurd (let bad = cut.1 in cc)
body_expects rules_are roots steps_are rest bytes text result is runs (inr (inr (line, more, whole, inl none))) front gives =
    absurd (let bad = none.1 in cc)
body_expects rules_are roots steps_are rest bytes text result is runs (inr (inr (line, more, whole, inr found))) front gives =
    let account = account_after rules_are roots steps_are in
    let one = is_step account found.0 WrongResult refl found.2 in
    let spells = subst (Spells line) one.1 found.1.0 in
    given_at account one.0 bytes result
    (λ expected given. record {
      rules = rules_are;
      roots = roots;
      steps = steps_are;
      step = one.0;
      text = line;
      more = more;
      bytes_are =
          is ∙ ap (λ (r : List ℕ). text_of (body_lines rules_are roots steps_are) ++ r) whole.whole
          ∙ sym (append_assoc (text_of (body_lines rules_are roots steps_are)) line (10 ∷ more));
      runs = runs;
      spelled = spells;
      refused = one.2;
      given = given;
    })
    one.2 (gives one.0 (subst (λ (t : List ℕ). Spells t (Line.Step one.0)) (sym (text_is rest text line more front whole)) spells))

-- before the body, and after the end line, nothing is refused so
by_beginning : (account_is : Account) (beginning : Beginning) (rest bytes text : List ℕ) (result : Option Expected)
    → account_is ≡ account_before beginning → bytes ≡ text_of (lines_of beginning) ++ rest → IsAccepted beginning
    → Refuses beginning rest WrongResult → IsLastFront rest false text → GivesForText account_is text result → Expects bytes result
by_beginning account_is (Whole rules_are roots steps_are) rest bytes text result account is accepted refused front gives =
    absurd (let bad = refused.1 in cc)
by_beginning account_is (Body rules_are roots steps_are) rest bytes text result account is accepted refused front gives =
    body_expects rules_are roots steps_are rest bytes text result is accepted refused front
    (subst (λ (a : Account). GivesForText a text result) account gives)
by_beginning account_is beginning rest bytes text result account is accepted refused front gives =
    absurd (never_front rest WrongResult _ refl (λ text whole. ap is_of_step whole.1) refused)

wrong_result : (bytes : List ℕ) (stage : LogStage) (line : ℕ) (text : List ℕ) (result : Option Expected) → IsReached stage bytes
    → stage.due ≡ Refused line WrongResult text → GivesForText stage.state text result → Expects bytes result
wrong_result bytes stage line text result is due gives =
    let found = subst (λ (d : Due Refusal). IsRest d is.beginning is.rest) due is.rest_is in
    by_beginning stage.state is.beginning is.rest bytes text result is.account is.behind.bytes_are is.behind.accepted
    (subst (λ (r : List ℕ). Refuses is.beginning r WrongResult) (append-nil is.rest) (found.2 [])) found.1 gives

pub expects : (bytes : List ℕ) (account_is : Account) (due : Due Refusal) (result : Option Expected)
    → IsReached (record { state = account_is; due = due }) bytes → ExpectsAt account_is due result → Expects bytes result
expects bytes account (Refused line WrongResult text) result is told = wrong_result bytes _ line text result is refl (told.0 refl)
expects bytes account (Refused line refusal text) result is told =
    subst (Expects bytes) (sym (told.1 (λ e. cc))) (other_fault bytes _ line refusal text is refl (λ e. cc))
expects bytes account due result is told = subst (Expects bytes) (sym told) (none_expected bytes _ is (λ f. f))

-- and no other line
pub not_spelled : (account : Account) (text : List ℕ) (line : Line) → Spells text line → ((step : Step) → line ≡ Line.Step step → ⊥)
    → GivesForText account text None
not_spelled account text line spells other = λ step spelled wrong. other step (one_spelling text line (Line.Step step) spells spelled)
