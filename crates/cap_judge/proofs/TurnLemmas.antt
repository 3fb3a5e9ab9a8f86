-- What lines lead to, and where a judge stops.
use Rattle.std.proofs.Common.{◌≡◌, ◌≢◌, ℕ, ◌+◌, inl, true, List, [], ◌∷◌, ◌++◌, map, refl, sym, ap, ◌∙◌, append_assoc, not, None, Some, Option}
use Rattle.std.proofs.Common.{Result, Ok, Err, Bool, ◌↔◌, IfSome, IfErr, MatchResult, nat_lt}
use Rattle.std.proofs.lemmas.{Bool.not-false, List.map-append}
use Rattle.cap_word.specs.declared.word.Word.{Word}
use Rattle.cap_ops.specs.declared.refusal.Refusal.{Refusal, TheVariants.{BadLine, Misplaced, Truncated}}
use Rattle.cap_ops.specs.Checks.{first_of}
use Rattle.cap_ops.proofs.TestLemmas.{none_hold}
use Rattle.cap_log.specs.declared.{kinds.Step.Step, lines.{Line.Line, Place.Place}}
use Rattle.cap_log.specs.{Lines.{IsInRange, Spells, spelling}, Parts.Begins}
use Rattle.cap_log.proofs.{DecidedLines.line_decided, SpellingLemmas.{one_spelling, spelling-plain, spelling-short}}
use Rattle.cap_streams.specs.{FaultLines.bytes_of, Front.{IsCut, IsFrontText, IsLine}}
use Rattle.cap_machine.specs.declared.{ends.StepEnd.StepEnd, rules.Rules.{Rules, TheVariants.One}}
use Rattle.cap_machine.specs.Accounts.{Account, root_checks}
use Rattle.cap_machine.specs.Helds.{Held, account_of, AnswersStep, EndsRoot, EndsStep, Makes, TakesRoot}
use Rattle.cap_machine.proofs.AccountLemmas.{first_of-none}
use Rattle.cap_turns.specs.Turns.{Body, Goes, IsAtFault, lines_by, refusal_by}
use Rattle.cap_turns.specs.Readings.{Follows, IsNoLine, IsWholeLine, Takes, due_at_end, refused_by}
use Rattle.cap_turns.proofs.{FollowLemmas.line_whole, LineLemmas.cut_text}
use Rattle.cap_turns.proofs.{TurnLemmas.{ends_at, goes_line, goes_more, goes_none, goes_on, one_goes}, Laws.AreSpelled}
use Rattle.cap_judge.specs.declared.faults.RefusedLine.{RefusedLine}
use Rattle.cap_judge.specs.declared.verdict.TakeFault.{TakeFault, TheVariants.{NoLine, NoMemory}}
use Rattle.cap_judge.specs.{declared.verdict.Verdict.{Verdict, TheVariants.{Yes, No}}, Logs.{has_form, line_checks}}
use Rattle.cap_judge.specs.Turns.{LogStage, log_turns}
use Rattle.cap_judge.specs.Readings.{AnswersLine, AnswerAtEnd, EndsText, EndsBytes, EndsLine, GoesOrStops, IsFullAt, Known, MakesSteps}
use Rattle.cap_judge.specs.Readings.{TakesAll, TakesStep, VerdictAtEnd, at, due_of, end_of}
use Rattle.cap_judge.specs.declared.judges.Due as code
use Rattle.cap_judge.specs.declared.judges.Due.TheVariants as dues

-- Lines of steps alone

pub makes_none : (held : Held) → MakesSteps held [] held
unfolding goes_none
makes_none held = record { goes = goes_none log_turns (at dues.Body held); steps = []; lines_are = refl; same_room = refl }

pub makes_more : (first old new : Held) (bytes front rest more behind : List ℕ) → bytes ≡ front ++ rest → MakesSteps first front old
    → rest ≡ more ++ behind → MakesSteps old more new → (fronts : List ℕ) × (bytes ≡ fronts ++ behind) × MakesSteps first fronts new
unfolding goes_on
makes_more first old new bytes front rest more behind is so_far is_more next =
    let goes = goes_more log_turns (at dues.Body first) (at dues.Body old) (at dues.Body new) bytes front rest more behind is so_far.goes is_more next.goes in (
      goes.0,
      goes.1,
      record {
        goes = goes.2;
        steps = so_far.steps ++ next.steps;
        lines_are = ap (λ (ls : List Line). ls ++ next.goes.lines) so_far.lines_are
            ∙ ap (λ (ls : List Line). map Line.Step so_far.steps ++ ls) next.lines_are ∙ sym (map-append Line.Step so_far.steps next.steps);
        same_room = next.same_room ∙ so_far.same_room;
      },
    )

pub makes_one : (first old new : Held) (bytes front rest behind : List ℕ) → bytes ≡ front ++ rest → MakesSteps first front old
    → TakesStep old rest new behind → (fronts : List ℕ) × (bytes ≡ fronts ++ behind) × MakesSteps first fronts new
unfolding one_goes
makes_one first old new bytes front rest behind is so_far taken =
    let line = Line.Step taken.0 in
    let one = one_goes log_turns (at dues.Body old) (at dues.Body new) line taken.1.0 taken.2 in
    makes_more first old new bytes front rest (spelling line ++ 10 ∷ []) behind is so_far
    (taken.1.1 ∙ sym (append_assoc (spelling line) (10 ∷ []) behind)) (record { goes = one; steps = taken.0 ∷ []; lines_are = refl; same_room = taken.3 })

-- what ends with a line feed is not empty
feed_some : (front text : List ℕ) → front ++ (text ++ 10 ∷ []) ≢ []
feed_some [] [] = λ e. cc
feed_some [] (b ∷ text) = λ e. cc
feed_some (a ∷ front) text = λ e. cc

pub goes_line_some : (first old new : LogStage) (bytes front rest behind : List ℕ) (line : Line) → bytes ≡ front ++ rest
    → Goes log_turns first front old → Begins IsInRange spelling 10 rest line behind → Takes log_turns old line new
    → (fronts : List ℕ) × (bytes ≡ fronts ++ behind) × GoesOrStops first fronts behind None new
goes_line_some first old new bytes front rest behind line is so_far begins takes =
    let on = goes_line log_turns first old new bytes front rest behind line is so_far begins takes in
    (on.0, on.1, (feed_some front (spelling line), on.2))

-- Lines after the header

-- a line that has a form by the rules of version 1 has one by any rules
pub formed : (rules_are : Rules) (line : Line) → has_form One line ≡ true → has_form rules_are line ≡ true
formed One line one = one
formed rules_are line one = refl

-- so only its checks refuse it
pub by_checks : (account : Account) (line : Line) → has_form One line ≡ true
    → refusal_by log_turns account Body (Some line) ≡ first_of (line_checks account line)
by_checks account line one =
    ap (λ (form : Bool). first_of ((not form, BadLine) ∷ line_checks account line)) (formed account.rules line one)

-- and a line that is allowed has a form, and none of its checks fails
pub allowed_form : (account : Account) (line : Line) → refusal_by log_turns account Body (Some line) ≡ None
    → (has_form account.rules line ≡ true) × (first_of (line_checks account line) ≡ None)
allowed_form account line allowed =
    let checks = none_hold ((not (has_form account.rules line), BadLine) ∷ line_checks account line) allowed in
    (not-false _ checks.0, first_of-none (line_checks account line) checks.1)

-- the stage in a body
abbrev pub body : Account → LogStage
body account_is = record { state = account_is; due = Body }

-- a step that a machine makes, or not
pub makes_takes : (old new : Held) (step : Step) → Makes old step new → Takes log_turns (at dues.Body old) (Line.Step step) (at dues.Body new)
makes_takes old new step makes = (by_checks (account_of old) (Line.Step step) refl ∙ makes.checks, ap body makes.account)

pub step_ends : (old new : Held) (step : Step) (end : StepEnd) → EndsStep old step end new
    → EndsLine (at dues.Body old) (Line.Step step) end × (new ≡ old) × IsFullAt end old
step_ends old new step (StepEnd.Refused refusal) ended = (by_checks (account_of old) (Line.Step step) refl ∙ ended.0, ended.1, tt)
step_ends old new step StepEnd.NoMemory ended =
    ((by_checks (account_of old) (Line.Step step) refl ∙ ended.0, ended.1), ended.2, ended.3)

pub step_answered : (old new : Held) (bytes : List ℕ) (step : Step) (result : Result (Unit {0}) StepEnd)
    → Begins IsInRange spelling 10 bytes (Line.Step step) [] → AnswersStep old step result new → TakesAll old bytes (Some result) new
step_answered old new bytes step (Ok done) begins makes = (step, begins, makes_takes old new step makes, makes.same_room)
step_answered old new bytes step (Err end) begins ends =
    let stop = step_ends old new step end ends in ((step, begins, stop.0), stop.1)

-- what is known at a stage
abbrev pub knowing : code.Due → Held → Known
knowing stage held = record { held = held; due = stage }

pub step_outcome : (stage : code.Due) (old new : Held) (line : Line) (step : Step) (result : Result (Unit {0}) StepEnd)
    → stage ≡ dues.Body → line ≡ Line.Step step → AnswersStep old step result new
    → AnswersLine (knowing stage old) line result (knowing stage new)
step_outcome stage old new line step (Ok done) is same makes = rw (is, same) (makes_takes old new step makes, makes.same_room)
step_outcome stage old new line step (Err end) is same ended =
    let stop = step_ends old new step end ended in rw (is, same) (stop.0, ap (knowing dues.Body) stop.1, stop.2)

-- a root before all steps
root_checked : (held : Held) (place : Place) (word : Word) → held.steps ≡ 0
    → refusal_by log_turns (account_of held) Body (Some (Line.Root place word)) ≡ first_of (root_checks (account_of held) place word)
root_checked held place word none =
    by_checks (account_of held) (Line.Root place word) refl
    ∙ ap (λ (n : ℕ). first_of ((nat_lt 0 n, Misplaced) ∷ root_checks (account_of held) place word)) none

pub root_outcome : (stage : code.Due) (old new : Held) (place : Place) (word : Word) (result : Result (Unit {0}) StepEnd)
    → stage ≡ dues.Body → old.steps ≡ 0
    → MatchResult result (λ _. TakesRoot old place word new) (λ end. EndsRoot old place word end new)
    → AnswersLine (knowing stage old) (Line.Root place word) result (knowing stage new)
root_outcome stage old new place word (Ok done) is none takes =
    rw is ((root_checked old place word none ∙ takes.checks, ap body takes.account), takes.same_room)
root_outcome stage old new place word (Err (StepEnd.Refused refusal)) is none ended =
    rw is (root_checked old place word none ∙ ended.0, ap (knowing dues.Body) ended.1, tt)
root_outcome stage old new place word (Err StepEnd.NoMemory) is none ended =
    rw is ((root_checked old place word none ∙ ended.0, ended.1), ap (knowing dues.Body) ended.2, ended.3)

-- Fronts

-- bytes that begin with the text of a line
pub begins_by : (line : Line) (bytes text rest : List ℕ) → IsLine bytes text rest → Spells text line → Begins IsInRange spelling 10 bytes line rest
begins_by line bytes text rest whole spells = (spells.0, whole.whole ∙ ap (λ (t : List ℕ). t ++ 10 ∷ rest) spells.1)

-- why a line is not taken, told of its text; and of bytes that it begins
pub text_ends : (stage : LogStage) (text : List ℕ) (line : Line) (end : StepEnd) → Spells text line → EndsLine stage line end → EndsText stage text end
text_ends stage text line (StepEnd.Refused refusal) spells refused = (Some line, spells, refused)
text_ends stage text line StepEnd.NoMemory spells names = (line, spells, names)

pub text_ends_at : (stage : LogStage) (bytes text rest : List ℕ) (end : StepEnd) → IsLine bytes text rest → EndsText stage text end
    → EndsBytes stage bytes end
text_ends_at stage bytes text rest (StepEnd.Refused refusal) whole refused = inl (text, rest, whole, refused)
text_ends_at stage bytes text rest StepEnd.NoMemory whole (line, spells, names) =
    (rest, record { line = line; begins = begins_by line bytes text rest whole spells; allowed = names.0; wants = names.1 })

-- how lines are spelled
pub log_spelled : AreSpelled log_turns
log_spelled = record {
  plain = spelling-plain;
  short = spelling-short;
  one = λ a b range range' same. one_spelling (spelling a) a b (range, refl) (range', same);
  decided = line_decided;
}

-- a step at the front of some bytes that is not made
pub takes_ended : (old new : Held) (bytes rest : List ℕ) (step : Step) (end : StepEnd)
    → Begins IsInRange spelling 10 bytes (Line.Step step) rest → EndsStep old step end new
    → EndsBytes (at dues.Body old) bytes end × (new ≡ old) × IsFullAt end old
takes_ended old new bytes rest step end begins ends =
    let stop = step_ends old new step end ends in (ends_at log_turns log_spelled (at dues.Body old) bytes rest (Line.Step step) (end_of end) begins stop.0, stop.1, stop.2)

pub front_end : (stage : code.Due) (held : Held) (rest : List ℕ) (end : Option StepEnd) → stage ≡ dues.Body
    → IfSome end (EndsBytes (at dues.Body held) rest)
    → IfSome end (λ e. EndsBytes (at stage held) rest e × (IsAtFault (due_of stage) → ⊥))
front_end stage held rest None is ends_at = tt
front_end stage held rest (Some end) is ends_at = rw is (ends_at, λ fault. fault)

-- the line of a step, alone
pub step_whole : (bytes : List ℕ) (step : Step) → Begins IsInRange spelling 10 bytes (Line.Step step) [] → IsWholeLine bytes
step_whole bytes step begins = line_whole log_turns log_spelled bytes (Line.Step step) begins

pub step_follows : (stage : code.Due) (old new : Held) (bytes : List ℕ) → stage ≡ dues.Body → TakesStep old bytes new []
    → Follows log_turns (at stage old) bytes (at stage new)
step_follows stage old new bytes is (step, begins, takes, same_room) =
    rw (is, begins.1) (inl (one_goes log_turns (at dues.Body old) (at dues.Body new) (Line.Step step) begins.0 takes))

-- a line is never refused as none
pub no_line : (result : Result (Unit {0}) TakeFault) (line : List ℕ) → (IsNoLine line → ⊥) → (result ≡ Err NoLine → ⊥)
    → (result ≡ Err NoLine) ↔ IsNoLine line
no_line result line some other = (λ is. absurd (other is), λ none. absurd (some none))

-- what is refused for want of memory alone
pub memory_only : (result : Result (Unit {0}) TakeFault) (X : Type 0) → IfErr result (λ fault. (fault ≡ NoMemory) × X)
    → result ≡ Err NoLine → ⊥
memory_only (Ok done) X said is = cc
memory_only (Err fault) X said is = let only = said.0 in cc

pub memory_why : (result : Result (Unit {0}) TakeFault) (X : Type 0) → IfErr result (λ fault. (fault ≡ NoMemory) × X)
    → result ≡ Err NoMemory → X
memory_why (Ok done) X said is = absurd (cc)
memory_why (Err fault) X said is = said.1

-- Where the bytes end

-- the faulty line there
pub ends_refused : (stage : LogStage) (rest : List ℕ) (refusal : Refusal) (fault : RefusedLine)
    → due_at_end log_turns stage.state stage.due rest ≡ refused_by log_turns stage.state stage.due refusal rest → IsCut rest
    → fault.line ≡ lines_by log_turns stage.state stage.due + 1 → fault.refusal ≡ refusal → IsFrontText rest (bytes_of fault.text)
    → AnswerAtEnd stage rest (Err fault)
ends_refused stage rest refusal fault refused cut number same front =
    refused ∙ cc (number, same, cut_text rest (bytes_of fault.text) cut front)

pub unended : (stage : code.Due) (account : Account) (rest : List ℕ) → (stage ≡ dues.Ended → ⊥)
    → ((fault : RefusedLine) → stage ≡ dues.Refused fault → ⊥)
    → due_at_end log_turns account (due_of stage) rest ≡ refused_by log_turns account (due_of stage) Truncated rest
unended dues.Ended account rest goes clear = absurd (goes refl)
unended (dues.Refused fault) account rest goes clear = absurd (clear fault refl)
unended stage account rest goes clear = refl

pub ends_ok : (stage : LogStage) (rest : List ℕ) (verdict : Verdict) → AnswerAtEnd stage rest (Ok verdict) → VerdictAtEnd stage rest verdict []
ends_ok stage rest (Yes steps roots) ends = ends
ends_ok stage rest (No line refusal) ends = absurd ends
