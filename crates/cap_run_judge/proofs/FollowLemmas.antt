-- Steps that a judge of run logs makes, or not.
use Rattle.std.proofs.Common.{inl, ◌≡◌, ◌≢◌, ℕ, List, [], ◌∷◌, ◌++◌, ap, refl, None, Some, Option, Result, Ok, Err}
use Rattle.cap_judge.specs.declared.verdict.TakeFault.{TakeFault, TheVariants.{NoLine, NoMemory}}
use Rattle.cap_run_log.specs.{declared.lines.RunLine.RunLine, RunLines.{IsRunLineInRange, run_spelling}}
use Rattle.cap_turns.specs.{Readings.{Follows, IsNoLine, IsWholeLine}, Turns.{Body, Due}}
use Rattle.cap_turns.proofs.{LineLemmas.whole_some, TurnLemmas.one_goes}
use Rattle.cap_run.specs.declared.{asks.Asks.Asks, ends.{RunEnd.RunEnd, RunRefusal.RunRefusal}}
use Rattle.cap_run.specs.{Run.Run, RunChanges.line_after, RunChecks.{Answers, line_end, line_wants}}
use Rattle.cap_run.proofs.StepTakingLemmas.{err_same}
use Rattle.cap_run_judge.specs.declared.judges.Due as code
use Rattle.cap_run_judge.specs.declared.judges.Due.TheVariants as dues
use Rattle.cap_run_judge.specs.{Readings.{IsUnmade, due_of}, Turns.{RunStage, next_due, run_turns}}
use Rattle.cap_run_judge.proofs.TurnLemmas.{asked, body, body_answers}

-- how far a run log is read
abbrev pub staged : Asks → Run → Due RunRefusal → RunStage
staged asks_are run_is due_is = record { state = asked asks_are run_is; due = due_is }

-- a step that was made
pub step_follows : (asks_are : Asks) (old new : Run) (due : Due RunRefusal) (line : RunLine) → due ≡ Body → IsRunLineInRange line → next_due line ≡ Body
    → Answers (line_end asks_are old line) (line_after old line) (line_wants old line) old (Ok tt) new
    → Follows run_turns (staged asks_are old due) (run_spelling line ++ 10 ∷ []) (staged asks_are new due)
step_follows asks_are old new due line is range next answers =
    let takes = body_answers asks_are old new line (Ok tt) (ap (staged asks_are (line_after old line)) next) answers in
    rw is (inl (one_goes run_turns (body asks_are old) (body asks_are new) line range takes))

-- one that was not
pub step_unmade : (asks_are : Asks) (old new : Run) (due : Due RunRefusal) (line : RunLine) (end : RunEnd) → due ≡ Body
    → Answers (line_end asks_are old line) (line_after old line) (line_wants old line) old (Err end) new
    → IsUnmade (staged asks_are old due) line end
step_unmade asks_are old new due line (RunEnd.Refused refusal) is answers = (is, rw is answers.0)
step_unmade asks_are old new due line RunEnd.NoMemory is answers = (is, rw is (answers.0, answers.1))

-- whose run stays
pub stage_stays : (asks_are asks_then : Asks) (old new : Run) (due_is : Due RunRefusal) (line : RunLine) (end : RunEnd) → asks_then ≡ asks_are
    → Answers (line_end asks_are old line) (line_after old line) (line_wants old line) old (Err end) new
    → staged asks_then new due_is ≡ staged asks_are old due_is
stage_stays asks_are asks_then old new due_is line end same answers =
    let stays = err_same (line_end asks_are old line) (line_after old line) (line_wants old line) old end new answers in
    rw (same, stays) refl

-- one that was not tried
pub no_body : (stage : code.Due) → (stage ≡ dues.Body → ⊥) → due_of stage ≢ Body
no_body dues.Body other is = other refl
no_body dues.First other is = cc
no_body dues.Second other is = cc
no_body dues.Ended other is = cc
no_body (dues.Refused fault) other is = cc

-- Answers that are not these

pub ok_no_err : {T E : Type 0} (done : T) (fault : E) → Ok done ≡ Err fault → ⊥
ok_no_err done fault is = cc

pub tried : {T E : Type 0} (end : E) → ◌≡◌ {A = Result T (Option E)} (Err (Some end)) (Err None) → ⊥
tried end is = cc

pub memory_no_line : {T : Type 0} → ◌≡◌ {A = Result T TakeFault} (Err NoMemory) (Err NoLine) → ⊥
memory_no_line is = cc

-- bytes that are whole are not answered as no line
pub whole_is_line : (line : List ℕ) (result : Result (Unit {0}) TakeFault) → (result ≡ Err NoLine → ⊥) → IsWholeLine line
    → (result ≡ Err NoLine → IsNoLine line) × (IsNoLine line → result ≡ Err NoLine)
whole_is_line line result other whole = (λ is. absurd (other is), λ none. absurd (whole_some line whole none))
