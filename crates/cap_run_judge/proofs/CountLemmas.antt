-- How many lines were read: those of the header, and one for each root, each hart line and each step.
use Rattle.std.proofs.Common.{◌≡◌, ℕ, ◌+◌, Bool, true, false, if◌then◌else◌, List, [], ◌∷◌, length, refl, sym, ap, ◌∙◌, arith, None, Some, Option}
use Rattle.std.specs.Option.{option_map_or}
use Rattle.std.proofs.lemmas.Option.{none-some}
use Rattle.cap_run_log.specs.declared.lines.{RunLine.RunLine, RunStep.RunStep}
use Rattle.cap_turns.specs.Turns.{Body, Due, First, IsAtFault, Reads, Second, lines_by, lines_read, next_stage, refusal_by}
use Rattle.cap_turns.proofs.Laws.{AreTurns}
use Rattle.cap_run.specs.declared.{asks.Asks.Asks, ends.RunRefusal.{RunRefusal, TheVariants.{NoCapability, NoOwner}}}
use Rattle.cap_run.specs.{Harts.Harts, Run.Run, RunChanges.{line_after, run_after, with_freed}, RunChecks.{number_end, run_end}, RunSteps.{or_later, step_limit}}
use Rattle.cap_run_judge.specs.Turns.{RunStage, next_due, run_turns, unread}
use Rattle.cap_run_judge.proofs.TurnLemmas.{asked, run_spelled}

-- the object that a register's owner is, freed
freed_counts : (run_is : Run) (tag : Bool) (owner : Option ℕ)
    → (if tag then or_later (option_map_or (number_end run_is) owner (Some NoOwner)) (step_limit run_is) else Some NoCapability) ≡ None
    → ((with_freed run_is owner).steps ≡ run_is.steps + 1) × ((with_freed run_is owner).roots ≡ run_is.roots)
    × ((with_freed run_is owner).harts ≡ run_is.harts)
freed_counts run_is true None free = absurd (none-some _ (sym free))
freed_counts run_is true (Some number) free = (refl, refl, refl)
freed_counts run_is false owner free = absurd (none-some _ (sym free))

-- a step that only runs have is one step more
step_counts : (asks_are : Asks) (run_is : Run) (step : RunStep) → run_end asks_are run_is step ≡ None
    → ((run_after run_is step).steps ≡ run_is.steps + 1) × ((run_after run_is step).roots ≡ run_is.roots)
    × ((run_after run_is step).harts ≡ run_is.harts)
step_counts asks_are run_is (RunStep.FreeOwner register) free =
    freed_counts run_is (run_is.state register).tag (run_is.owners register) free
step_counts asks_are run_is step free = (refl, refl, refl)

-- before the body nothing is counted
fresh_by : Run → Due RunRefusal → Type 0
fresh_by run_is First = (run_is.roots ≡ 0) × (run_is.steps ≡ 0) × (run_is.harts.lines ≡ 0)
fresh_by run_is Second = (run_is.roots ≡ 0) × (run_is.steps ≡ 0) × (run_is.harts.lines ≡ 0)
fresh_by run_is due = Unit {0}

line_counts : (asks_are : Asks) (run_is : Run) (due : Due RunRefusal) (line : RunLine) → fresh_by run_is due
    → refusal_by run_turns (asked asks_are run_is) due (Some line) ≡ None
    → (lines_by run_turns (asked asks_are (line_after run_is line)) (next_due line) ≡ lines_by run_turns (asked asks_are run_is) due + 1)
    × fresh_by (line_after run_is line) (next_due line)
unfolding fresh_by
line_counts asks_are run_is First RunLine.Version fresh free = (refl, fresh)
line_counts asks_are run_is First line fresh free = absurd (none-some _ (sym free))
line_counts asks_are run_is Second (RunLine.Mode mode) fresh free = (omega (arith, fresh.0, fresh.1, fresh.2), tt)
line_counts asks_are run_is Second line fresh free = absurd (none-some _ (sym free))
line_counts asks_are run_is Body (RunLine.Root place word) fresh free = (omega arith, tt)
line_counts asks_are run_is Body (RunLine.Hart hart) fresh free = (omega arith, tt)
line_counts asks_are run_is Body (RunLine.Step step) fresh free = (omega arith, tt)
line_counts asks_are run_is Body (RunLine.Run step) fresh free =
    let counts = step_counts asks_are run_is step free in
    let lines = ap (λ (h : Harts). h.lines) counts.2 in
    (omega (arith, counts.0, counts.1, lines), tt)
line_counts asks_are run_is Body (RunLine.End count) fresh free = (omega arith, tt)
line_counts asks_are run_is Body line fresh free = absurd (none-some _ (sym free))
line_counts asks_are run_is due line fresh free = absurd (none-some _ (sym free))

count_from : (from : RunStage) (lines : List RunLine) (to : RunStage) → fresh_by from.state.run from.due → Reads run_turns from lines to
    → lines_read run_turns to ≡ lines_read run_turns from + length lines
count_from from [] to fresh reads = sym (ap (lines_read run_turns) reads) ∙ omega arith
count_from from (line ∷ lines) to fresh reads =
    let one = line_counts from.state.asks from.state.run from.due line fresh reads.0 in
    let more = count_from (next_stage run_turns from line) lines to one.1 reads.1 in
    omega (arith, one.0, more)

unread_fresh : (asks_are : Asks) → (let stage = unread asks_are in fresh_by stage.state.run stage.due)
unfolding fresh_by
unread_fresh asks_are = (refl, refl, refl)

-- no line leads to a faulty one
next_clear : (line : RunLine) → IsAtFault (next_due line) → ⊥
next_clear RunLine.Version is = is
next_clear (RunLine.End count) is = is
next_clear line is = is

-- how lines are read
pub run_lawful : (asks_are : Asks) → AreTurns run_turns (unread asks_are)
run_lawful asks_are = record {
  spelled = run_spelled;
  clear = next_clear;
  begun = λ is. is;
  counted = λ bytes stage goes. omega (arith, count_from (unread asks_are) goes.lines stage (unread_fresh asks_are) goes.reads);
}
