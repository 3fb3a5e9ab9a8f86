-- What is true along the lines of a run log that is read.
use Rattle.std.specs.List.{AllByRecursion}
use Rattle.std.proofs.Common.{◌≡◌, ℕ, List, [], ◌∷◌, sym, subst, None, Some}
use Rattle.std.proofs.lemmas.Option.{none-some}
use Rattle.cap_ops.specs.declared.refusal.Refusal.TheVariants.{BadHeader, BadMode, Misplaced}
use Rattle.cap_run_log.specs.{declared.lines.RunLine.RunLine, RunLines.IsRunLineInRange}
use Rattle.cap_run.specs.{Allowed.{AreAllowed, IsLineAllowed}, declared.asks.Asks.Asks, RunChanges.no_run}
use Rattle.cap_run.specs.declared.ends.RunRefusal.TheVariants.{Usual}
use Rattle.cap_run.specs.Run.{Run}
use Rattle.cap_run.proofs.{ApartLemmas.safe_at_each, DescentLemmas.{allowed_by, lie_in_roots, stay_within_roots}, OneRootLemmas.descend_from_one, OwnedLemmas.accesses_own}
use Rattle.cap_run_judge.specs.{Turns.{RunStage, unread, run_turns}, Verdicts.{AreGuarded, IsRunGuarded}}
use Rattle.cap_turns.specs.Turns.{Due, Reads, next_stage, refusal_by}
use Rattle.cap_run_judge.proofs.TurnLemmas.{asked}
use Rattle.cap_run.specs.declared.ends.RunRefusal.{RunRefusal}

-- a line that nothing refuses is allowed in the run
line_allowed : (asks_are : Asks) (run_is : Run) (due : Due RunRefusal) (line : RunLine) → refusal_by run_turns (asked asks_are run_is) due (Some line) ≡ None
    → IsLineAllowed asks_are run_is line
line_allowed asks_are run_is Due.First RunLine.Version free = tt
line_allowed asks_are run_is Due.First line free = absurd (none-some (Usual BadHeader) (sym free))
line_allowed asks_are run_is Due.Second (RunLine.Mode mode) free = tt
line_allowed asks_are run_is Due.Second line free = absurd (none-some (Usual BadMode) (sym free))
line_allowed asks_are run_is Due.Body line free = allowed_by asks_are run_is line free
line_allowed asks_are run_is due line free = absurd (none-some (Usual Misplaced) (sym free))

pub read_allowed : (from to : RunStage) (lines : List RunLine) → AllByRecursion IsRunLineInRange lines → Reads run_turns from lines to
    → AreAllowed from.state.asks from.state.run lines
read_allowed from to [] range reads = tt
read_allowed from to (line ∷ lines) range reads =
    (range.0, line_allowed from.state.asks from.state.run from.due line reads.0, read_allowed (next_stage run_turns from line) to lines range.1 reads.1)

guarded_by : (asks : Asks) (lines : List RunLine) → AreAllowed asks no_run lines → AreGuarded asks lines
guarded_by asks lines allowed = record {
  roots = λ before after is. stay_within_roots asks before after (subst (AreAllowed asks no_run) is allowed);
  one_root = λ before after is. descend_from_one asks before after (subst (AreAllowed asks no_run) is allowed);
  accesses = λ before after line is. lie_in_roots asks before after line (subst (AreAllowed asks no_run) is allowed);
  objects = λ before after is. safe_at_each asks before after (subst (AreAllowed asks no_run) is allowed);
  owners = λ before after line is. accesses_own asks before after line (subst (AreAllowed asks no_run) is allowed);
}

pub run_guarded : (asks : Asks) (bytes : List ℕ) → IsRunGuarded asks bytes
run_guarded asks bytes stage goes = guarded_by asks goes.lines (read_allowed (unread asks) stage goes.lines goes.in_range goes.reads)
