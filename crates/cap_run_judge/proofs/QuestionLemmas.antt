-- What a judge of run logs is asked: what the rules give for a step that is refused for its result, and the verdict.
use Rattle.std.specs.Option.{option_map_or}
use Rattle.std.proofs.Common.{◌≡◌, ℕ, ◌&&◌, ◌||◌, nat_le, not, inl, inr, Bool, true, false, List, [], ◌∷◌, ◌++◌, map, refl, sym, subst, ◌∙◌}
use Rattle.std.proofs.Common.{Ok, Option, Some, None}
use Rattle.cap_ops.specs.{declared.refusal.Refusal.{Refusal, TheVariants.{LimitPassed, WrongResult}}, Checks.first_of}
use Rattle.cap_ops.proofs.TestLemmas.{first_of-append, first_of-append_free, first_of-append_none}
use Rattle.cap_log.specs.{declared.{kinds.Step.Step, lines.Line.Line}, Lines.{Spells, spelling}}
use Rattle.cap_machine.specs.{Accounts.{Account, most_steps, named_by, passes_granule_limit, row_in, step_checks}, Steps.agrees}
use Rattle.cap_machine.proofs.EscapeLemmas.{never_wrong}
use Rattle.cap_judge.specs.{declared.verdict.Expected.Expected, Expectations.{GivesFor, given_in}}
use Rattle.cap_run_log.specs.{declared.lines.RunLine.RunLine, RunLines.{SpellsRun, run_spelling}}
use Rattle.cap_run_log.proofs.Spellings.{one_run_spelling}
use Rattle.cap_run.specs.declared.{asks.Asks.Asks, ends.RunRefusal.{RunRefusal, TheVariants.{NotOwned, OwnerFreed, Usual}}}
use Rattle.cap_run.specs.{Run.Run, RunChanges.{account_in, without_origins}, RunChecks.{is_unowned, passes_limit, usual_end, uses_freed}}
use Rattle.cap_run_judge.specs.{Questions.GivesForText, Readings.{AnswerAtEnd, VerdictAtEnd}, Turns.RunStage}
use Rattle.cap_run_judge.specs.declared.verdict.RunVerdict.{RunVerdict, TheVariants.{No, Yes}}

-- a check of version 2, as one of runs
abbrev usual_checks : List (Bool × Refusal) → List (Bool × RunRefusal)
usual_checks checks = map (λ check. (check.0, Usual check.1)) checks

failed_usual : (checks : List (Bool × Refusal)) (refusal : Refusal) → first_of (usual_checks checks) ≡ Some (Usual refusal)
    → first_of checks ≡ Some refusal
failed_usual [] refusal h = cc
failed_usual ((true, other) ∷ checks) refusal h = cc
failed_usual ((false, other) ∷ checks) refusal h = failed_usual checks refusal h

none_failed : (checks : List (Bool × Refusal)) → first_of (usual_checks checks) ≡ None → first_of checks ≡ None
none_failed [] h = refl
none_failed ((true, other) ∷ checks) h = cc
none_failed ((false, other) ∷ checks) h = none_failed checks h

-- the checks of what is asked, and those of the result and the limits
abbrev asked_list : Bool → Bool → List (Bool × RunRefusal)
asked_list a b = (a, OwnerFreed) ∷ (b, NotOwned) ∷ []

abbrev last_list : Bool → Bool → List (Bool × RunRefusal)
last_list other limit = (other, Usual WrongResult) ∷ (limit, Usual LimitPassed) ∷ []

abbrev last_usual : Bool → Bool → List (Bool × Refusal)
last_usual other limit = (other, WrongResult) ∷ (limit, LimitPassed) ∷ []

-- what is asked of an access is not its result
not_asked : (a b : Bool) → first_of (asked_list a b) ≡ Some (Usual WrongResult) → ⊥
not_asked true b h = cc
not_asked false true h = cc
not_asked false false h = cc

is_wrong : (other limit : Bool) → first_of (last_list other limit) ≡ Some (Usual WrongResult) → other ≡ true
is_wrong true limit h = refl
is_wrong false true h = cc
is_wrong false false h = cc

wrong_first : (other limit : Bool) → other ≡ true → first_of (last_usual other limit) ≡ Some WrongResult
wrong_first other limit is = rw is refl

-- a step that is refused for its result in a run is refused for it by the checks of version 2
module _ (asks : Asks) (run : Run) (step : Step) where
  by_checks : (checks : List (Bool × Refusal)) (a b other limit passed : Bool) → (first_of checks ≡ Some WrongResult → ⊥)
      → first_of (usual_checks checks ++ asked_list a b ++ last_list other limit) ≡ Some (Usual WrongResult)
      → first_of (checks ++ last_usual other passed) ≡ Some WrongResult
  by_checks checks a b other limit passed never h =
      elim (first_of-append (usual_checks checks ++ asked_list a b) (last_list other limit) (Usual WrongResult) h) [
        | inl found ↦ elim (first_of-append (usual_checks checks) (asked_list a b) (Usual WrongResult) found) [
          | inl own ↦ absurd (never (failed_usual checks WrongResult own))
          | inr asked ↦ absurd (not_asked a b asked.1)
        ]
        | inr found ↦
            first_of-append_none checks (last_usual other passed)
            (none_failed checks (first_of-append_free (usual_checks checks) (asked_list a b) found.0).0)
            ∙ wrong_first other passed (is_wrong other limit found.1)
      ]

  pub wrong : usual_end asks run step ≡ Some (Usual WrongResult) → first_of (step_checks (account_in run) step) ≡ Some WrongResult
  wrong h =
      let account = account_in run in
      let row = row_in account step in
      by_checks row.checks (asks.used && option_map_or (uses_freed run) row.access false)
      (asks.owned && option_map_or (is_unowned run) row.access false) (not (agrees row.writes row.records)) (passes_limit run (named_by row))
      (nat_le most_steps account.steps || passes_granule_limit account (named_by row)) (never_wrong account step) h

gives_one : (account : Account) (step : Step) (result : Option Expected) → GivesFor account step result
    → first_of (step_checks account step) ≡ Some WrongResult → result ≡ given_in (row_in account step)
gives_one account step None gives is = absurd (gives is)
gives_one account step (Some expected) gives is = sym (gives is)

-- what is given says nothing of origins
pub gives_bare : (account : Account) (step : Step) (result : Option Expected) → GivesFor account step result
    → GivesFor (without_origins account) step result
gives_bare account step None gives = gives
gives_bare account step (Some expected) gives = gives

-- a step spells the same as in other logs
usual_spelling : (step : Step) → run_spelling (RunLine.Step step) ≡ spelling (Line.Step step)
unfolding run_spelling spelling
usual_spelling step = refl

spells_run : (text : List ℕ) (step : Step) → Spells text (Line.Step step) → SpellsRun text (RunLine.Step step)
spells_run text step spells = (spells.0, spells.1 ∙ sym (usual_spelling step))

-- the step that a text spells
abbrev OfLine : Asks → Run → RunLine → Option Expected → Type 0
OfLine asks run (RunLine.Step step) result =
    usual_end asks run step ≡ Some (Usual WrongResult) → result ≡ given_in (row_in (account_in run) step)
OfLine asks run line result = result ≡ None

pub for_text : (asks : Asks) (run : Run) (text : List ℕ) (step : Step) (result : Option Expected) → SpellsRun text (RunLine.Step step)
    → GivesFor (account_in run) step result → GivesForText asks run text result
for_text asks run text step result spells gives = record {
  given = λ other spelled.
      subst (λ (l : RunLine). OfLine asks run l result) (one_run_spelling text (RunLine.Step step) (RunLine.Step other) spells (spells_run text other spelled))
      (λ is. gives_one (account_in run) step result gives (wrong asks run step is));
  none = λ never. absurd (never step (spells.0, spells.1 ∙ usual_spelling step));
}

-- and no step
pub not_for_text : (asks : Asks) (run : Run) (text : List ℕ) → ((step : Step) → SpellsRun text (RunLine.Step step) → ⊥)
    → GivesForText asks run text None
not_for_text asks run text never = record {
  given = λ step spelled. absurd (never step (spells_run text step spelled));
  none = λ _. refl;
}

-- another line
pub other_line : (text : List ℕ) (line : RunLine) → SpellsRun text line → ((step : Step) → line ≡ RunLine.Step step → ⊥)
    → (step : Step) → SpellsRun text (RunLine.Step step) → ⊥
other_line text line spells other step spelled = other step (one_run_spelling text line (RunLine.Step step) spells spelled)

-- a yes at the end of a log
pub ends_yes : (stage : RunStage) (rest : List ℕ) (verdict : RunVerdict) → AnswerAtEnd stage rest (Ok verdict) → VerdictAtEnd stage rest verdict []
ends_yes stage rest (Yes steps roots objects) ends = ends
ends_yes stage rest (No line refusal) ends = absurd ends
