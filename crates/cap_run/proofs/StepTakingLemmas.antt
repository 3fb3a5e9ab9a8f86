-- Lines of steps of version 2 that are taken one after another.
use Rattle.std.proofs.Common.{◌≡◌, ◌<◌, ℕ, List, [], ◌∷◌, ◌++◌, length, length-append, arith, Bool, Option, None, Err, refl, sym, ap, subst, ◌∙◌, append-nil, append_assoc}
use Rattle.std.proofs.lemmas.{Grind.flat_map-append}
use Rattle.cap_log.specs.{declared.{kinds.Step.Step, lines.Line.Line}, Lines.{IsInRange, IsStepInRange, spelling}, Parts.Begins}
use Rattle.cap_log.proofs.ElementLemmas.{AllByRecursion-append}
use Rattle.cap_run_log.specs.declared.lines.{RunLine.RunLine}
use Rattle.cap_run_log.specs.RunLines.{IsRunLineInRange, run_spelling}
use Rattle.cap_run.specs.declared.ends.{RunEnd.RunEnd, RunRefusal.RunRefusal}
use Rattle.cap_run.specs.{declared.asks.Asks.Asks, Run.Run, RunChanges.usual_after, RunChecks.{Answers, usual_end}}
use Rattle.cap_run.specs.StepLines.{LeadBy, MakesUsualSteps, text_of_steps}

LeadBy-append : (asks : Asks) (from middle to : Run) (steps more : List Step) → LeadBy asks from steps middle → LeadBy asks middle more to
    → LeadBy asks from (steps ++ more) to
LeadBy-append asks from middle to [] more h k = subst (λ (run : Run). LeadBy asks run more to) (sym h) k
LeadBy-append asks from middle to (step ∷ steps) more h k =
    (h.0, LeadBy-append asks (usual_after from step) middle to steps more h.1 k)

-- a line shortens what is left
pub line_shorter : (bytes rest : List ℕ) (line : RunLine) → Begins IsRunLineInRange run_spelling 10 bytes line rest → length rest < length bytes
line_shorter bytes rest line begins = rw begins.1 (omega (arith, length-append (run_spelling line) (10 ∷ rest)))

-- one line more
pub makes_step : (asks : Asks) (first old new : Run) (bytes front rest behind : List ℕ) (step : Step) → bytes ≡ front ++ rest
    → MakesUsualSteps asks first front old → Begins IsRunLineInRange run_spelling 10 rest (RunLine.Step step) behind
    → usual_end asks old step ≡ None → new ≡ usual_after old step
    → (fronts : List ℕ) × (bytes ≡ fronts ++ behind) × MakesUsualSteps asks first fronts new
makes_step asks first old new bytes front rest behind step is so_far begins free new_is =
    let text = run_spelling (RunLine.Step step) in
    let more = text ++ 10 ∷ [] in (
      front ++ more,
      is ∙ ap (λ (r : List ℕ). front ++ r) (begins.1 ∙ sym (append_assoc text (10 ∷ []) behind)) ∙ sym (append_assoc front more behind),
      record {
        steps = so_far.steps ++ step ∷ [];
        in_range = AllByRecursion-append IsStepInRange so_far.steps (step ∷ []) so_far.in_range (begins.0, tt);
        bytes_are = ap (λ (t : List ℕ). t ++ more) so_far.bytes_are ∙ ap (λ (t : List ℕ). text_of_steps so_far.steps ++ t) (sym (append-nil more))
            ∙ sym (flat_map-append (λ (s : Step). run_spelling (RunLine.Step s) ++ 10 ∷ []) so_far.steps (step ∷ []));
        leads = LeadBy-append asks first old new so_far.steps (step ∷ []) so_far.leads (free, sym new_is);
      },
    )

same_step : (step : Step) → spelling (Line.Step step) ≡ run_spelling (RunLine.Step step)
unfolding spelling run_spelling
same_step step = refl

-- a step's line, as a line of a run log
pub step_begins : (bytes rest : List ℕ) (step : Step) → Begins IsInRange spelling 10 bytes (Line.Step step) rest
    → Begins IsRunLineInRange run_spelling 10 bytes (RunLine.Step step) rest
step_begins bytes rest step begins = (begins.0, begins.1 ∙ ap (λ (t : List ℕ). t ++ 10 ∷ rest) (same_step step))

-- an answer that is an error leaves the run as it was
pub err_same : (end : Option RunRefusal) (after : Run) (wants : Bool) (old : Run) (why : RunEnd) (new : Run)
    → Answers end after wants old (Err why) new → new ≡ old
err_same end after wants old (RunEnd.Refused refusal) new answers = answers.1
err_same end after wants old RunEnd.NoMemory new answers = answers.2
