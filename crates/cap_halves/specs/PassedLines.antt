-- The steps that lines name, by the kinds and the numbers that C passes (this profile's own).
use Rattle.std.specs.Prelude.{ℕ, ◌==◌, if◌then◌else◌, nat_lt, List, [], ◌∷◌, Option, Some, None, option_map}
use Rattle.cap_log.specs.declared.kinds.Step.{Step}
use Rattle.cap_log.specs.declared.kinds.Step.TheVariants as steps
use Rattle.cap_run_log.specs.declared.lines.{RunLine.RunLine, RunStep.RunStep}
use Rattle.cap_run_log.specs.declared.lines.RunLine.TheVariants as lines
use Rattle.cap_halves.specs.declared.values.{PassedLine.PassedLine, PassedRunLine.PassedRunLine}
use Rattle.cap_halves.specs.PassedRuns.{derive_passed, drop_passed, exchange_passed, fill_passed, free_passed, invoke_passed, object_passed}
use Rattle.cap_halves.specs.PassedSteps.{authorized_passed, data_passed, lc_passed, numbered_passed, plain_passed, sc_passed}

-- what a table of kinds has for a kind, if it has it
abbrev pub of_kind : {A : Type 0} → ℕ → List (ℕ × Option A) → Option A
of_kind kind [] = None
of_kind kind (row ∷ rows) = if kind == row.0 then row.1 else of_kind kind rows

-- the step of version 2 that a line's kind and numbers name, in range or not
abbrev pub step_passed : PassedLine → Option Step
step_passed line = of_kind line.kind (
    (5, Some (steps.Move (plain_passed line.target line.source line.cap)))
    ∷ (6, Some (steps.ClearTag (plain_passed line.target line.source line.cap)))
    ∷ (7, Some (steps.SetBounds (numbered_passed line.target line.source line.number line.cap)))
    ∷ (8, Some (steps.SetBoundsExact (numbered_passed line.target line.source line.number line.cap)))
    ∷ (9, Some (steps.SetAddr (numbered_passed line.target line.source line.number line.cap)))
    ∷ (10, Some (steps.AndPerm (numbered_passed line.target line.source line.number line.cap)))
    ∷ (11, Some (steps.Seal (authorized_passed line.target line.source line.authority line.cap)))
    ∷ (12, Some (steps.Unseal (authorized_passed line.target line.source line.authority line.cap)))
    ∷ (13, Some (steps.LoadCap (lc_passed line.target line.authority line.offset line.cap)))
    ∷ (14, Some (steps.StoreCap (sc_passed line.source line.authority line.offset)))
    ∷ (15, Some (steps.Load (data_passed line.authority line.offset line.size line.number)))
    ∷ (16, Some (steps.Store (data_passed line.authority line.offset line.size line.number)))
    ∷ []
    )

-- the step that only runs have: the registers of an invoke are the line's source and authority, and that of an object or a
-- free is its source
abbrev pub run_step_passed : PassedRunLine → Option RunStep
run_step_passed passed = let line = passed.line in of_kind line.kind (
    (64, derive_passed passed.target passed.source line.cap)
    ∷ (65, Some (exchange_passed line.target line.source line.number line.cap passed.second))
    ∷ (66, Some (invoke_passed line.source line.authority line.cap.word passed.second.word))
    ∷ (67, drop_passed passed.target)
    ∷ (68, fill_passed line.number line.cap.word)
    ∷ (69, Some (object_passed line.source line.number))
    ∷ (70, free_passed line.source line.number)
    ∷ []
    )

-- the line of the step that a line of a run log names: the kinds from 64 on are those that only run logs have
abbrev pub run_line_passed : PassedRunLine → Option RunLine
run_line_passed passed =
    if nat_lt passed.line.kind 64 then option_map lines.Step (step_passed passed.line) else option_map lines.Run (run_step_passed passed)
