-- What is told of a step of a run that is refused (this profile's own).
use Rattle.std.specs.Prelude.{◌≡◌, ℕ, ◌+◌, Bool, true, false, ◌&&◌, if◌then◌else◌, List, [], ◌++◌, Option, Some, None, is_some, codes, decimal}
use Rattle.cap_word.specs.declared.word.{Cap.Cap}
use Rattle.cap_ops.specs.{Checks.first_of, DerivedWords.derive_checks}
use Rattle.cap_log.specs.declared.kinds.Step.{Step}
use Rattle.cap_machine.specs.{declared.shown.Reached.Reached, Shown.shown_of}
use Rattle.cap_run_log.specs.declared.lines.RunPlace.{RunPlace}
use Rattle.cap_run_log.specs.declared.lines.RunPlace.TheVariants as places
use Rattle.cap_run_log.specs.declared.lines.RunRegister.{TheVariants.{General, Special}}
use Rattle.cap_run_log.specs.declared.lines.RunStep.{RunStep}
use Rattle.cap_run_log.specs.declared.lines.RunStep.TheVariants as steps
use Rattle.cap_texts.specs.TextLines.{says_line, text_line}
use Rattle.cap_run.specs.declared.ends.RunRefusal.{RunRefusal, TheVariants.{HasOwner, NoCapability, NotOwned, Overlaps, OwnerFreed, StillHeld}}
use Rattle.cap_run.specs.declared.ends.RunRefusal.TheVariants.{AlreadyFreed, NoObject, NoOwner, Usual}
use Rattle.cap_run.specs.{Run.Run, RunChanges.account_in}
use Rattle.cap_report.specs.{Parts.lines_of_parts, StepLines.{asked_parts, step_lines}}
use Rattle.cap_run_report.specs.{CapParts.{held_lines, owned_lines, placed_in, recorded_for, register_lines}, DeriveSentences.derive_text}
use Rattle.cap_run_report.specs.{Extents.{asked_extent, meant}, InvokedPairs.invoked_lines, ObjectParts.{AreExtentLines, AreMetLines, AreOwnerLines}}
use Rattle.cap_run_report.specs.RunSentences.{IsAskedText, IsTouchedText, capability_text, dead_text, owns_text, unallocated_text, unowned_text}
use Rattle.cap_run_report.specs.declared.cap_parts.Placed.{Placed}

-- the object that owns a place, and that it does
abbrev pub AreOwningLines : Run → Option ℕ → RunPlace → List ℕ → Type 0
AreOwningLines run owner place told =
    (lines : List ℕ) × AreOwnerLines run owner lines × (told ≡ lines ++ says_line (owns_text run owner place))

-- what is told of the access of a step that is refused for its owner: the freed object that owns the authority, or the live
-- one that it touches
abbrev pub AreReachedLines : Run → Reached → RunRefusal → List ℕ → Type 0
AreReachedLines run access OwnerFreed told = AreOwningLines run (run.owners access.authority) (places.General access.authority) told
AreReachedLines run access NotOwned told =
    (lines : List ℕ) × AreMetLines run None false access.address (access.address + access.size) lines
    × (text : List ℕ) × IsTouchedText run access.authority access.address (access.address + access.size) text × (told ≡ lines ++ says_line text)
AreReachedLines run access refusal told = told ≡ []

abbrev pub AreAccessLines : Run → Option Reached → RunRefusal → List ℕ → Type 0
AreAccessLines run None refusal told = told ≡ []
AreAccessLines run (Some access) refusal told = AreReachedLines run access refusal told

-- a step of version 2: as in the report on another log, but without origins; and then its access
abbrev pub AreUsualLines : Run → Step → RunRefusal → List ℕ → Type 0
AreUsualLines run step (Usual refusal) told = told ≡ step_lines (account_in run) step refusal
AreUsualLines run step refusal told =
    let account = account_in run in
    let shown = shown_of account.state step in
    (access : List ℕ) × AreAccessLines run shown.access refusal access × (told ≡ lines_of_parts (asked_parts account shown) ++ access)

-- a source, what the line records for the register that gets it, and why that is refused
abbrev pub derived_lines : Placed → Placed → RunRefusal → List ℕ
derived_lines target source refusal =
    held_lines (codes "source") source.place source.cap ++ held_lines (codes "recorded") target.place target.cap
    ++ says_line (derive_text target source refusal)

-- whether a register can't get what is derived from a source
abbrev pub is_refused : Cap → Cap → Bool
is_refused source result = result.tag && is_some (first_of (derive_checks source result.word.0 false))

-- of an exchange the pair that is refused: a register and what the special register holds, if that can't be derived; and
-- otherwise the special register and its source
abbrev pub exchanged_lines : Placed → Placed → Placed → Placed → RunRefusal → List ℕ
exchanged_lines target held special source refusal =
    if is_refused held.cap target.cap then derived_lines target held refusal else derived_lines special source refusal

-- what is told of the interval that a line asks for as an extent
abbrev pub AreAskedExtentLines : Run → Option ℕ → Bool → Option (ℕ × ℕ) → List ℕ → Type 0
AreAskedExtentLines run left_out freed None told = told ≡ []
AreAskedExtentLines run left_out freed (Some extent) told = AreExtentLines run left_out freed extent.0 extent.1 told

-- that, and why it is in vain
abbrev pub AreAskedLines : Run → ℕ → Option ℕ → Bool → List ℕ → Type 0
AreAskedLines run register number freed told =
    (lines : List ℕ) × AreAskedExtentLines run number freed (asked_extent run register number) lines
    × (text : List ℕ) × IsAskedText run register number freed text × (told ≡ lines ++ says_line text)

-- an object that isn't live
abbrev pub AreDeadLines : Run → Option ℕ → List ℕ → Type 0
AreDeadLines run owner told = (lines : List ℕ) × AreOwnerLines run owner lines × (told ≡ lines ++ says_line (dead_text run owner))

-- how many objects were handed out, and that this is too few
abbrev pub unallocated_lines : Run → Option ℕ → List ℕ
unallocated_lines run number = text_line (codes "objects") (decimal run.count) ++ says_line (unallocated_text run number)

-- why what a register holds is handed out or freed in vain, with the number of an object or without
abbrev pub AreLifeLines : Run → ℕ → Option ℕ → RunRefusal → List ℕ → Type 0
AreLifeLines run register number NoCapability told = told ≡ says_line (capability_text (places.General register) (run.state register))
AreLifeLines run register number HasOwner told = AreOwningLines run (run.owners register) (places.General register) told
AreLifeLines run register number NoOwner told = told ≡ says_line (unowned_text (places.General register) (run.state register))
AreLifeLines run register number AlreadyFreed told = AreDeadLines run (meant run register number) told
AreLifeLines run register number NoObject told = told ≡ unallocated_lines run number
AreLifeLines run register number Overlaps told = AreAskedLines run register number false told
AreLifeLines run register number StillHeld told = AreAskedLines run register number true told
AreLifeLines run register number refusal told = told ≡ []

-- the register, its owner, and that
abbrev pub AreObjectStepLines : Run → ℕ → Option ℕ → RunRefusal → List ℕ → Type 0
AreObjectStepLines run register number refusal told =
    (life : List ℕ) × AreLifeLines run register number refusal life
    × (told ≡ register_lines (codes "register") run (General register) ++ (owned_lines (run.owners register) ++ life))

-- why the object of a number is freed in vain
abbrev pub AreFreeLines : Run → ℕ → RunRefusal → List ℕ → Type 0
AreFreeLines run number AlreadyFreed told = AreDeadLines run (Some number) told
AreFreeLines run number NoObject told = told ≡ unallocated_lines run (Some number)
AreFreeLines run number refusal told = told ≡ []

-- a step that only runs have
abbrev pub AreRunStepLines : Run → RunStep → RunRefusal → List ℕ → Type 0
AreRunStepLines run (steps.Derive step) refusal told =
    told ≡ derived_lines (recorded_for step.target step.result) (placed_in run step.source) refusal
AreRunStepLines run (steps.Exchange step) refusal told =
    let target = recorded_for (General step.target) step.result in
    let special = recorded_for (Special step.special) step.special_result in
    told ≡ exchanged_lines target (placed_in run (Special step.special)) special (placed_in run (General step.source)) refusal
AreRunStepLines run (steps.Invoke step) refusal told =
    told ≡ invoked_lines (placed_in run (General step.code)) (placed_in run (General step.datum)) step.code_word step.datum_word refusal
AreRunStepLines run (steps.Object register) refusal told = AreObjectStepLines run register None refusal told
AreRunStepLines run (steps.Widen register number) refusal told = AreObjectStepLines run register (Some number) refusal told
AreRunStepLines run (steps.FreeOwner register) refusal told = AreObjectStepLines run register None refusal told
AreRunStepLines run (steps.FreeNumber number) refusal told = AreFreeLines run number refusal told
AreRunStepLines run step refusal told = told ≡ []
