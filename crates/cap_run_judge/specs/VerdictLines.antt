-- The refusals of run logs by number and name, the line of a verdict, and its exit status. All of it is this profile's own.
use Rattle.std.specs.Prelude.{ℕ, List, ◌++◌, codes, decimal}
use Rattle.cap_ops.specs.Refusals.{refusal_number, refusal_name_at}
use Rattle.cap_run.specs.declared.ends.RunRefusal.{RunRefusal}
use Rattle.cap_run.specs.declared.ends.RunRefusal.TheVariants as refusals
use Rattle.cap_run_judge.specs.declared.verdict.RunVerdict.{RunVerdict, TheVariants.{Yes, No}}

-- a refusal's number
abbrev pub run_refusal_number : RunRefusal → ℕ
run_refusal_number (refusals.Usual refusal) = refusal_number refusal
run_refusal_number refusals.Overlaps = 28
run_refusal_number refusals.UnsoundResult = 30
run_refusal_number refusals.BeyondSource = 31
run_refusal_number refusals.SealChanged = 32
run_refusal_number refusals.NotInvokable = 33
run_refusal_number refusals.NoCapability = 34
run_refusal_number refusals.HasOwner = 35
run_refusal_number refusals.StillHeld = 36
run_refusal_number refusals.NoOwner = 37
run_refusal_number refusals.AlreadyFreed = 38
run_refusal_number refusals.OwnerFreed = 39
run_refusal_number refusals.NoObject = 40
run_refusal_number refusals.NotOwned = 41

-- a refusal's name, that of its number
abbrev pub run_refusal_name : RunRefusal → List ℕ
run_refusal_name refusal = refusal_name_at (run_refusal_number refusal)

-- the verdict as a line
abbrev pub run_verdict_line : RunVerdict → List ℕ
run_verdict_line (Yes steps roots objects) =
    codes "yes " ++ decimal steps ++ codes " " ++ decimal roots ++ codes " " ++ decimal objects ++ codes "\n"
run_verdict_line (No line refusal) =
    codes "no " ++ decimal line ++ codes " " ++ decimal (run_refusal_number refusal) ++ codes " " ++ run_refusal_name refusal ++ codes "\n"

-- the exit status of a verdict
abbrev pub run_verdict_status : RunVerdict → ℕ
run_verdict_status (Yes steps roots objects) = 0
run_verdict_status (No line refusal) = 1
