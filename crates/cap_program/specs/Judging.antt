-- What a program does with the answer of a judge that writes. All of it is this profile's own.
use Rattle.std.specs.Prelude.{◌≡◌, ℕ, List, Result, Ok, Err}
use Rattle.cap_streams.specs.declared.judging.judge_faults.{JudgeFault.JudgeFault, JudgeToFault.JudgeToFault}
use Rattle.cap_streams.specs.declared.judging.judge_faults.JudgeFault.TheVariants as judge_faults
use Rattle.cap_streams.specs.declared.judging.judge_faults.JudgeToFault.TheVariants as judging
use Rattle.cap_program.specs.declared.faults.Fault.{Fault, TheVariants.{Read, Write, NoMemory}}

-- the fault of a program whose judge has one
abbrev pub fault_of : JudgeToFault → Fault
fault_of judging.Pull = Read
fault_of judging.NoMemory = NoMemory
fault_of judging.Push = Write

-- the status, or the fault, that goes with the answer of a judge
abbrev pub judged : {V : Type 0} → (V → ℕ) → Result V JudgeToFault → Result ℕ Fault
judged status_of (Ok verdict) = Ok (status_of verdict)
judged status_of (Err fault) = Err (fault_of fault)

-- a text that belongs to a verdict that is answered, and the verdict's status
abbrev pub ShowsVerdict : {V : Type 0} → (V → ℕ) → (Result V JudgeFault → Type 0) → (V → List ℕ → Type 0) → List ℕ → ℕ → Type 0
ShowsVerdict {V} status_of answers tells text status = (verdict : V) × answers (Ok verdict) × tells verdict text × (status ≡ status_of verdict)

-- why there is no verdict: reading failed, or memory was refused, as a judge answers it
abbrev pub StopsJudging : {V : Type 0} → (Result V JudgeFault → Type 0) → Fault → Type 0
StopsJudging answers Read = answers (Err judge_faults.Pull)
StopsJudging answers NoMemory = answers (Err judge_faults.NoMemory)
StopsJudging answers fault = ⊥
