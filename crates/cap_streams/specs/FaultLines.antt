-- The line at which a judge stopped, and why one gave no verdict. All of it is this profile's own.
use Rattle.std.specs.Prelude.{List, codes, take, ℕ}
use Rattle.cap_streams.specs.declared.judging.{fault_lines.FaultLine.FaultLine, judge_faults.JudgeFault.JudgeFault}
use Rattle.cap_streams.specs.declared.judging.judge_faults.JudgeToFault.{JudgeToFault, TheVariants.{Pull, NoMemory, Push}}
use Rattle.cap_streams.specs.declared.judging.judge_faults.JudgeFault.TheVariants as judge_faults

-- the bytes that are held of a line
abbrev pub bytes_of : FaultLine → List ℕ
bytes_of line = take line.length line.bytes

-- the fault of a judge that writes where the judging has one
abbrev pub told_fault : JudgeFault → JudgeToFault
told_fault judge_faults.Pull = Pull
told_fault judge_faults.NoMemory = NoMemory

-- what a fault says of itself
abbrev pub fault_text : JudgeToFault → List ℕ
fault_text Pull = codes "the source failed"
fault_text NoMemory = codes "out of memory"
fault_text Push = codes "the sink failed"
