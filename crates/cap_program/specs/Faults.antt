-- The statuses and the lines of what a program could not do. All of it is this profile's own.
use Rattle.std.specs.Prelude.{ℕ, List, ◌++◌, codes, Result, Ok, Err}
use Rattle.cap_program.specs.declared.faults.Fault.{Fault}
use Rattle.cap_program.specs.declared.faults.Fault.TheVariants.{BadWords, BadWord, BadRequest, Read, Write, NoMemory}

-- the exit status of a fault
abbrev pub status_of : Fault → ℕ
status_of BadWords = 2
status_of BadWord = 2
status_of BadRequest = 2
status_of Read = 3
status_of Write = 3
status_of NoMemory = 3

-- what a fault is called
abbrev pub fault_text : Fault → List ℕ
fault_text BadWords = codes "bad words"
fault_text BadWord = codes "bad word"
fault_text BadRequest = codes "bad request"
fault_text Read = codes "read fault"
fault_text Write = codes "write fault"
fault_text NoMemory = codes "no memory"

-- the line on standard error, after what it begins with
abbrev pub fault_line : List ℕ → Fault → List ℕ
fault_line front fault = front ++ fault_text fault ++ codes "\n"

-- the exit status of what was done, or of the fault that came instead
abbrev pub exit_status : Result ℕ Fault → ℕ
exit_status (Ok status) = status
exit_status (Err fault) = status_of fault
