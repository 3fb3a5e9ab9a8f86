-- Laws of the answer of a judge that writes, and of an input whose bytes are known.
use Rattle.std.specs.Io.KnownBytes.{Consumes}
use Rattle.std.proofs.Common.{◌≡◌, ◌≢◌, ◌↔◌, ℕ, Bool, true, List, [], ◌++◌, Option, None, Some, Result, Ok, Err, IfSome}
use Rattle.std.proofs.Common.{refl, sym, append-nil}
use Rattle.cap_streams.specs.declared.judging.judge_faults.{JudgeFault.JudgeFault, JudgeToFault.JudgeToFault}
use Rattle.cap_streams.specs.{declared.judging.judge_faults.JudgeToFault.TheVariants.{Pull, NoMemory, Push}, Streams.next_count}
use Rattle.cap_program.specs.{declared.faults.Fault.Fault, Doings.IsCounted, Faults.status_of}
use Rattle.cap_program.specs.Judging.{StopsJudging, judged}

module _ {V : Type 0} (status : V → ℕ) (before after : ℕ) where
  -- a fault of the source is one of the input
  pub judged_read : (answer : Result V JudgeToFault) → (answer ≢ Err Pull → after ≡ before)
      → (answer ≡ Err Pull → after ≡ next_count before) → IsCounted Fault.Read (judged status answer) before after
  judged_read (Ok verdict) same next = record { counted = λ is. absurd (cc); uncounted = λ other. same (λ is. cc) }
  judged_read (Err Pull) same next = record { counted = λ is. next refl; uncounted = λ other. absurd (other refl) }
  judged_read (Err NoMemory) same next = record { counted = λ is. absurd (cc); uncounted = λ other. same (λ is. cc) }
  judged_read (Err Push) same next = record { counted = λ is. absurd (cc); uncounted = λ other. same (λ is. cc) }

  -- a fault of the sink is one of the output
  pub judged_written : (answer : Result V JudgeToFault) → (answer ≢ Err Push → after ≡ before)
      → (answer ≡ Err Push → after ≡ next_count before) → IsCounted Fault.Write (judged status answer) before after
  judged_written (Ok verdict) same next = record { counted = λ is. absurd (cc); uncounted = λ other. same (λ is. cc) }
  judged_written (Err Pull) same next = record { counted = λ is. absurd (cc); uncounted = λ other. same (λ is. cc) }
  judged_written (Err NoMemory) same next = record { counted = λ is. absurd (cc); uncounted = λ other. same (λ is. cc) }
  judged_written (Err Push) same next = record { counted = λ is. next refl; uncounted = λ other. absurd (other refl) }

-- an order that judges is not at fault where its judge stops
pub stopped_unfaulty : {V : Type 0} (answers : Result V JudgeFault → Type 0) (fault : Fault) → StopsJudging answers fault
    → (status_of fault ≡ 2) ↔ ⊥
stopped_unfaulty answers Fault.Read stops = (λ two. absurd (cc), λ faulty. absurd faulty)
stopped_unfaulty answers Fault.NoMemory stops = (λ two. absurd (cc), λ faulty. absurd faulty)
stopped_unfaulty answers fault stops = absurd stops

-- the bytes of an input that gave these: all that are known of it, or those given
pub record Known (left : Option (List ℕ)) (given : List ℕ) (ended : Bool) : Type 0 where
  pub bytes : List ℕ
  pub more : List ℕ
  pub are : IfSome left (λ known. known ≡ bytes)
  pub bytes_are : bytes ≡ given ++ more
  pub none_more : ended ≡ true → more ≡ []

pub known_of : (left rest : Option (List ℕ)) (given : List ℕ) (ended : Bool) → Consumes left rest given
    → (ended ≡ true → (xs : List ℕ) → rest ≡ Some xs → xs ≡ []) → Known left given ended
known_of None rest given ended gives all =
    record { bytes = given; more = []; are = tt; bytes_are = sym (append-nil given); none_more = λ e. refl }
known_of (Some known) None given ended gives all = absurd gives
known_of (Some known) (Some xs) given ended gives all =
    record { bytes = known; more = xs; are = refl; bytes_are = gives; none_more = λ e. all e xs refl }
