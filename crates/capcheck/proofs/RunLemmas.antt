-- What was done for an order, told of an input whose bytes are known.
use Rattle.std.specs.Io.KnownBytes.{Consumes}
use Rattle.std.proofs.Common.{◌≡◌, ◌≤◌, ◌↔◌, ℕ, Bool, true, false, List, [], ◌++◌, Option, None, Some, Result, Ok, Err}
use Rattle.std.proofs.Common.{refl, sym, ap, subst, ◌∙◌, append-nil, arith}
use Rattle.cap_streams.specs.declared.judging.judge_faults.{JudgeFault.JudgeFault, JudgeToFault.JudgeToFault}
use Rattle.cap_streams.specs.declared.judging.judge_faults.JudgeToFault.TheVariants.{Pull, Push}
use Rattle.cap_vectors.specs.declared.files.VectorVerdict.{VectorVerdict, TheVariants.{Pass, Fail}}
use Rattle.cap_vectors.specs.VectorFiles.{FailsFirst, IsVectorVerdict, IsVectorVerdictOf}
use Rattle.cap_judge.specs.{declared.verdict.Verdict.Verdict, Judgings.IsAnswerOf, Reports.{IsPushedFor, Tells}}
use Rattle.cap_judge.specs.{VerdictLines.verdict_status, Verdicts.IsVerdict}
use Rattle.cap_judge.proofs.{ReportLemmas.{tells_known, unanswered, verdict_few}, SourceLemmas.of_all}
use Rattle.cap_program.specs.declared.faults.Fault.{Fault, TheVariants.{BadWords, BadWord, Read}}
use Rattle.cap_program.specs.{Commands.IsMeant, Doings.IsDone}
use Rattle.cap_program.specs.{Faults.status_of, Judging.{ShowsVerdict, StopsJudging, judged}}
use Rattle.cap_program.proofs.Judgements.{known_of, stopped_unfaulty}
use Rattle.capcheck.specs.declared.words.Order.{Order, TheVariants.{Explain, Round, Judge, Vectors}}
use Rattle.capcheck.specs.{Answers.{Prints, vector_status}, Doings.{Fails, Shows, order_meaning}, Operands.IsFaulty}
use Rattle.capcheck.proofs.OperandLemmas.{refused_request, refused_status}

-- what was pushed for an answer is what was done for the order
pub judged_done : (tells : Verdict → List ℕ → Type 0) (given : List ℕ) (ended : Bool) (took : List ℕ → Type 0)
    (answer : Result Verdict JudgeToFault) → IsPushedFor tells given ended took answer
    → IsDone (ShowsVerdict verdict_status (IsAnswerOf given ended) tells) (StopsJudging (IsAnswerOf given true)) took (judged verdict_status answer)
judged_done tells given ended took (Ok verdict) p = (p.1, (verdict, p.0, p.2, refl), p.3)
judged_done tells given ended took (Err Pull) p = (unanswered given ended JudgeFault.Pull p.0, p.1)
judged_done tells given ended took (Err JudgeToFault.NoMemory) p = (unanswered given ended JudgeFault.NoMemory p.0, p.1)
judged_done tells given ended took (Err Push) p = (p.2, verdict_status p.0, (p.0, p.1, p.3, refl), p.4, p.5)

-- the verdict on the bytes given, and its text, are those of all bytes
verdict_known : (origins : Bool) (known given rest : List ℕ) (ended : Bool) (verdict : Verdict) (text : List ℕ) → known ≡ given ++ rest
    → (ended ≡ true → rest ≡ []) → IsAnswerOf given ended (Ok verdict) → Tells origins given verdict text
    → IsVerdict known verdict × Tells origins known verdict text
verdict_known origins known given rest ended verdict text are end answer tells = (
  (of_all known given rest ended (Ok verdict) are end answer (λ e. cc)).0,
  tells_known origins known given rest ended verdict text are end answer.verdict tells,
)

-- the same as a vector file
check_known : (known given rest : List ℕ) (ended : Bool) (verdict : VectorVerdict) → known ≡ given ++ rest → (ended ≡ true → rest ≡ [])
    → IsVectorVerdictOf given ended verdict → IsVectorVerdict known verdict
check_known known given rest true verdict are end is =
    subst (λ (bytes : List ℕ). IsVectorVerdict bytes verdict)
    (sym (are ∙ ap (λ (r : List ℕ). given ++ r) (end refl) ∙ append-nil given)) is
check_known known given rest false (Pass lines) are end is = absurd is
check_known known given rest false (Fail line) are end is = subst (λ (bytes : List ℕ). FailsFirst bytes line) (sym are) (is rest)

-- the text that belongs to the bytes given is printed for an input that gave them
shows_known : (order : Option Order) (left rest : Option (List ℕ)) (given : List ℕ) (ended : Bool) (text : List ℕ) (status : ℕ)
    → Consumes left rest given → (ended ≡ true → (xs : List ℕ) → rest ≡ Some xs → xs ≡ [])
    → Shows order given ended text status → Prints order left text status
shows_known None left rest given ended text status gives all shows = absurd shows
shows_known (Some (Explain memory tag hex)) left rest given ended text status gives all shows = (shows.0, shows.2, shows.3, shows.4)
shows_known (Some (Round base length)) left rest given ended text status gives all shows = shows
shows_known (Some (Judge origins file)) left rest given ended text status gives all shows =
    let k = known_of left rest given ended gives all in
    let both = verdict_known origins k.bytes given k.more ended shows.0 text k.bytes_are k.none_more shows.1 shows.2 in
    (k.bytes, k.are, shows.0, both.0, both.1, shows.3)
shows_known (Some (Vectors file)) None rest given ended text status gives all shows = (shows.0, tt, shows.2, shows.3)
shows_known (Some (Vectors file)) (Some known) None given ended text status gives all shows = absurd gives
shows_known (Some (Vectors file)) (Some known) (Some xs) given ended text status gives all shows =
    (shows.0, check_known known given xs ended shows.0 gives (λ e. all e xs refl) shows.1, shows.2, shows.3)

vector_few : (verdict : VectorVerdict) → vector_status verdict ≤ 1
vector_few (Pass lines) = omega arith
vector_few (Fail line) = omega arith

-- the status of a text
few : (order : Option Order) (given : List ℕ) (ended : Bool) (text : List ℕ) (status : ℕ) → Shows order given ended text status → status ≤ 1
few None given ended text status shows = absurd shows
few (Some (Explain memory tag hex)) given ended text status shows = let is = shows.4 in omega arith
few (Some (Round base length)) given ended text status shows = let is = shows.1 in omega arith
few (Some (Judge origins file)) given ended text status shows = let is = shows.3 in let at = verdict_few shows.0 in omega arith
few (Some (Vectors file)) given ended text status shows = let is = shows.3 in let at = vector_few shows.0 in omega arith

-- an order with a text can be followed
unfaulty : (order : Option Order) (given : List ℕ) (ended : Bool) (text : List ℕ) (status : ℕ) → Shows order given ended text status
    → IsFaulty order → ⊥
unfaulty None given ended text status shows faulty = shows
unfaulty (Some (Explain memory tag hex)) given ended text status shows faulty = faulty shows.0 shows.1 shows.2
unfaulty (Some (Round base length)) given ended text status shows faulty =
    faulty shows.0.base shows.0.length shows.0.spelled shows.0.within
unfaulty (Some (Judge origins file)) given ended text status shows faulty = faulty
unfaulty (Some (Vectors file)) given ended text status shows faulty = faulty

-- a fault has status 2 just where the order cannot be followed
asked_fault : (order : Option Order) (given : List ℕ) (fault : Fault) → Fails order given fault → (status_of fault ≡ 2) ↔ IsFaulty order
asked_fault None given BadWords fails = (λ two. tt, λ faulty. refl)
asked_fault None given fault fails = absurd fails
asked_fault (Some (Explain memory tag hex)) given BadWord fails = (λ two. fails, λ faulty. refl)
asked_fault (Some (Explain memory tag hex)) given fault fails = absurd fails
asked_fault (Some (Round base length)) given fault fails =
    (λ two. (refused_request base.now length.now fault fails).0 two, λ faulty. refused_status base.now length.now fault fails)
asked_fault (Some (Judge origins file)) given fault fails = stopped_unfaulty (IsAnswerOf given true) fault fails
asked_fault (Some (Vectors file)) given Read fails = (λ two. absurd (cc), λ faulty. absurd faulty)
asked_fault (Some (Vectors file)) given fault fails = absurd fails

-- the meaning of an order, its faults and its status agree
pub orders_meant : IsMeant order_meaning
orders_meant = record {
  known = shows_known;
  few = few;
  unfaulty = unfaulty;
  asked = asked_fault;
}
