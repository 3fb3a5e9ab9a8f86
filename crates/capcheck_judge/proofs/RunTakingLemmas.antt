-- What a handle's judge takes that is handed lines of a run log.
use Rattle.std.proofs.Common.{inl, inr, ◌≡◌, ◌≢◌, ◌≤◌, ◌∙◌, ℕ, List, [], ◌++◌, ap, append_assoc, arith, drop}
use Rattle.std.proofs.Common.{length, refl, subst, sym, take, take-append-drop, Option, Some}
use Rattle.cap_run_log.specs.RunLines.{run_spelling}
use Rattle.cap_turns.specs.{declared.stops.Stop.{Stop, TheVariants.{Cut, Fault, NoMemory}}, declared.stops.Taken.Taken}
use Rattle.cap_turns.specs.{Turns.{Due, Goes, IsAtFault, Refused}, Readings.{Follows, StopsAt}, Verdicts.{Lacks, MayLackMemory}}
use Rattle.cap_run.specs.declared.asks.Asks.{Asks}
use Rattle.cap_run_judge.specs.{Questions.verdict_so_far, declared.verdict.RunVerdict.{RunVerdict, TheVariants.No}}
use Rattle.cap_run_judge.specs.{Turns.{RunStage, unread, run_turns}, Readings.{VerdictAtEnd, stage_of}}
use Rattle.cap_run_judge.proofs.{EndLemmas.{all_ends, no_stands}, TurnLemmas.run_spelled, CountLemmas.run_lawful}
use Rattle.capcheck_judge.specs.declared.run_answers.RunAnswer.{RunAnswer}
use Rattle.capcheck_judge.specs.RunAnswers.{run_numbers_of}
use Rattle.capcheck_judge.specs.RunHandles.{AnswersRunEnd, AnswersRunSoFar, StandingRun, StandsRun}
use Rattle.capcheck_judge.specs.RunHandles.{BeginsRun, HandsOverRunLines, HeldRunJudge, HoldsRun, IsRunRefusedAfter, RunJudgeIn}
use Rattle.capcheck_judge.specs.Takings.{lines_taken, state_at}
use Rattle.capcheck_judge.proofs.{HoldingLemmas.there, TakingLemmas.{few_states, no_bytes, stop_of}}
use Rattle.cap_turns.proofs.FollowLemmas.{clear_goes, fault_allows, fault_stays, faults_at, follows_on, goes_clear, refused_in}
use Rattle.cap_turns.proofs.FollowLemmas.{stop_follows}
use Rattle.cap_turns.proofs.{EndLemmas.lacks_memory, TurnLemmas.{goes_on, line_is}, OneEnd.never_faulty}
use Rattle.cap_run.specs.declared.ends.RunRefusal.{RunRefusal}

-- What a handle holds

-- a handle holds one judge
pub one_held : (held : HeldRunJudge) (asks_are : Asks) (bytes : List ℕ) (holds : HoldsRun held asks_are bytes) (judge : RunJudgeIn)
    → held ≡ Some judge → judge ≡ holds.judge
one_held held asks_are bytes holds judge is = let e = holds.held_is in cc (is, e)

-- it has taken what the handle's has
pub held_taken : (held : HeldRunJudge) (asks_are : Asks) (bytes : List ℕ) → HoldsRun held asks_are bytes → (judge : RunJudgeIn)
    → held ≡ Some judge → Follows run_turns (unread asks_are) bytes (stage_of judge)
held_taken held asks_are bytes holds judge is =
    subst (λ (j : RunJudgeIn). Follows run_turns (unread asks_are) bytes (stage_of j)) (sym (one_held held asks_are bytes holds judge is)) holds.taken

-- the faulty line begins the rest that a judge stopped at, where none was faulty before
refused_after : (asks_are : Asks) (old new : RunStage) (front rest before : List ℕ) → StopsAt run_turns old front rest Fault new
    → Follows run_turns (unread asks_are) before old → BeginsRun asks_are before → IsRunRefusedAfter asks_are (before ++ front) rest
refused_after asks_are old new front rest before (middle, goes, inl faults) read whole =
    let start = clear_goes run_turns (unread asks_are) before old read (never_faulty run_turns (run_lawful asks_are) before whole.0 old whole.1 read) in
    absurd (goes_clear run_turns (run_lawful asks_are) (before ++ front) middle (goes_on run_turns (unread asks_are) old middle before front start goes) faults.0)
refused_after asks_are old new front rest before (middle, goes, inr (clear, refusal, text, refused, last, is)) read whole =
    let start = clear_goes run_turns (unread asks_are) before old read (never_faulty run_turns (run_lawful asks_are) before whole.0 old whole.1 read) in
    (middle, refusal, goes_on run_turns (unread asks_are) old middle before front start goes, refused)

-- nothing is taken where a line was faulty before
none_taken : (asks_are : Asks) (old new : RunStage) (given : List ℕ) (n : ℕ) (before : List ℕ) → n ≤ length given
    → StopsAt run_turns old (take n given) (drop n given) Fault new → Follows run_turns (unread asks_are) before old → (BeginsRun asks_are before → ⊥) → n ≡ 0
none_taken asks_are old new given n before few (middle, goes, faults) (inl start) some = absurd (some (old, start))
none_taken asks_are old new given n before few (middle, goes, faults) (inr faulty) some =
    no_bytes given n few (fault_stays run_turns old (take n given) middle (faults_at run_turns faulty.3 faulty.1 old faulty.5) goes).0

-- memory ran out at a line that no check refuses
pub lacking : (asks_are : Asks) (front rest : List ℕ) (stage : RunStage) (more : List ℕ) → Follows run_turns (unread asks_are) front stage
    → Lacks run_turns stage rest more → MayLackMemory run_turns (unread asks_are) (front ++ rest) more
lacking asks_are front rest stage more (inl goes) lack = lacks_memory run_turns (run_lawful asks_are) front rest stage goes more lack
lacking asks_are front rest stage more (inr faulty) lack =
    absurd (fault_allows run_turns stage.state stage.due lack.line (faults_at run_turns faulty.3 faulty.1 stage faulty.5) lack.allowed)

-- unless a line is faulty, the front was read
front_read : (old new : RunStage) (front rest : List ℕ) (stop : Stop) → StopsAt run_turns old front rest stop new → state_at stop ≢ 2 → Goes run_turns old front new
front_read old new front rest Cut stops other = stops.0
front_read old new front rest Fault stops other = absurd (other refl)
front_read old new front rest NoMemory stops other = stops.0

-- the handle's judge took lines
pub took_run_lines : (given : List ℕ) (held after : HeldRunJudge) (old new : RunJudgeIn) (taken : Taken) → held ≡ Some old → after ≡ Some new
    → taken.count ≤ length given
    → StopsAt run_turns (stage_of old) (take taken.count given) (drop taken.count given) taken.stop (stage_of new)
    → HandsOverRunLines given held after (lines_taken taken)
took_run_lines given held after old new taken is now few_bytes stops_at =
    let front = take taken.count given in
    let rest = drop taken.count given in
    let few = few_states taken.stop in
    let at : (stop : Stop) → state_at taken.stop ≡ state_at stop → StopsAt run_turns (stage_of old) front rest stop (stage_of new) = λ stop wanted.
    subst (λ (s : Stop). StopsAt run_turns (stage_of old) front rest s (stage_of new)) (stop_of taken.stop stop wanted) stops_at in
    let read : (asks_are : Asks) (bytes text : List ℕ) → HoldsRun held asks_are bytes → Follows run_turns (stage_of old) text (stage_of new)
    → Follows run_turns (unread asks_are) (bytes ++ text) (stage_of new) = λ asks_are bytes text holds on.
    follows_on run_turns (unread asks_are) (stage_of old) (stage_of new) bytes text (held_taken held asks_are bytes holds old is) on in
    let all : state_at taken.stop ≡ 2 → Follows run_turns (stage_of old) given (stage_of new) = λ two.
    subst (λ (g : List ℕ). Follows run_turns (stage_of old) g (stage_of new)) (take-append-drop taken.count given)
    (stop_follows run_turns (stage_of old) (stage_of new) front rest (at Fault two)) in
    record {
      few = few_bytes;
      answers = omega (arith, few.0);
      never_yes = few.1;
      taken = λ other asks_are bytes holds. record {
        judge = new;
        held_is = now;
        taken = read asks_are bytes front holds
            (inl (front_read (stage_of old) (stage_of new) front rest taken.stop stops_at other));
      };
      goes_on = λ zero asks_are bytes holds.
          let stop = at Cut zero in
          let goes = clear_goes run_turns (unread asks_are) (bytes ++ front) (stage_of new) (read asks_are bytes front holds (inl stop.0)) stop.2 in
          ((stage_of new, goes), stop.1);
      read_all = λ two asks_are bytes holds. record { judge = new; held_is = now; taken = read asks_are bytes given holds (all two) };
      at_fault = λ two asks_are bytes holds.
          let stop = at Fault two in
          let fault = refused_in (stage_of new).due (faults_at run_turns stop.0 rest (stage_of new) stop.2) in (
            No fault.0 fault.1,
            no_stands asks_are (bytes ++ given) (stage_of new) fault.0 fault.1 fault.2
                (read asks_are bytes given holds (all two)) fault.3,
          );
      faulty = λ two asks_are bytes holds. refused_after asks_are (stage_of old) (stage_of new) front rest bytes (at Fault two)
          (held_taken held asks_are bytes holds old is);
      faulty_before = λ two asks_are bytes holds. none_taken asks_are (stage_of old) (stage_of new) given taken.count bytes few_bytes (at Fault two)
          (held_taken held asks_are bytes holds old is);
      no_memory = λ three asks_are bytes holds.
          let stop = at NoMemory three in
          let same = append_assoc bytes front rest ∙ ap (λ (g : List ℕ). bytes ++ g) (take-append-drop taken.count given) in
          let goes = lacking asks_are (bytes ++ front) rest (stage_of new) stop.1 (read asks_are bytes front holds (inl stop.0)) stop.2 in (
            run_spelling stop.2.line,
            stop.1,
            line_is run_turns run_spelled stop.2.line rest stop.1 stop.2.begins,
            subst (λ (b : List ℕ). MayLackMemory run_turns (unread asks_are) b stop.1) same goes,
          );
      no_judge = (λ four. absurd (omega (arith, few.0, four)), λ none. absurd (there held old is none));
      nothing = λ none. absurd (there held old is none);
      held = (λ none. absurd (there after new now none), λ none. absurd (there held old is none));
    }

-- What its calls answer

-- how the lines so far stand
stands_by : (asks_are : Asks) (bytes : List ℕ) (stage : RunStage) (due : Due RunRefusal) → stage.due ≡ due → Follows run_turns (unread asks_are) bytes stage
    → StandsRun asks_are bytes (verdict_so_far due)
stands_by asks_are bytes stage (Refused n refusal text) is read = no_stands asks_are bytes stage n refusal text read is
stands_by asks_are bytes stage due is read = (stage, clear_goes run_turns (unread asks_are) bytes stage read (subst (λ (d : Due RunRefusal). IsAtFault d → ⊥) (sym is) (λ f. f)))

pub answered_so_far : (held : HeldRunJudge) (judge : RunJudgeIn) (asks_are : Asks) (bytes : List ℕ) (so_far : Option RunVerdict) (answer : RunAnswer)
    → held ≡ Some judge → so_far ≡ verdict_so_far (stage_of judge).due → StandingRun so_far answer → HoldsRun held asks_are bytes
    → AnswersRunSoFar asks_are bytes answer
answered_so_far held judge asks_are bytes so_far answer is told numbers holds = record {
  verdict = so_far;
  numbers = numbers;
  stands = subst (StandsRun asks_are bytes) (sym told)
      (stands_by asks_are bytes (stage_of judge) (stage_of judge).due refl (held_taken held asks_are bytes holds judge is));
}

-- the verdict on them
pub answered_end : (held : HeldRunJudge) (judge : RunJudgeIn) (asks_are : Asks) (bytes : List ℕ) (verdict : RunVerdict) (text : List ℕ)
    (answer : RunAnswer) → held ≡ Some judge → VerdictAtEnd (stage_of judge) [] verdict text → answer ≡ run_numbers_of verdict
    → HoldsRun held asks_are bytes → AnswersRunEnd asks_are bytes answer
answered_end held judge asks_are bytes verdict text answer is ends numbers holds = record {
  verdict = verdict;
  numbers = numbers;
  is_verdict = (all_ends asks_are bytes (stage_of judge) verdict text (held_taken held asks_are bytes holds judge is) ends).0;
}
