-- What a handle's judge takes that is handed lines.
use Rattle.std.proofs.Common.{inl, ◌≡◌, ◌≢◌, ◌<◌, ◌≤◌, ◌∙◌, ℕ, List, ◌++◌, ap, append_assoc, arith, drop, refl, subst}
use Rattle.std.proofs.Common.{[], ◌∷◌, length, suc, take, take-append-drop, zero, Some}
use Rattle.cap_log.specs.Lines.{spelling}
use Rattle.cap_turns.specs.{declared.stops.Stop.{Stop, TheVariants.{Cut, Fault, NoMemory}}, declared.stops.Taken.Taken}
use Rattle.cap_turns.specs.{Readings.{Follows, StopsAt}, Turns.{Due, Goes, IsAtFault}}
use Rattle.cap_ops.specs.declared.refusal.Refusal.{Refusal}
use Rattle.cap_judge.specs.{Judgings.IsBehind, Logs.{MayLackMemory, Refuses}, Readings.{BeginsWhole, HasRead, IsRest, stage_of}}
use Rattle.cap_judge.specs.Turns.{LogStage, unread, log_turns}
use Rattle.cap_judge.proofs.{TurnLaws.{begins, fault_reached, lacks_memory, never_faulty, reached}, TurnLemmas.log_spelled}
use Rattle.capcheck_judge.specs.{Handles.{HandsOverLines, HeldJudge, Holds, IsRefusedAfter, JudgeIn}, Takings.{lines_taken, state_at}}
use Rattle.capcheck_judge.proofs.{HandleLemmas.held_taken, HoldingLemmas.there}
use Rattle.cap_turns.proofs.FollowLemmas.{clear_goes, fault_stays, faults_at, follows_on, refused_in, stop_follows}
use Rattle.cap_turns.proofs.TurnLemmas.{goes_on, line_is}

-- the faulty line begins the rest that a judge stopped at, where none was faulty before
refused_after : (old new : LogStage) (front rest before : List ℕ) → StopsAt log_turns old front rest Fault new → Follows log_turns unread before old
    → BeginsWhole before → IsRefusedAfter (before ++ front) rest
refused_after old new front rest before (middle, goes, faults) read whole =
    let goes_before = clear_goes log_turns unread before old read (never_faulty before old (reached before old read) whole) in
    let on = goes_on log_turns unread old middle before front goes_before goes in
    let is = fault_reached (before ++ front) rest middle new on faults in
    let fault = refused_in new.due (faults_at log_turns middle rest new faults) in
    let behind = subst (IsBehind ((before ++ front) ++ rest) is.0.beginning) is.1 is.0.behind in
    let found = subst (λ (d : Due Refusal). IsRest d is.0.beginning is.0.rest) fault.3 is.0.rest_is in
    (is.0.beginning, fault.1, behind, subst (λ (r : List ℕ). (more : List ℕ) → Refuses is.0.beginning (r ++ more) fault.1) is.1 found.2)

-- nothing is taken where a line was faulty before
faulty_at : (due : Due Refusal) → ((IsAtFault due → ⊥) → ⊥) → IsAtFault due
faulty_at (Due.Refused line refusal text) some = tt
faulty_at due some = absurd (some (λ fault. fault))

pub no_bytes : (given : List ℕ) (n : ℕ) → n ≤ length given → take n given ≡ [] → n ≡ 0
no_bytes given zero few none = refl
no_bytes [] (suc n) few none = absurd (omega (arith, few))
no_bytes (b ∷ given) (suc n) few none = cc

none_taken : (old new : LogStage) (given : List ℕ) (n : ℕ) (before : List ℕ) → n ≤ length given
    → StopsAt log_turns old (take n given) (drop n given) Fault new → Follows log_turns unread before old → (BeginsWhole before → ⊥) → n ≡ 0
none_taken old new given n before few (middle, goes, faults) read some =
    let is = faulty_at old.due (λ clear. some (begins before old (reached before old read) clear)) in
    no_bytes given n few (fault_stays log_turns old (take n given) middle is goes).0

-- the states of a call
pub stop_of : (stop wanted : Stop) → state_at stop ≡ state_at wanted → stop ≡ wanted
stop_of Cut Cut same = refl
stop_of Fault Fault same = refl
stop_of NoMemory NoMemory same = refl
stop_of stop wanted same = absurd (omega (arith, same))

pub few_states : (stop : Stop) → (state_at stop < 4) × (state_at stop ≢ 1)
few_states Cut = (omega arith, λ one. omega (arith, one))
few_states Fault = (omega arith, λ one. omega (arith, one))
few_states NoMemory = (omega arith, λ one. omega (arith, one))

-- unless a line is faulty, the front was read
front_read : (old new : LogStage) (front rest : List ℕ) (stop : Stop) → StopsAt log_turns old front rest stop new → state_at stop ≢ 2 → Goes log_turns old front new
front_read old new front rest Cut stops other = stops.0
front_read old new front rest Fault stops other = absurd (other refl)
front_read old new front rest NoMemory stops other = stops.0

-- the handle's judge took lines
pub took_lines : (given : List ℕ) (held after : HeldJudge) (old new : JudgeIn) (taken : Taken) → held ≡ Some old → after ≡ Some new
    → taken.count ≤ length given
    → StopsAt log_turns (stage_of old) (take taken.count given) (drop taken.count given) taken.stop (stage_of new)
    → HandsOverLines given held after (lines_taken taken)
took_lines given held after old new taken is now few_bytes stops_at =
    let front = take taken.count given in
    let rest = drop taken.count given in
    let few = few_states taken.stop in
    let at : (stop : Stop) → state_at taken.stop ≡ state_at stop → StopsAt log_turns (stage_of old) front rest stop (stage_of new) = λ stop wanted.
    subst (λ (s : Stop). StopsAt log_turns (stage_of old) front rest s (stage_of new)) (stop_of taken.stop stop wanted) stops_at in
    let read : (bytes text : List ℕ) → Holds held bytes → Follows log_turns (stage_of old) text (stage_of new) → HasRead new (bytes ++ text) =
    λ bytes text holds on. follows_on log_turns unread (stage_of old) (stage_of new) bytes text (held_taken held bytes holds old is) on in
    let all : state_at taken.stop ≡ 2 → Follows log_turns (stage_of old) given (stage_of new) = λ two.
    subst (λ (g : List ℕ). Follows log_turns (stage_of old) g (stage_of new)) (take-append-drop taken.count given)
    (stop_follows log_turns (stage_of old) (stage_of new) front rest (at Fault two)) in
    record {
      few = few_bytes;
      answers = omega (arith, few.0);
      never_yes = few.1;
      taken = λ other bytes holds. record {
        judge = new;
        held_is = now;
        taken = read bytes front holds
            (inl (front_read (stage_of old) (stage_of new) front rest taken.stop stops_at other));
      };
      goes_on = λ zero bytes holds.
          let stop = at Cut zero in
          let whole = reached (bytes ++ front) (stage_of new) (read bytes front holds (inl stop.0)) in
          (begins (bytes ++ front) (stage_of new) whole stop.2, stop.1);
      read_all = λ two bytes holds. record { judge = new; held_is = now; taken = read bytes given holds (all two) };
      at_fault = λ two bytes holds whole.
          let stop = at Fault two in
          never_faulty (bytes ++ given) (stage_of new) (reached (bytes ++ given) (stage_of new) (read bytes given holds (all two))) whole
          (faults_at log_turns stop.0 rest (stage_of new) stop.2);
      faulty = λ two bytes holds. refused_after (stage_of old) (stage_of new) front rest bytes (at Fault two)
          (held_taken held bytes holds old is);
      faulty_before = λ two bytes holds. none_taken (stage_of old) (stage_of new) given taken.count bytes few_bytes (at Fault two)
          (held_taken held bytes holds old is);
      no_memory = λ three bytes holds.
          let stop = at NoMemory three in
          let same = append_assoc bytes front rest ∙ ap (λ (g : List ℕ). bytes ++ g) (take-append-drop taken.count given) in (
            spelling stop.2.line,
            stop.1,
            line_is log_turns log_spelled stop.2.line rest stop.1 stop.2.begins,
            subst (λ (b : List ℕ). MayLackMemory b stop.1) same
                (lacks_memory (bytes ++ front) rest stop.1 (stage_of new) (read bytes front holds (inl stop.0)) stop.2),
          );
      no_judge = (λ four. absurd (omega (arith, few.0, four)), λ none. absurd (there held old is none));
      nothing = λ none. absurd (there held old is none);
      held = (λ none. absurd (there after new now none), λ none. absurd (there held old is none));
    }
