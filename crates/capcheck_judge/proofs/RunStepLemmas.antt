-- What a handle's judge takes that is handed one line of a run log, or a step.
use Rattle.std.proofs.Common.{◌≡◌, ◌<◌, ◌⊎◌, ◌∙◌, inl, inr, ℕ, List, [], ◌∷◌, ◌++◌, ap, arith, refl, sym, subst, IfNone, IfSome, None, Some, Option, option_map}
use Rattle.cap_run.specs.{Run.Run, declared.asks.Asks.Asks}
use Rattle.cap_run_log.specs.declared.lines.{RunLine.RunLine, RunPlace.RunPlace}
use Rattle.cap_run_log.specs.RunLines.{IsRunLineInRange, IsRunPlace, run_spelling}
use Rattle.cap_run_judge.specs.{declared.verdict.RunVerdict.TheVariants.No, Readings.stage_of, Turns.{unread, run_turns}}
use Rattle.cap_run_judge.proofs.EndLemmas.{no_stands}
use Rattle.cap_halves.specs.{PassedRuns.IsStepFrom, declared.values.PassedPlace.PassedPlace}
use Rattle.cap_run_report.specs.ObjectParts.{HasNoHolder, IsFirstHolder}
use Rattle.capcheck_judge.specs.RunPlaces.{IsHolderHartTold, IsHolderTold, holder_hart_passed, holder_passed}
use Rattle.capcheck_judge.specs.RunHandles.{HandsOverRun, HandsOverRunStep, HandsOverRunText, HeldRunJudge, HoldsRun, RunJudgeIn, stage_in}
use Rattle.capcheck_judge.specs.{Holding.IsNoStep, RunTakings.TakesRunLine}
use Rattle.capcheck_judge.proofs.HoldingLemmas.{any_state, few, no_line, none_taken, not_five, there, unheld}
use Rattle.capcheck_judge.proofs.RunTakingLemmas.{held_taken, lacking}
use Rattle.cap_turns.specs.Readings.{Follows}
use Rattle.cap_turns.proofs.FollowLemmas.{clear_goes, follows_on, refused_in}

-- the handle's judge was handed a text as one line
pub text_handed : (text : List ℕ) (held after : HeldRunJudge) (old new : RunJudgeIn) (state : ℕ) → held ≡ Some old → after ≡ Some new
    → (state ≡ 0) ⊎ (state ≡ 2) ⊎ (state ≡ 3) ⊎ (state ≡ 5) → TakesRunLine old text state new → HandsOverRunText text held after state
text_handed text held after old new state is now answers takes =
    let small = few state answers in
    let read : state < 3 → (asks_are : Asks) (bytes : List ℕ) → HoldsRun held asks_are bytes → Follows run_turns (unread asks_are) (bytes ++ text) (stage_of new) =
    λ below asks_are bytes holds. follows_on run_turns (unread asks_are) (stage_of old) (stage_of new) bytes text (held_taken held asks_are bytes holds old is) (takes.taken below) in
    record {
      answers = small.0;
      never_yes = small.1;
      taken = λ below asks_are bytes holds. record { judge = new; held_is = now; taken = read below asks_are bytes holds };
      goes_on = λ zero asks_are bytes holds.
          (stage_of new, clear_goes run_turns (unread asks_are) (bytes ++ text) (stage_of new) (read (omega (arith, zero)) asks_are bytes holds) (takes.goes_on zero));
      at_fault = λ two asks_are bytes holds.
          let fault = refused_in (stage_of new).due (takes.at_fault two) in
          (No fault.0 fault.1, no_stands asks_are (bytes ++ text) (stage_of new) fault.0 fault.1 fault.2 (read (omega (arith, two)) asks_are bytes holds) fault.3);
      unchanged = λ large. ap stage_in now ∙ ap Some (takes.unchanged large) ∙ sym (ap stage_in is);
      still_holds = λ large asks_are bytes holds. record {
        judge = new;
        held_is = now;
        taken = subst (Follows run_turns (unread asks_are) bytes) (sym (takes.unchanged large)) (held_taken held asks_are bytes holds old is);
      };
      no_memory = λ three asks_are bytes holds.
          lacking asks_are bytes text (stage_of old) [] (held_taken held asks_are bytes holds old is) (takes.no_memory three);
      no_judge = (λ four. absurd (small.2 four), λ none. absurd (there held old is none));
      held = (λ none. absurd (there after new now none), λ none. absurd (there held old is none));
    }

-- no line was handed over to the judge that is there
none_handed : (text : List ℕ) (held after : HeldRunJudge) (state : ℕ) → IsNoStep held state → after ≡ held → HandsOverRunText text held after state
none_handed text held after state is same =
    let large = none_taken held state is in
    record {
      answers = large.1;
      never_yes = λ one. omega (arith, large.0, one);
      taken = λ below asks_are bytes holds. absurd (omega (arith, large.0, below));
      goes_on = λ zero asks_are bytes holds. absurd (omega (arith, large.0, zero));
      at_fault = λ two asks_are bytes holds. absurd (omega (arith, large.0, two));
      unchanged = λ more. ap stage_in same;
      still_holds = λ more asks_are bytes holds. subst (λ (h : HeldRunJudge). HoldsRun h asks_are bytes) (sym same) holds;
      no_memory = λ three asks_are bytes holds. absurd (omega (arith, large.0, three));
      no_judge = unheld held state is;
      held = (λ none. sym same ∙ none, λ none. same ∙ none);
    }

-- a step in range was handed over
pub step_handed : (line : RunLine) (held after : HeldRunJudge) (old new : RunJudgeIn) (state : ℕ) → IsRunLineInRange line → held ≡ Some old
    → after ≡ Some new → (state ≡ 0) ⊎ (state ≡ 2) ⊎ (state ≡ 3) → TakesRunLine old (run_spelling line ++ 10 ∷ []) state new
    → HandsOverRun line held after state
step_handed line held after old new state range is now answers takes = record {
  handed = text_handed (run_spelling line ++ 10 ∷ []) held after old new state is now (any_state state answers) takes;
  no_line = (λ five. absurd (not_five state answers five), λ both. absurd (both.1 range));
}

-- none was handed over, since its numbers are out of range, or since there is no judge
pub unhanded : (line : RunLine) (held after : HeldRunJudge) (state : ℕ) → ¬ IsRunLineInRange line → IsNoStep held state → after ≡ held
    → HandsOverRun line held after state
unhanded line held after state out is same =
    let five = no_line held state is in
    record {
      handed = none_handed (run_spelling line ++ 10 ∷ []) held after state is same;
      no_line = (λ is_five. (five.0 is_five, out), λ both. five.1 both.0);
    }

-- the same for a step that C's numbers name, of this line, if they do
pub run_step_handed : {A : Type 0} (line_of : A → RunLine) (passed : Option A) (step : A) (held after : HeldRunJudge) (old new : RunJudgeIn) (state : ℕ)
    → IsStepFrom (λ (s : A). IsRunLineInRange (line_of s)) passed (Some step) → held ≡ Some old → after ≡ Some new
    → (state ≡ 0) ⊎ (state ≡ 2) ⊎ (state ≡ 3) → TakesRunLine old (run_spelling (line_of step) ++ 10 ∷ []) state new
    → HandsOverRunStep (option_map line_of passed) held after state
run_step_handed {A} line_of passed step held after old new state from is now answers takes =
    subst (λ (p : Option A). HandsOverRunStep (option_map line_of p) held after state) (sym from.0)
    (step_handed (line_of step) held after old new state from.1 is now answers takes)

pub no_run_step : {A : Type 0} (line_of : A → RunLine) (passed : Option A) (held after : HeldRunJudge) (state : ℕ)
    → IsStepFrom (λ (s : A). IsRunLineInRange (line_of s)) passed None → IsNoStep held state → after ≡ held
    → HandsOverRunStep (option_map line_of passed) held after state
no_run_step line_of None held after state from is same = (is, same)
no_run_step line_of (Some step) held after state from is same = unhanded (line_of step) held after state (from step refl) is same

-- the first place that an object owns, as C gets it
pub holder_told : (run : Run) (number : ℕ) (found : Option (ℕ × RunPlace)) (told : PassedPlace) → IfSome found (IsFirstHolder run number)
    → IfSome found (λ it. IsRunPlace it.1) → IfNone found (HasNoHolder run number) → told ≡ holder_passed found → IsHolderTold run number told
holder_told run number (Some found) told first is none same = inl (found, is, first, same)
holder_told run number None told first is none same = inr (none, same)

pub holder_hart_told : (run : Run) (number : ℕ) (found : Option (ℕ × RunPlace)) (told : ℕ) → IfSome found (IsFirstHolder run number)
    → IfNone found (HasNoHolder run number) → told ≡ holder_hart_passed found → IsHolderHartTold run number told
holder_hart_told run number (Some found) told first none same = inl (found, first, same)
holder_hart_told run number None told first none same = inr (none, same)
