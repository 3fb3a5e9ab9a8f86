-- What a handle holds, by the judge that was taken out of it.
use Rattle.std.proofs.Common.{◌≡◌, ◌≢◌, ◌↔◌, IsTrue, refl, ◌<◌, ◌⊎◌, ◌∙◌, ℕ, List, [], ◌∷◌, ◌++◌, ap, arith, sym, subst}
use Rattle.std.proofs.{Common.{None, Option, is_some, Some}, lemmas.Bool.{false≢true}}
use Rattle.cap_word.specs.declared.word.Cap.{Cap}
use Rattle.cap_log.specs.{declared.{kinds.Step.Step, lines.{Line.Line, Place.Place}}, Lines.{IsInRange, IsStepInRange, spelling}}
use Rattle.cap_halves.specs.PassedRuns.{IsStepFrom}
use Rattle.cap_judge.specs.declared.verdict.Verdict.{Verdict}
use Rattle.cap_judge.specs.{Readings.{BeginsWhole, HasRead, Known, Stands, at, stage_of, verdict_so_far}, Turns.{unread, log_turns}}
use Rattle.cap_judge.proofs.TurnLaws.{lacks_memory, none_so_far, reached, stands_so_far}
use Rattle.cap_report.specs.declared.answers.Answer.{Answer}
use Rattle.capcheck_judge.specs.Handles.{AnswersSoFar, IsPassed, Standing, HandsOver, HandsOverStep, HandsOverText, HeldJudge, JudgeIn, Holds, known_in, origin_behind}
use Rattle.cap_halves.specs.declared.values.PassedPlace.{PassedPlace}
use Rattle.capcheck_judge.specs.{Handles.state_behind, Holding.IsNoStep, Takings.TakesLine}
use Rattle.capcheck_judge.proofs.HoldingLemmas.{any_state, few, no_line, none_taken, not_five, there, unheld}
use Rattle.cap_turns.specs.Readings.{Follows}
use Rattle.cap_turns.proofs.FollowLemmas.{follows_on}

-- a handle holds one judge
one_held : (held : HeldJudge) (bytes : List ℕ) (holds : Holds held bytes) (judge : JudgeIn) → held ≡ Some judge → judge ≡ holds.judge
one_held held bytes holds judge is = let e = holds.held_is in cc (is, e)

-- it has taken what the handle's has
pub held_taken : (held : HeldJudge) (bytes : List ℕ) → Holds held bytes → (judge : JudgeIn) → held ≡ Some judge
    → HasRead judge bytes
held_taken held bytes holds judge is = subst (λ j. HasRead j bytes) (sym
    (one_held held bytes holds judge is)) holds.taken

-- what its machine holds is what the handle's does
pub held_state : (held : HeldJudge) (bytes : List ℕ) (holds : Holds held bytes) (judge : JudgeIn) → held ≡ Some judge → (cap : Cap) (key : ℕ)
    → cap ≡ (stage_of judge).state.state key → cap ≡ state_behind holds key
held_state held bytes holds judge is cap key told =
    told ∙ ap (λ (j : JudgeIn). (stage_of j).state.state key) (one_held held bytes holds judge is)

-- the origin of what a place of its machine holds is that in the handle's
pub held_origin : (held : HeldJudge) (bytes : List ℕ) (holds : Holds held bytes) (judge : JudgeIn) → held ≡ Some judge → (root : Option Place)
    (key : ℕ) → root ≡ (stage_of judge).state.origin key → root ≡ origin_behind holds key
held_origin held bytes holds judge is root key told =
    told ∙ ap (λ (j : JudgeIn). (stage_of j).state.origin key) (one_held held bytes holds judge is)

-- there is a place exactly if its kind isn't 0
pub passed_some : (root : Option Place) (passed : PassedPlace) → IsPassed root passed → (passed.kind ≢ 0) ↔ IsTrue (is_some root)
passed_some None passed is = (λ some. absurd (some is.0), λ yes none. false≢true yes)
passed_some (Some (Place.Register n)) passed is = (λ some. refl, λ yes none. omega (arith, none, is.0))
passed_some (Some (Place.Granule n)) passed is = (λ some. refl, λ yes none. omega (arith, none, is.0))

-- how the bytes stand that a judge has taken
held_stands : (judge : JudgeIn) (bytes : List ℕ) (so_far : Option Verdict) → HasRead judge bytes
    → so_far ≡ verdict_so_far (stage_of judge).due → Stands bytes so_far × (BeginsWhole bytes → so_far ≡ None)
held_stands judge bytes so_far read is =
    let stage = stage_of judge in
    let reached = reached bytes stage read in (
      subst (Stands bytes) (sym is) (stands_so_far bytes stage.state stage.due reached),
      λ whole. is ∙ none_so_far bytes stage.state stage.due reached whole,
    )

pub answered_so_far : (held : HeldJudge) (judge : JudgeIn) (bytes : List ℕ) (so_far : Option Verdict) (answer : Answer) → held ≡ Some judge
    → so_far ≡ verdict_so_far (stage_of judge).due → Standing so_far answer → Holds held bytes → AnswersSoFar bytes answer
answered_so_far held judge bytes so_far answer is told numbers holds =
    let stands = held_stands judge bytes so_far (held_taken held bytes holds judge is) told in
    record { verdict = so_far; numbers = numbers; stands = stands.0; none = stands.1 }

-- the handle's judge was handed a text as one line
pub text_handed : (text : List ℕ) (held after : HeldJudge) (old new : JudgeIn) (state : ℕ) → held ≡ Some old → after ≡ Some new
    → (state ≡ 0) ⊎ (state ≡ 2) ⊎ (state ≡ 3) ⊎ (state ≡ 5) → TakesLine old text state new → HandsOverText text held after state
text_handed text held after old new state is now answers takes =
    let small = few state answers in
    let read : state < 3 → (bytes : List ℕ) → Holds held bytes → HasRead new (bytes ++ text) = λ below bytes holds.
    follows_on log_turns unread (stage_of old) (stage_of new) bytes text (held_taken held bytes holds old is) (takes.taken below) in
    record {
      answers = small.0;
      never_yes = small.1;
      taken = λ below bytes holds. record { judge = new; held_is = now; taken = read below bytes holds };
      goes_on = λ zero bytes holds.
          (held_stands new (bytes ++ text) None (read (omega (arith, zero)) bytes holds) (sym (takes.goes_on zero))).0;
      at_fault = λ two bytes holds whole.
          takes.at_fault two ((held_stands new (bytes ++ text) _ (read (omega (arith, two)) bytes holds) refl).1 whole);
      unchanged = λ large. ap known_in now ∙ ap Some (takes.unchanged large) ∙ sym (ap known_in is);
      still_holds = λ large bytes holds. record {
        judge = new;
        held_is = now;
        taken = subst (λ (k : Known). Follows log_turns unread bytes (at k.due k.held)) (sym (takes.unchanged large)) (held_taken held bytes holds old is);
      };
      no_memory = λ three bytes holds. lacks_memory bytes text [] (stage_of old) (held_taken held bytes holds old is) (takes.no_memory three);
      no_judge = (λ four. absurd (small.2 four), λ none. absurd (there held old is none));
      held = (λ none. absurd (there after new now none), λ none. absurd (there held old is none));
    }

-- so its answer is that of the line that spells the step
pub handed : (line : Line) (held after : HeldJudge) (old new : JudgeIn) (state : ℕ) → IsInRange line → held ≡ Some old → after ≡ Some new
    → (state ≡ 0) ⊎ (state ≡ 2) ⊎ (state ≡ 3) → TakesLine old (spelling line ++ 10 ∷ []) state new → HandsOver line held after state
handed line held after old new state range is now answers takes = record {
  handed = text_handed (spelling line ++ 10 ∷ []) held after old new state is now (any_state state answers) takes;
  no_line = (λ five. absurd (not_five state answers five), λ both. absurd (both.1 range));
}

-- No step

-- no line was handed over: there is no judge, or the line isn't in range
unhanded : (line : Line) (held after : HeldJudge) (state : ℕ) → IsNoStep held state → (held ≢ None → ¬ IsInRange line) → after ≡ held
    → HandsOver line held after state
unhanded line held after state is out same =
    let large = none_taken held state is in
    let five = no_line held state is in
    record {
      handed = record {
        answers = large.1;
        never_yes = λ one. omega (arith, large.0, one);
        taken = λ below bytes holds. absurd (omega (arith, large.0, below));
        goes_on = λ zero bytes holds. absurd (omega (arith, large.0, zero));
        at_fault = λ two bytes holds whole. omega (arith, large.0, two);
        unchanged = λ more. ap known_in same;
        still_holds = λ more bytes holds. subst (λ (h : HeldJudge). Holds h bytes) (sym same) holds;
        no_memory = λ three bytes holds. absurd (omega (arith, large.0, three));
        no_judge = unheld held state is;
        held = (λ none. sym same ∙ none, λ none. same ∙ none);
      };
      no_line = (λ is_five. (five.0 is_five, out (five.0 is_five)), λ both. five.1 both.0);
    }

-- a step that C's numbers name was handed over
pub passed_step : (passed : Option Step) (step : Step) (held after : HeldJudge) (old new : JudgeIn) (state : ℕ)
    → IsStepFrom IsStepInRange passed (Some step) → held ≡ Some old → after ≡ Some new → (state ≡ 0) ⊎ (state ≡ 2) ⊎ (state ≡ 3)
    → TakesLine old (spelling (Line.Step step) ++ 10 ∷ []) state new → HandsOverStep passed held after state
passed_step passed step held after old new state from is now answers takes =
    subst (λ (p : Option Step). HandsOverStep p held after state) (sym from.0)
    (handed (Line.Step step) held after old new state from.1 is now answers takes)

-- or it was not: there is no judge
pub unjudged_step : (passed : Option Step) (held after : HeldJudge) (state : ℕ) → held ≡ None → after ≡ None → state ≡ 4
    → HandsOverStep passed held after state
unjudged_step None held after state none now is = (subst (λ (h : HeldJudge). IsNoStep h state) (sym none) is, now ∙ sym none)
unjudged_step (Some step) held after state none now is =
    unhanded (Line.Step step) held after state (subst (λ (h : HeldJudge). IsNoStep h state) (sym none) is) (λ some. absurd (some none))
    (now ∙ sym none)

-- or the numbers name none
pub no_step : (passed : Option Step) (held after : HeldJudge) (state : ℕ) → IsStepFrom IsStepInRange passed None → IsNoStep held state
    → after ≡ held → HandsOverStep passed held after state
no_step None held after state from is same = (is, same)
no_step (Some step) held after state from is same = unhanded (Line.Step step) held after state is (λ some. from step refl) same
