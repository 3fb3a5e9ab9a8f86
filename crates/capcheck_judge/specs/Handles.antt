-- What a handle of C holds, and what the calls on it answer (this profile's own, as are all below).
use Rattle.std.specs.Prelude.{◌≡◌, ◌≢◌, ◌<◌, ◌≤◌, ◌↔◌, ◌*◌, ℕ, length, drop, take, List, [], ◌∷◌, ◌++◌, Option, None}
use Rattle.std.specs.Prelude.{Bool, Some}
use denote.RattleType.{RattleType}
use Rattle.cap_word.specs.declared.word.Cap.{Cap}
use Rattle.cap_ops.specs.declared.refusal.Refusal.{Refusal}
use Rattle.cap_log.specs.declared.{kinds.Step.Step, lines.{Line.Line, Place.{Place, TheVariants.{Register, Granule}}}}
use Rattle.cap_log.specs.declared.lines.Line.TheVariants as lines
use Rattle.cap_log.specs.Lines.{IsInRange, spelling}
use Rattle.cap_streams.specs.Front.{IsCut, IsLine}
use Rattle.tagmem.specs.contracts.page_store.{PageStore.the_row as store_row, PageStoreTaggedStore.TheImpl.ghosts}
use Rattle.cap_machine.specs.States.{State}
use Rattle.cap_judge.specs.{declared.verdict.Expected.{Expected, TheVariants.{Capability, Number}}, declared.verdict.Verdict.Verdict}
use Rattle.cap_judge.specs.{Expectations.Expects, Judgings.IsBehind, Logs.{Beginning, MayLackMemory, Refuses}}
use Rattle.cap_judge.specs.{Readings.{BeginsWhole, HasRead, Known, Stands, known_of, stage_of}, Verdicts.{IsVerdict, IsGuarded}}
use Rattle.cap_judge.specs.contracts.judges.Judge.{the_row as judge_row}
use Rattle.cap_report.specs.{declared.answers.Answer.Answer, Answers.{numbers_of, without_verdict}, Texts.IsTold}
use Rattle.cap_report.specs.Whys.{ExplainsEnd, ExplainsSoFar}
use Rattle.cap_halves.specs.{Passed.{cap_of, no_cap}, declared.values.PassedPlace.PassedPlace}
use Rattle.capcheck_judge.specs.declared.answers.{PassedExpected.PassedExpected, LinesTaken.LinesTaken}
use Rattle.capcheck_judge.specs.Holding.{IsNoStep}
use Rattle.capcheck_judge.specs.declared.handle.Handle.{Handle}

-- a judge over pages
abbrev pub JudgeRow : RattleType
JudgeRow = judge_row store_row ghosts

abbrev pub JudgeIn : Type 0
JudgeIn = RattleType.Denot JudgeRow

-- what a handle holds: a judge, or none
abbrev pub HeldJudge : Type 0
HeldJudge = Option JudgeIn

-- what this handle holds
abbrev pub held_in : Handle → HeldJudge
held_in handle = handle.judge

-- all that the judge of a handle knows, where there is one
abbrev pub known_in : HeldJudge → Option Known
known_in None = None
known_in (Some judge) = Some (known_of judge)

-- a handle holds a judge that has taken these bytes
pub record Holds (held : HeldJudge) (bytes : List ℕ) : Type 0 where
  pub judge : JudgeIn
  pub held_is : held ≡ Some judge
  pub taken : HasRead judge bytes

-- what the machine holds behind these bytes, or before their line at fault
abbrev pub state_behind : {held : HeldJudge} {bytes : List ℕ} → Holds held bytes → State
state_behind holds = (stage_of holds.judge).state.state

-- whether a place of it holds a tagged capability
abbrev pub tag_behind : {held : HeldJudge} {bytes : List ℕ} → Holds held bytes → ℕ → Bool
tag_behind holds key = let cap = state_behind holds key in cap.tag

-- what a call answers that hands over a text as one line: that it was taken, and no line so far is faulty; that it or one
-- before it is faulty; that memory ran out at it, which names a granule for the first time; that there is no judge; or that
-- it is none
pub record HandsOverText (text : List ℕ) (old new : HeldJudge) (state : ℕ) : Type 0 where
  pub answers : state < 6
  pub never_yes : state ≢ 1
  pub taken : state < 3 → (bytes : List ℕ) → Holds old bytes → Holds new (bytes ++ text)
  pub goes_on : state ≡ 0 → (bytes : List ℕ) → Holds old bytes → BeginsWhole (bytes ++ text)
  pub at_fault : state ≡ 2 → (bytes : List ℕ) → Holds old bytes → BeginsWhole (bytes ++ text) → ⊥
  pub unchanged : 2 < state → known_in new ≡ known_in old
  pub still_holds : 2 < state → (bytes : List ℕ) → Holds old bytes → Holds new bytes
  pub no_memory : state ≡ 3 → (bytes : List ℕ) → Holds old bytes → MayLackMemory (bytes ++ text) []
  pub no_judge : (state ≡ 4) ↔ (old ≡ None)
  pub held : (new ≡ None) ↔ (old ≡ None)

-- what a call answers that hands over a step: where the step's line is in range, what the call answers that hands over
-- that line; else that it is none
pub record HandsOver (line : Line) (old new : HeldJudge) (state : ℕ) : Type 0 where
  pub handed : HandsOverText (spelling line ++ 10 ∷ []) old new state
  pub no_line : (state ≡ 5) ↔ ((old ≢ None) × (¬ IsInRange line))

-- the same for a step that C's numbers name; and where they name none, nothing has changed
abbrev pub HandsOverStep : Option Step → HeldJudge → HeldJudge → ℕ → Type 0
HandsOverStep (Some step) old new state = HandsOver (lines.Step step) old new state
HandsOverStep None old new state = IsNoStep old state × (new ≡ old)

-- a front is the text of accepted lines, and the line that begins the rest is refused, whatever follows
abbrev pub IsRefusedAfter : List ℕ → List ℕ → Type 0
IsRefusedAfter front rest =
    (beginning : Beginning) × (refusal : Refusal) × IsBehind (front ++ rest) beginning rest
    × ((more : List ℕ) → Refuses beginning (rest ++ more) refusal)

-- what a call answers that hands over as many whole lines as some bytes begin with: how many bytes were taken; and that
-- no line so far is faulty, and less than a line is left; that a line is faulty, the next one, or an earlier one, and
-- then no bytes were taken; that memory ran out at the next line, which names a granule for the first time and may be
-- handed over again with all after it; or that there is no judge
pub record HandsOverLines (given : List ℕ) (old new : HeldJudge) (answer : LinesTaken) : Type 0 where
  pub few : answer.bytes ≤ length given
  pub answers : answer.state < 5
  pub never_yes : answer.state ≢ 1
  pub taken : answer.state ≢ 2 → (bytes : List ℕ) → Holds old bytes → Holds new (bytes ++ take answer.bytes given)
  pub goes_on : answer.state ≡ 0 → (bytes : List ℕ) → Holds old bytes
      → BeginsWhole (bytes ++ take answer.bytes given) × IsCut (drop answer.bytes given)
  pub read_all : answer.state ≡ 2 → (bytes : List ℕ) → Holds old bytes → Holds new (bytes ++ given)
  pub at_fault : answer.state ≡ 2 → (bytes : List ℕ) → Holds old bytes → BeginsWhole (bytes ++ given) → ⊥
  pub faulty : answer.state ≡ 2 → (bytes : List ℕ) → Holds old bytes → BeginsWhole bytes
      → IsRefusedAfter (bytes ++ take answer.bytes given) (drop answer.bytes given)
  pub faulty_before : answer.state ≡ 2 → (bytes : List ℕ) → Holds old bytes → (BeginsWhole bytes → ⊥) → answer.bytes ≡ 0
  pub no_memory : answer.state ≡ 3 → (bytes : List ℕ) → Holds old bytes
      → (line : List ℕ) × (more : List ℕ) × IsLine (drop answer.bytes given) line more × MayLackMemory (bytes ++ given) more
  pub no_judge : (answer.state ≡ 4) ↔ (old ≡ None)
  pub nothing : old ≡ None → answer.bytes ≡ 0
  pub held : (new ≡ None) ↔ (old ≡ None)

-- the place of the root that a place's capability descends from, behind these bytes, or before their faulty line
abbrev pub origin_behind : {held : HeldJudge} {bytes : List ℕ} → Holds held bytes → ℕ → Option Place
origin_behind holds = (stage_of holds.judge).state.origin

-- a place in numbers: the kind 1 is a register, 2 the granule with this address, and 0 none
abbrev pub IsPassed : Option Place → PassedPlace → Type 0
IsPassed None passed = (passed.kind ≡ 0) × (passed.number ≡ 0)
IsPassed (Some (Register n)) passed = (passed.kind ≡ 1) × (passed.number ≡ n)
IsPassed (Some (Granule n)) passed = (passed.kind ≡ 2) × (passed.number ≡ 16 * n)

-- how the bytes stand, in numbers: the state 0 says that none of their lines is at fault
abbrev pub Standing : Option Verdict → Answer → Type 0
Standing None answer = answer ≡ without_verdict 0
Standing (Some verdict) answer = answer ≡ numbers_of verdict

-- C learns how a log stands that begins with these bytes: no line is at fault so far, or the no that stands whatever
-- follows
pub record AnswersSoFar (bytes : List ℕ) (answer : Answer) : Type 0 where
  pub verdict : Option Verdict
  pub numbers : Standing verdict answer
  pub stands : Stands bytes verdict
  pub none : BeginsWhole bytes → verdict ≡ None

-- C gets the verdict on these bytes, with what follows from it
pub record AnswersEnd (bytes : List ℕ) (answer : Answer) : Type 0 where
  pub verdict : Verdict
  pub numbers : answer ≡ numbers_of verdict
  pub is_verdict : IsVerdict bytes verdict
  pub authority : IsGuarded bytes

-- what the rules give, in numbers: the kind 1 is a capability, 2 a number, and 0 none
abbrev pub IsGivenAs : Cap → ℕ → ℕ → ℕ → PassedExpected → Type 0
IsGivenAs cap number size kind given = (cap_of given.cap ≡ cap) × (given.number ≡ number) × (given.size ≡ size) × (given.kind ≡ kind)

abbrev pub IsGiven : Option Expected → PassedExpected → Type 0
IsGiven None given = IsGivenAs no_cap 0 0 0 given
IsGiven (Some (Capability cap)) given = IsGivenAs cap 0 0 1 given
IsGiven (Some (Number value size)) given = IsGivenAs no_cap value size 2 given

-- C learns what the rules give for the first fault of these bytes, where it is refused for its result
pub record AnswersExpected (bytes : List ℕ) (given : PassedExpected) : Type 0 where
  pub expected : Option Expected
  pub numbers : IsGiven expected given
  pub expects : Expects bytes expected

-- C gets the text of how a log stands that begins with these bytes, where there is room for it: none while no line is
-- at fault, and never more than 3,136 bytes
pub record AnswersReport (bytes old new : List ℕ) (count : ℕ) : Type 0 where
  pub verdict : Option Verdict
  pub text : List ℕ
  pub explains : ExplainsSoFar bytes verdict text
  pub few : length text ≤ 3136
  pub told : IsTold 0 count text old new

-- C gets the text of the verdict on these bytes as a whole log, where there is room for it: never more than 3,136 bytes
pub record AnswersEndReport (bytes old new : List ℕ) (count : ℕ) : Type 0 where
  pub verdict : Verdict
  pub text : List ℕ
  pub explains : ExplainsEnd bytes verdict text
  pub few : length text ≤ 3136
  pub told : IsTold 0 count text old new
