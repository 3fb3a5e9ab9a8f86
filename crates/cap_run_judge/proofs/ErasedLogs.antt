-- A run log is accepted without its lines of objects, whatever is asked.
use Rattle.std.specs.List.{AllByRecursion}
use Rattle.std.proofs.Common.{◌≡◌, ℕ, ◌+◌, ◌-◌, Bool, true, false, if◌then◌else◌, List, [], ◌∷◌, Some, None, refl, sym, ap, subst, ◌∙◌}
use Rattle.std.proofs.lemmas.Option.{none-some}
use Rattle.cap_ops.specs.declared.refusal.Refusal.TheVariants.{BadHeader, BadMode, Misplaced}
use Rattle.cap_run_log.specs.declared.lines.RunLine.{RunLine}
use Rattle.cap_run_log.specs.declared.lines.RunLine.TheVariants as lines
use Rattle.cap_run_log.specs.declared.lines.RunStep.{RunStep}
use Rattle.cap_run_log.specs.RunLines.{IsRunLineInRange}
use Rattle.cap_run.specs.declared.{asks.Asks.Asks, ends.RunRefusal.{TheVariants.Usual}}
use Rattle.cap_run.specs.{Allowed.{AreAllowed, IsLineAllowed}, Descents.run_along, Erasure.{erased, erased_after, is_of_objects, object_lines}}
use Rattle.cap_run.specs.{Run.Run, RunChanges.{line_after, no_run, run_after}, RunChecks.line_end}
use Rattle.cap_run.proofs.{DescentLemmas.{along, along-fold}, ErasureLemmas.erased_allowed}
use Rattle.cap_run_judge.specs.{Turns.{RunStage, unread, run_turns}, Verdicts.IsRunYes}
use Rattle.cap_run_judge.proofs.{GuardLemmas.read_allowed, TurnLemmas.asked}
use Rattle.cap_turns.specs.Turns.{Body, Due, First, Reads, Second, next_stage, refusal_by, text_of}
use Rattle.cap_run.specs.declared.ends.RunRefusal.{RunRefusal}

-- the run after lines
reads_run : (from to : RunStage) (read : List RunLine) → Reads run_turns from read to → to.state.run ≡ along from.state.run read
reads_run from to [] reads = ap (λ (s : RunStage). s.state.run) (sym reads)
reads_run from to (line ∷ rest) reads = reads_run (next_stage run_turns from line) to rest reads.1

in_range : (asks_are : Asks) (run_is : Run) (read : List RunLine) → AreAllowed asks_are run_is read → AllByRecursion IsRunLineInRange read
in_range asks_are run_is [] allowed = tt
in_range asks_are run_is (line ∷ rest) allowed = (allowed.0, in_range asks_are (line_after run_is line) rest allowed.2)

-- a line that may come next is allowed in another run, by other choices, if its checks pass there
again : (asks_are other : Asks) (run_is new : Run) (due : Due RunRefusal) (line : RunLine) → refusal_by run_turns (asked asks_are run_is) due (Some line) ≡ None
    → IsLineAllowed other new line → refusal_by run_turns (asked other new) due (Some line) ≡ None
again asks_are other run_is new First lines.Version free allowed = refl
again asks_are other run_is new First line free allowed = absurd (none-some (Usual BadHeader) (sym free))
again asks_are other run_is new Second (lines.Mode mode) free allowed = refl
again asks_are other run_is new Second line free allowed = absurd (none-some (Usual BadMode) (sym free))
again asks_are other run_is new Body lines.Version free allowed = absurd (none-some (Usual Misplaced) (sym free))
again asks_are other run_is new Body (lines.Mode mode) free allowed = absurd (none-some (Usual Misplaced) (sym free))
again asks_are other run_is new Body line free allowed = allowed
again asks_are other run_is new due line free allowed = absurd (none-some (Usual Misplaced) (sym free))

-- an end line with another count
again_end : (asks_are other : Asks) (run_is new : Run) (due : Due RunRefusal) (count less : ℕ) → refusal_by run_turns (asked asks_are run_is) due (Some (lines.End count)) ≡ None
    → line_end other new (lines.End less) ≡ None → refusal_by run_turns (asked other new) due (Some (lines.End less)) ≡ None
again_end asks_are other run_is new First count less free allowed = absurd (none-some (Usual BadHeader) (sym free))
again_end asks_are other run_is new Second count less free allowed = absurd (none-some (Usual BadMode) (sym free))
again_end asks_are other run_is new Body count less free allowed = allowed
again_end asks_are other run_is new due count less free allowed = absurd (none-some (Usual Misplaced) (sym free))

-- a step may come in the body alone
body_of : (asks_are : Asks) (run_is : Run) (due : Due RunRefusal) (step : RunStep) → refusal_by run_turns (asked asks_are run_is) due (Some (lines.Run step)) ≡ None → due ≡ Body
body_of asks_are run_is First step free = absurd (none-some (Usual BadHeader) (sym free))
body_of asks_are run_is Second step free = absurd (none-some (Usual BadMode) (sym free))
body_of asks_are run_is Body step free = refl
body_of asks_are run_is due step free = absurd (none-some (Usual Misplaced) (sym free))

module _ (other : Asks) where
  abbrev at : Run → Due RunRefusal → RunStage
  at run_is due_is = record { state = asked other run_is; due = due_is }

  -- a step is left or not, and so are the lines after it
  step_left : (from to : RunStage) (step : RunStep) (rest : List RunLine) (gone : ℕ) (run_is : Run) → Reads run_turns from (lines.Run step ∷ rest) to
      → (AreAllowed other run_is (erased_after (gone + 1) rest)
      → Reads run_turns (at run_is Body) (erased_after (gone + 1) rest) (at (along run_is (erased_after (gone + 1) rest)) to.due))
      → (AreAllowed other (run_after run_is step) (erased_after gone rest)
      → Reads run_turns (at (run_after run_is step) Body) (erased_after gone rest) (at (along (run_after run_is step) (erased_after gone rest)) to.due))
      → (own : Bool) → AreAllowed other run_is (if own then erased_after (gone + 1) rest else lines.Run step ∷ erased_after gone rest)
      → Reads run_turns (at run_is from.due) (if own then erased_after (gone + 1) rest else lines.Run step ∷ erased_after gone rest)
      (at (along run_is (if own then erased_after (gone + 1) rest else lines.Run step ∷ erased_after gone rest)) to.due)
  step_left from to step rest gone run_is reads without with_it true allowed =
      let left = erased_after (gone + 1) rest in
      subst (λ (d : Due RunRefusal). Reads run_turns (at run_is d) left (at (along run_is left) to.due)) (sym (body_of from.state.asks from.state.run from.due step reads.0))
      (without allowed)
  step_left from to step rest gone run_is reads without with_it false allowed =
      (again from.state.asks other from.state.run run_is from.due (lines.Run step) reads.0 allowed.1, with_it allowed.2)

  -- what is left of lines leads on where each of it is allowed
  reads_left : (from to : RunStage) (read : List RunLine) (gone : ℕ) (run_is : Run) → Reads run_turns from read to
      → AreAllowed other run_is (erased_after gone read)
      → Reads run_turns (at run_is from.due) (erased_after gone read) (at (along run_is (erased_after gone read)) to.due)
  reads_left from to [] gone run_is reads allowed = ap (λ (s : RunStage). at run_is s.due) reads
  reads_left from to (lines.Run step ∷ rest) gone run_is reads allowed =
      step_left from to step rest gone run_is reads
      (reads_left (next_stage run_turns from (lines.Run step)) to rest (gone + 1) run_is reads.1)
      (reads_left (next_stage run_turns from (lines.Run step)) to rest gone (run_after run_is step) reads.1)
      (is_of_objects step) allowed
  reads_left from to (lines.End count ∷ rest) gone run_is reads allowed = (
    again_end from.state.asks other from.state.run run_is from.due count (count - gone) reads.0 allowed.1,
    reads_left (next_stage run_turns from (lines.End count)) to rest gone run_is reads.1 allowed.2,
  )
  reads_left from to (line ∷ rest) gone run_is reads allowed = (
    again from.state.asks other from.state.run run_is from.due line reads.0 allowed.1,
    reads_left (next_stage run_turns from line) to rest gone (line_after run_is line) reads.1 allowed.2,
  )

pub erased_yes : (asks_are other : Asks) (bytes : List ℕ) (steps roots objects : ℕ) (is : IsRunYes asks_are bytes steps roots objects)
    → IsRunYes other (text_of run_turns (erased is.whole.goes.lines)) (steps - object_lines is.whole.goes.lines) roots 0
    × ((run_along (erased is.whole.goes.lines)).state ≡ is.stage.state.run.state)
erased_yes asks_are other bytes steps roots objects is =
    let read = is.whole.goes.lines in
    let law = erased_allowed asks_are other read (read_allowed (unread asks_are) is.stage read is.whole.goes.in_range is.whole.goes.reads) in
    let was : is.stage.state.run ≡ run_along read = reads_run (unread asks_are) is.stage read is.whole.goes.reads ∙ sym (along-fold no_run read) in
    let left = erased read in
    let folded = sym (along-fold no_run left) ∙ law.1 in (
      record {
        stage = at other (along no_run left) is.stage.due;
        whole = record {
          goes = record {
            lines = left;
            in_range = in_range other no_run left law.0;
            bytes_are = refl;
            reads = reads_left other (unread asks_are) is.stage read 0 no_run is.whole.goes.reads law.0;
          };
          ended = is.whole.ended;
        };
        step_count_is = ap (λ (n : ℕ). n - object_lines read) (is.step_count_is ∙ ap (λ (r : Run). r.steps) was)
            ∙ sym (ap (λ (r : Run). r.steps) folded);
        root_count_is = is.root_count_is ∙ ap (λ (r : Run). r.roots) was ∙ sym (ap (λ (r : Run). r.roots) folded);
        object_count_is = sym (ap (λ (r : Run). r.count) folded);
      },
      ap (λ (r : Run). r.state) law.1 ∙ sym (ap (λ (r : Run). r.state) was),
    )
