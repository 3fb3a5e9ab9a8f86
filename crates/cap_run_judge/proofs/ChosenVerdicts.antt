-- The verdict with a check more is that without it, or the check refuses a line from which on one would be faulty.
use Rattle.std.specs.List.{AllByRecursion}
use Rattle.std.proofs.Common.{◌≡◌, ℕ, ◌+◌, inl, inr, ◌⊎◌, List, [], ◌∷◌, ◌++◌, length, Option, Some, None, refl, sym, ap, subst, ◌∙◌, append_assoc, append-nil, arith, length-append}
use Rattle.std.proofs.lemmas.Grind.{flat_map-append}
use Rattle.cap_run_log.specs.{declared.lines.RunLine.RunLine, RunLines.{IsRunLineInRange, run_spelling}}
use Rattle.cap_run.specs.declared.{asks.Asks.Asks, ends.RunRefusal.RunRefusal}
use Rattle.cap_run.specs.{Choices.{EndsEarlier, IsAfterHeld, IsAfterOwned, IsAfterUsed}, Run.Run, RunChecks.line_end}
use Rattle.cap_run.proofs.ChoiceLemmas.{by_choice}
use Rattle.cap_run_judge.specs.{declared.verdict.RunVerdict.{RunVerdict, TheVariants.{Yes, No}}, Turns.{RunStage, unread, run_turns}}
use Rattle.cap_run_judge.specs.{Verdicts.IsRunVerdict, ChosenVerdicts.{IsFaultyEarlier, VerdictsByChoice}}
use Rattle.cap_run_judge.proofs.{OneVerdict.one_verdict, TurnLemmas.{run_spelled, asked}}
use Rattle.cap_turns.specs.Turns.{Body, Due, First, Reads, Second, next_stage, refusal_by, text_of}
use Rattle.cap_turns.specs.Verdicts.{IsBehind, IsFirstFault, Refuses}
use Rattle.cap_turns.proofs.TurnLemmas.{IsLine-spelling}
use Rattle.cap_run.specs.declared.ends.RunRefusal.{RunRefusal}

module _ (less more : Asks) (why : RunRefusal) (IsAfter : Option RunRefusal → Type 0)
    (ends : (run : Run) (line : RunLine) → EndsEarlier why IsAfter (line_end less run line) (line_end more run line)) where
  -- a line, or bytes that no line spells, by both choices
  by_both : (run_is : Run) (due : Due RunRefusal) (line : Option RunLine)
      → EndsEarlier why IsAfter (refusal_by run_turns (asked less run_is) due line) (refusal_by run_turns (asked more run_is) due line)
  by_both run_is First (Some RunLine.Version) = inl refl
  by_both run_is First line = inl refl
  by_both run_is Second (Some (RunLine.Mode mode)) = inl refl
  by_both run_is Second line = inl refl
  by_both run_is Body (Some line) = ends run_is line
  by_both run_is Body None = inl refl
  by_both run_is due line = inl refl

  abbrev asked_more : RunStage → RunStage
  asked_more stage = record stage { state = asked more stage.state.run }

  -- of lines that are allowed, one is refused by the check
  record Refused (from : RunStage) (read : List RunLine) : Type 0 where
    front : List RunLine
    line : RunLine
    back : List RunLine
    lines_are : read ≡ front ++ line ∷ back
    stage : RunStage
    reads : Reads run_turns (asked_more from) front stage
    in_range : AllByRecursion IsRunLineInRange front
    line_in_range : IsRunLineInRange line
    refused : refusal_by run_turns (asked stage.state.asks stage.state.run) stage.due (Some line) ≡ Some why

  later : (from : RunStage) (line : RunLine) (rest : List RunLine) → IsRunLineInRange line
      → refusal_by run_turns (asked more from.state.run) from.due (Some line) ≡ None → Refused (next_stage run_turns from line) rest → Refused from (line ∷ rest)
  later from line rest range allowed it = record {
    front = line ∷ it.front;
    line = it.line;
    back = it.back;
    lines_are = ap (λ (ls : List RunLine). line ∷ ls) it.lines_are;
    stage = it.stage;
    reads = (allowed, it.reads);
    in_range = (range, it.in_range);
    line_in_range = it.line_in_range;
    refused = it.refused;
  }

  abbrev Walk : RunStage → RunStage → List RunLine → Type 0
  Walk from to read = Reads run_turns (asked_more from) read (asked_more to) ⊎ Refused from read

  one_more : (from to : RunStage) (line : RunLine) (rest : List RunLine) → IsRunLineInRange line
      → refusal_by run_turns (asked more from.state.run) from.due (Some line) ≡ None → Walk (next_stage run_turns from line) to rest → Walk from to (line ∷ rest)
  one_more from to line rest range allowed (inl reads) = inl (allowed, reads)
  one_more from to line rest range allowed (inr it) = inr (later from line rest range allowed it)

  first_line : (from to : RunStage) (line : RunLine) (rest : List RunLine) → IsRunLineInRange line
      → refusal_by run_turns (asked less from.state.run) from.due (Some line) ≡ None → Walk (next_stage run_turns from line) to rest
      → EndsEarlier why IsAfter (refusal_by run_turns (asked less from.state.run) from.due (Some line)) (refusal_by run_turns (asked more from.state.run) from.due (Some line))
      → Walk from to (line ∷ rest)
  first_line from to line rest range free on (inl same) = one_more from to line rest range (same ∙ free) on
  first_line from to line rest range free on (inr refused) = inr (record {
    front = [];
    line = line;
    back = rest;
    lines_are = refl;
    stage = asked_more from;
    reads = refl;
    in_range = tt;
    line_in_range = range;
    refused = refused.0;
  })

  walk : (from to : RunStage) (read : List RunLine) → from.state.asks ≡ less → AllByRecursion IsRunLineInRange read → Reads run_turns from read to → Walk from to read
  walk from to [] asks_are range reads = inl (ap asked_more reads)
  walk from to (line ∷ rest) asks_are range reads =
      first_line from to line rest range.0
      (subst (λ (a : Asks). refusal_by run_turns (asked a from.state.run) from.due (Some line) ≡ None) asks_are reads.0)
      (walk (next_stage run_turns from line) to rest asks_are range.1 reads.1) (by_both from.state.run from.due (Some line))

  module _ (bytes : List ℕ) where
    abbrev Answer : RunVerdict → Type 0
    Answer one = (two : RunVerdict) × IsRunVerdict more bytes two × IsFaultyEarlier why IsAfter one two

    -- the check refuses a line of those that are allowed without it
    fault_at : (read : List RunLine) (rest : List ℕ) → bytes ≡ text_of run_turns read ++ rest → (it : Refused (unread less) read)
        → IsFirstFault run_turns (unread more) bytes (length it.front + 1) why
    fault_at read rest are it =
        let behind = text_of run_turns it.back ++ rest in
        let text = run_spelling it.line in
        let split : text_of run_turns read ≡ text_of run_turns it.front ++ ((text ++ 10 ∷ []) ++ text_of run_turns it.back) =
        ap (text_of run_turns) it.lines_are ∙ flat_map-append (λ (l : RunLine). run_spelling l ++ 10 ∷ []) it.front (it.line ∷ it.back) in
        record {
          stage = it.stage;
          rest = text ++ 10 ∷ behind;
          behind = record {
            front = text_of run_turns it.front;
            bytes_are = are ∙ ap (λ (t : List ℕ). t ++ rest) split ∙ simp (append_assoc);
            goes = record { lines = it.front; in_range = it.in_range; bytes_are = refl; reads = it.reads };
          };
          number_is = refl;
          refused = inr (inr (text, behind, IsLine-spelling run_turns run_spelled it.line it.line_in_range behind, (Some it.line, (it.line_in_range, refl), it.refused)));
        }

    -- what is refused without the check is refused with it
    refused_too : (stage : RunStage) (rest : List ℕ) (refusal : RunRefusal) → stage.state.asks ≡ less → Refuses run_turns stage rest refusal
        → Refuses run_turns (asked_more stage) rest refusal ⊎ (Refuses run_turns (asked_more stage) rest why × IsAfter (Some refusal))
    refused_too stage rest refusal asks_are (inl long) = inl (inl long)
    refused_too stage rest refusal asks_are (inr (inl cut)) = inl (inr (inl cut))
    refused_too stage rest refusal asks_are (inr (inr (text, behind, one, (line, reads, is)))) =
        let was = subst (λ (a : Asks). refusal_by run_turns (asked a stage.state.run) stage.due line ≡ Some refusal) asks_are is in
        elim (by_both stage.state.run stage.due line) [
          | inl same ↦ inl (inr (inr (text, behind, one, (line, reads, same ∙ was))))
          | inr it ↦ inr (inr (inr (text, behind, one, (line, reads, it.0))), subst IsAfter was it.1)
        ]

    asks_of : (from to : RunStage) (read : List RunLine) → Reads run_turns from read to → to.state.asks ≡ from.state.asks
    asks_of from to [] reads = ap (λ (s : RunStage). s.state.asks) (sym reads)
    asks_of from to (line ∷ rest) reads = asks_of (next_stage run_turns from line) to rest reads.1

    answer : (one : RunVerdict) → IsRunVerdict less bytes one → Answer one
    answer (Yes steps roots objects) is = elim (walk (unread less) is.stage is.whole.goes.lines refl is.whole.goes.in_range is.whole.goes.reads) [
      | inl reads ↦ (
        Yes steps roots objects,
        record {
          stage = asked_more is.stage;
          whole = record {
            goes = record { lines = is.whole.goes.lines; in_range = is.whole.goes.in_range; bytes_are = is.whole.goes.bytes_are; reads = reads };
            ended = is.whole.ended;
          };
          step_count_is = is.step_count_is;
          root_count_is = is.root_count_is;
          object_count_is = is.object_count_is;
        },
        inl refl,
      )
      | inr it ↦ (
        No (length it.front + 1) why,
        fault_at is.whole.goes.lines [] (is.whole.goes.bytes_are ∙ simp (append-nil)) it,
        inr (length it.front + 1, refl, tt),
      )
    ]
    answer (No line refusal) is =
        let goes = is.behind.goes in
        let are = is.behind.bytes_are ∙ ap (λ (t : List ℕ). t ++ is.rest) goes.bytes_are in
        elim (walk (unread less) is.stage goes.lines refl goes.in_range goes.reads) [
          | inl reads ↦
              let behind : IsBehind run_turns (unread more) bytes (asked_more is.stage) is.rest =
              record {
                front = is.behind.front;
                bytes_are = is.behind.bytes_are;
                goes = record { lines = goes.lines; in_range = goes.in_range; bytes_are = goes.bytes_are; reads = reads };
              } in
              elim (refused_too is.stage is.rest refusal (asks_of (unread less) is.stage goes.lines goes.reads) is.refused) [
                | inl same ↦ (
                  No line refusal,
                  record { stage = asked_more is.stage; rest = is.rest; behind = behind; number_is = is.number_is; refused = same },
                  inl refl,
                )
                | inr it ↦ (
                  No line why,
                  record { stage = asked_more is.stage; rest = is.rest; behind = behind; number_is = is.number_is; refused = it.0 },
                  inr (line, refl, inr (refl, it.1)),
                )
              ]
          | inr it ↦ (
            No (length it.front + 1) why,
            fault_at goes.lines is.rest are it,
            inr (length it.front + 1, refl, inl (omega (arith, is.number_is, ap length it.lines_are, length-append it.front (it.line ∷ it.back)))),
          )
        ]

    differs : (one two : RunVerdict) → IsRunVerdict less bytes one → IsRunVerdict more bytes two → IsFaultyEarlier why IsAfter one two
    differs one two is_one is_two =
        let found = answer one is_one in
        subst (IsFaultyEarlier why IsAfter one) (one_verdict more bytes found.0 two found.1 is_two) found.2

pub verdicts_by_choice : (asks_are : Asks) (bytes : List ℕ) → VerdictsByChoice asks_are bytes
verdicts_by_choice asks_are bytes = record {
  held = differs _ _ _ IsAfterHeld (λ run_is line. (by_choice asks_are run_is line).held) bytes;
  used = differs _ _ _ (IsAfterUsed asks_are) (λ run_is line. (by_choice asks_are run_is line).used) bytes;
  owned = differs _ _ _ IsAfterOwned (λ run_is line. (by_choice asks_are run_is line).owned) bytes;
}
