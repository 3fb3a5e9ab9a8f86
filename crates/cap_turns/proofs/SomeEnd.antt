-- All bytes have an end: read a line at a time, they come to the end line, or to a line that is refused.
use Rattle.std.proofs.Common.{◌≡◌, ℕ, zero, suc, ◌+◌, ◌<◌, inl, inr, ◌⊎◌, Bool, true, false, List, [], ◌∷◌, ◌++◌, length, Option, Some, None}
use Rattle.std.proofs.Common.{if◌then◌else◌, refl, sym, ap, subst, ◌∙◌, append-nil, arith, length-append}
use Rattle.std.proofs.lemmas.Option.{none-some}
use Rattle.cap_streams.specs.Front.{IsCut, IsLine, IsTooLong}
use Rattle.cap_log.specs.Parts.{ReadsAs}
use Rattle.cap_log.proofs.DecidedLines.{front_decided}
use Rattle.cap_turns.specs.Turns.{Allows, Body, Due, Ended, First, Goes, Second, Stage, Turns, refusal_at, refusal_by, next_stage}
use Rattle.cap_turns.specs.Verdicts.{IsFirstFault, IsWhole, Refuses, RefusesWhole, long_refusal}
use Rattle.cap_turns.proofs.{EndLemmas.ending, FollowLemmas.goes_clear, TurnLemmas.{goes_line, goes_none}, Laws.AreTurns}

module _ {Line State Refusal : Type 0} (turns : Turns Line State Refusal) where
  -- bytes that no line spells are refused
  formless_refused : (state : State) (due : Due Refusal) → refusal_by turns state due None ≡ None → ⊥
  formless_refused state First free = none-some _ (sym free)
  formless_refused state Second free = none-some _ (sym free)
  formless_refused state Body free = none-some _ (sym free)
  formless_refused state due free = none-some _ (sym free)

  -- a whole line is refused at a stage, or it is a line that is allowed
  abbrev Turn : Stage State Refusal → List ℕ → Type 0
  Turn stage text =
      ((refusal : Refusal) × RefusesWhole turns stage text refusal)
      ⊎ ((line : Line) × turns.IsInRange line × (text ≡ turns.spelling line) × Allows turns stage line)

  by_refusal : (stage : Stage State Refusal) (text : List ℕ) (line : Option Line) → ReadsAs turns.IsInRange turns.spelling text line
      → (refusal : Option Refusal) → refusal_at turns stage line ≡ refusal → Turn stage text
  by_refusal stage text line is (Some refusal) refused = inl (refusal, (line, is, refused))
  by_refusal stage text (Some line) is None allowed = inr (line, is.0, is.1, allowed)
  by_refusal stage text None is None allowed = absurd (formless_refused stage.state stage.due allowed)

  module _ {start : Stage State Refusal} (laws : AreTurns turns start) where
    turn : (stage : Stage State Refusal) (text : List ℕ)
        → ((line : Line) × (turns.IsInRange line × (text ≡ turns.spelling line)))
        ⊎ ((line : Line) → turns.IsInRange line × (text ≡ turns.spelling line) → ⊥) → Turn stage text
    turn stage text (inl found) = by_refusal stage text (Some found.0) found.1 _ refl
    turn stage text (inr none) = by_refusal stage text None (λ line range is. none line (range, is)) _ refl

    module _ (bytes : List ℕ) where
      abbrev pub HasEnd : Type 0
      HasEnd =
          ((stage : Stage State Refusal) × IsWhole turns start bytes stage)
          ⊎ ((line : ℕ) × (refusal : Refusal) × IsFirstFault turns start bytes line refusal)

      -- lines that lead to a stage, and a rest
      record Reading (rest : List ℕ) : Type 0 where
        stage : Stage State Refusal
        front : List ℕ
        bytes_are : bytes ≡ front ++ rest
        goes : Goes turns start front stage

      refused : (rest : List ℕ) (here : Reading rest) (refusal : Refusal) → Refuses turns here.stage rest refusal → HasEnd
      refused rest here refusal is =
          inr (
            length here.goes.lines + 1,
            refusal,
            record {
              stage = here.stage;
              rest = rest;
              behind = record { front = here.front; bytes_are = here.bytes_are; goes = here.goes };
              number_is = refl;
              refused = is;
            },
          )

      whole : (rest : List ℕ) (here : Reading rest) → here.stage.due ≡ Ended → rest ≡ [] → HasEnd
      whole rest here ended none =
          inl (
            here.stage,
            record {
              goes = subst (λ (b : List ℕ). Goes turns start b here.stage)
                  (sym (here.bytes_are ∙ ap (λ (r : List ℕ). here.front ++ r) none ∙ append-nil here.front)) here.goes;
              ended = ended;
            },
          )

      -- after one line more
      longer : (rest text more : List ℕ) (here : Reading rest) (line : Line) → IsLine rest text more → turns.IsInRange line
          → text ≡ turns.spelling line → Allows turns here.stage line → Reading more
      longer rest text more here line one range spells allowed =
          let rest_is = one.whole ∙ ap (λ (t : List ℕ). t ++ 10 ∷ more) spells in
          let next = goes_line turns start here.stage (next_stage turns here.stage line) bytes here.front rest more line here.bytes_are here.goes
          (range, rest_is) (allowed, refl) in
          record { stage = next_stage turns here.stage line; front = next.0; bytes_are = next.1; goes = next.2 }

      -- the end by the front of the rest, where each shorter rest has one
      module _ (rest : List ℕ) (here : Reading rest) (shorter : (more : List ℕ) → length more < length rest → Reading more → HasEnd) where
        by_cut : IsCut rest → HasEnd
        by_cut cut =
            elim (ending turns here.stage.state here.stage.due rest (goes_clear turns laws here.front here.stage here.goes)) [
              | inl end ↦ whole rest here end.1 end.2
              | inr why ↦ refused rest here why.0 (inr (inl (cut, why.2)))
            ]

        by_turn : (text more : List ℕ) → IsLine rest text more → Turn here.stage text → HasEnd
        by_turn text more one (inl why) = refused rest here why.0 (inr (inr (text, more, one, why.1)))
        by_turn text more one (inr on) =
            shorter more (omega (arith, ap length one.whole, length-append text (10 ∷ more)))
            (longer rest text more here on.0 one on.1 on.2 on.3)

        by_front : IsTooLong rest ⊎ (IsCut rest ⊎ ((text : List ℕ) × (more : List ℕ) × IsLine rest text more)) → HasEnd
        by_front (inl long) = refused rest here (long_refusal turns here.stage.due) (inl (long, refl))
        by_front (inr (inl cut)) = by_cut cut
        by_front (inr (inr one)) = by_turn one.0 one.1 one.2 (turn here.stage one.0 (laws.spelled.decided one.0))

      end_from : (fuel : ℕ) (rest : List ℕ) → length rest < fuel → Reading rest → HasEnd
      end_from zero rest few here = absurd (omega arith)
      end_from (suc fuel) rest few here =
          by_front rest here (λ more less. end_from fuel more (omega arith)) (front_decided rest)

    pub some_end : (bytes : List ℕ) → HasEnd bytes
    some_end bytes =
        end_from bytes (length bytes + 1) bytes (omega arith)
        (record { stage = start; front = []; bytes_are = refl; goes = goes_none turns start })
