-- What a judge's stages say of the bytes that it read: the first fault, and how a log ends, whatever its lines say.
use Rattle.std.proofs.Common.{◌≡◌, ◌≢◌, ◌⊎◌, ℕ, ◌+◌, inl, inr, Bool, true, false, List, [], ◌∷◌, ◌++◌, length}
use Rattle.std.proofs.Common.{refl, sym, ap, subst, ◌∙◌, append-nil, append_assoc}
use Rattle.std.proofs.Common.{◌*◌, ◌-◌, ◌<◌, ◌≤◌, arith, length-append}
use Rattle.cap_ops.specs.declared.refusal.Refusal.TheVariants.{Misplaced, Truncated}
use Rattle.cap_streams.specs.Front.{IsCut}
use Rattle.cap_streams.proofs.FrontLemmas.{IsLine-more, IsTooLong-more}
use Rattle.cap_turns.specs.Turns.{Due, Ended, Goes, IsAtFault, Refused, Stage, Turns, lines_read, text_of}
use Rattle.cap_turns.specs.Verdicts.{IsBehind, IsNo, IsFirstFault, IsLastFront, IsWhole, Lacks, MayLackMemory, Refuses, RefusesCut}
use Rattle.cap_turns.specs.Verdicts.{StopsBefore}
use Rattle.cap_turns.specs.Readings.{Faults, Follows, RefusesNext, due_at_end, refused_by}
use Rattle.cap_turns.proofs.{FollowLemmas.goes_clear, LineLemmas.ended_front, TurnLemmas.goes_on, Laws.AreTurns}

module _ {Line State Refusal : Type 0} (turns : Turns Line State Refusal) where
  -- what is refused stays refused whatever follows
  pub refuses_next : (stage : Stage State Refusal) (rest : List ℕ) (refusal : Refusal) → RefusesNext turns stage rest refusal → (more : List ℕ)
      → Refuses turns stage (rest ++ more) refusal
  refuses_next stage rest refusal (inl (text, tail, whole, refused)) more =
      inr (inr (text, tail ++ more, IsLine-more rest text tail more whole, refused))
  refuses_next stage rest refusal (inr long) more = inl (IsTooLong-more rest more long.0, long.1)

  -- a log ends so, or there is a reason why not
  pub ending : (state : State) (due : Due Refusal) (rest : List ℕ) → (IsAtFault due → ⊥)
      → ((due_at_end turns state due rest ≡ Ended) × (due ≡ Ended) × (rest ≡ []))
      ⊎ ((refusal : Refusal) × (due_at_end turns state due rest ≡ refused_by turns state due refusal rest) × RefusesCut turns due rest refusal)
  ending state Ended [] clear = inl (refl, refl, refl)
  ending state Ended (b ∷ rest) clear = inr (turns.usual Misplaced, refl, (λ e. cc, refl))
  ending state (Refused line refusal text) rest clear = absurd (clear tt)
  ending state due rest clear = inr (turns.usual Truncated, refl, refl)

  -- a faulty line that bytes end with, told twice
  pub same_refused : (n m : ℕ) (a b : Refusal) (s t : List ℕ) → ◌≡◌ {A = Due Refusal} (Refused n a s) (Refused m b t)
      → (n ≡ m) × (a ≡ b) × (s ≡ t)
  same_refused n m a b s t is = (cc, cc, cc)

  -- the bytes are lines that lead to a state, and the line of this number, whose text is this
  abbrev pub StopsWith : Stage State Refusal → List ℕ → Bool → State → ℕ → List ℕ → Type 0
  StopsWith start bytes ended state line text = (before : StopsBefore turns start bytes ended line text) × (state ≡ before.stage.state)

  -- lines were read, or what is left grows
  by_lines : (bound : ℕ) (lines : List Line) (front rest kept more : List ℕ) (old new : ℕ) → front ≡ text_of turns lines
      → kept ++ more ≡ front ++ rest → length kept ≤ 95 → length rest ≤ 95 → length more ≢ 0 → new ≡ old + length lines → new < bound
      → 96 * (bound - new) + 96 - length rest < 96 * (bound - old) + 96 - length kept
  by_lines bound [] front rest kept more old new are split cut left some is few =
      let long = ap length split ∙ ap (λ (f : List ℕ). length (f ++ rest)) are in
      omega (arith, long, length-append kept more, some, is, few)
  by_lines bound (line ∷ lines) front rest kept more old new are split cut left some is few = omega (arith, cut, left, is, few)

  module _ {start : Stage State Refusal} (laws : AreTurns turns start) where
    -- so reading comes to an end
    pub closer : (bound : ℕ) (old new : Stage State Refusal) (taken front kept more rest : List ℕ) → Goes turns start taken old
        → Goes turns old front new → kept ++ more ≡ front ++ rest → IsCut kept → IsCut rest → length more ≢ 0 → lines_read turns new < bound
        → 96 * (bound - lines_read turns new) + 96 - length rest < 96 * (bound - lines_read turns old) + 96 - length kept
    unfolding goes_on
    closer bound old new taken front kept more rest was on split cut left some few =
        let before = laws.counted taken old was in
        let after = laws.counted (taken ++ front) new (goes_on turns start old new taken front was on) in
        by_lines bound on.lines front rest kept more _ _ on.bytes_are split cut.0 left.0 some
        (after ∙ length-append was.lines on.lines ∙ ap (λ (n : ℕ). n + length on.lines) (sym before)) few

    -- where lines lead to a stage, and a rest follows
    module _ (front rest : List ℕ) (stage : Stage State Refusal) (goes : Goes turns start front stage) where
      abbrev pub behind : IsBehind turns start (front ++ rest) stage rest
      behind = record { front = front; bytes_are = refl; goes = goes }

      number : lines_read turns stage + 1 ≡ length goes.lines + 1
      number = ap (λ (n : ℕ). n + 1) (laws.counted front stage goes)

      pub lacks_memory : (more : List ℕ) → Lacks turns stage rest more → MayLackMemory turns start (front ++ rest) more
      lacks_memory more lack = record { stage = stage; rest = rest; behind = behind; lacks = lack }

      module _ (refusal : Refusal) (text : List ℕ) (refused : RefusesNext turns stage rest refusal) (last : IsLastFront rest false text) where
        first_fault : (more : List ℕ) → IsFirstFault turns start ((front ++ rest) ++ more) (lines_read turns stage + 1) refusal
        first_fault more = record {
          stage = stage;
          rest = rest ++ more;
          behind = record { front = front; bytes_are = append_assoc front rest more; goes = goes };
          number_is = number;
          refused = refuses_next stage rest refusal refused more;
        }

        stands : (ended : Bool) → IsNo turns start (front ++ rest) ended (lines_read turns stage + 1) refusal
        stands true =
            subst (λ (b : List ℕ). IsFirstFault turns start b (lines_read turns stage + 1) refusal) (append-nil (front ++ rest)) (first_fault [])
        stands false = first_fault

        fault_ends : (ended : Bool) → IsNo turns start (front ++ rest) ended (lines_read turns stage + 1) refusal
            × StopsWith start (front ++ rest) ended stage.state (lines_read turns stage + 1) text
        fault_ends ended = (
          stands ended,
          (
            record {
              stage = stage;
              rest = rest;
              behind = behind;
              line_is = number;
              front = ended_front rest ended text last;
            },
            refl,
          ),
        )

      -- after a faulty line
      pub fault_told : (new : Stage State Refusal) (ended : Bool) (line : ℕ) (refusal : Refusal) (text : List ℕ) → Faults turns stage rest new
          → new.due ≡ Refused line refusal text
          → IsNo turns start (front ++ rest) ended line refusal × StopsWith start (front ++ rest) ended new.state line text
      fault_told new ended line refusal text (inl faulty) due = absurd (goes_clear turns laws front stage goes faulty.0)
      fault_told new ended line refusal text (inr (clear, why, found, refused, last, is)) due =
          let same = same_refused (lines_read turns stage + 1) line why refusal found text
          (sym (ap (λ (s : Stage State Refusal). s.due) is) ∙ due) in
          rw (ap (λ (s : Stage State Refusal). s.state) is, sym same.0, sym same.1, sym same.2) (fault_ends why found refused last ended)

      -- where the bytes end
      pub cut_told : (line : ℕ) (refusal : Refusal) (text : List ℕ) → IsCut rest
          → due_at_end turns stage.state stage.due rest ≡ Refused line refusal text
          → IsFirstFault turns start (front ++ rest) line refusal × StopsWith start (front ++ rest) true stage.state line text
      cut_told line refusal text cut is =
          elim (ending stage.state stage.due rest (goes_clear turns laws front stage goes)) [
            | inl whole ↦ let never : ⊥ = let both = sym whole.0 ∙ is in cc in absurd never
            | inr faulty ↦
                let same = same_refused (lines_read turns stage + 1) line faulty.0 refusal rest text (sym faulty.1 ∙ is) in
                rw (sym same.0, sym same.1, sym same.2) (
                  record {
                    stage = stage;
                    rest = rest;
                    behind = behind;
                    number_is = number;
                    refused = inr (inl (cut, faulty.2));
                  },
                  (
                    record {
                      stage = stage;
                      rest = rest;
                      behind = behind;
                      line_is = number;
                      front = inr (inl (cut, (refl, refl)));
                    },
                    refl,
                  ),
                )
          ]

      -- a whole log
      pub whole_told : due_at_end turns stage.state stage.due rest ≡ Ended → IsWhole turns start (front ++ rest) stage
      whole_told is =
          elim (ending stage.state stage.due rest (goes_clear turns laws front stage goes)) [
            | inl whole ↦ record {
              goes = subst (λ (r : List ℕ). Goes turns start (front ++ r) stage) (sym whole.2)
                  (subst (λ (b : List ℕ). Goes turns start b stage) (sym (append-nil front)) goes);
              ended = whole.1;
            }
            | inr faulty ↦ let never : ⊥ = let both = sym faulty.1 ∙ is in cc in absurd never
          ]

    -- a faulty line stands, whatever bytes follow
    pub refused_told : (bytes : List ℕ) (stage : Stage State Refusal) (ended : Bool) (line : ℕ) (refusal : Refusal) (text : List ℕ)
        → Follows turns start bytes stage → stage.due ≡ Refused line refusal text
        → IsNo turns start bytes ended line refusal × StopsWith start bytes ended stage.state line text
    refused_told bytes stage ended line refusal text (inl goes) is =
        absurd (goes_clear turns laws bytes stage goes (subst IsAtFault (sym is) tt))
    refused_told bytes stage ended line refusal text (inr (front, rest, are, middle, goes, faults)) is =
        rw are (fault_told front rest middle goes stage ended line refusal text faults is)
