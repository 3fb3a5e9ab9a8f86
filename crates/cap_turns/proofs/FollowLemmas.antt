-- What bytes lead to that a judge was handed, also past a faulty line, whatever the lines say.
use Rattle.std.proofs.Common.{◌≡◌, ℕ, ◌+◌, inl, inr, List, [], ◌∷◌, ◌++◌, ap, append_assoc, arith, length, refl, subst, sym, ◌∙◌}
use Rattle.std.proofs.Common.{None, Some}
use Rattle.std.proofs.lemmas.Option.{none-some}
use Rattle.cap_ops.specs.declared.refusal.Refusal.TheVariants.{Misplaced}
use Rattle.cap_log.specs.Parts.{Begins}
use Rattle.cap_streams.proofs.FrontLemmas.{IsLine-more, IsTooLong-more}
use Rattle.cap_turns.specs.declared.stops.Stop.TheVariants.{Fault}
use Rattle.cap_turns.specs.Turns.{Due, Goes, IsAtFault, Reads, Refused, Stage, Turns, refusal_by, next_stage, text_of}
use Rattle.cap_turns.specs.{Readings.{Faults, Follows, IsWholeLine, RefusesNext, StopsAt, Takes, due_at_end}, Verdicts.Lacks}
use Rattle.cap_turns.proofs.{LineLemmas.{front_more, whole_rest}, TurnLemmas.{goes_on, line_is, one_goes}, Laws.{AreSpelled, AreTurns}}

-- the faulty line of a stage
pub refused_in : {Refusal : Type 0} (due : Due Refusal) → IsAtFault due
    → (n : ℕ) × (refusal : Refusal) × (text : List ℕ) × (due ≡ Refused n refusal text)
refused_in (Refused n refusal text) is = (n, refusal, text, refl)
refused_in due is = absurd is

module _ {Line State Refusal : Type 0} (turns : Turns Line State Refusal) where
  -- no line follows a faulty one
  pub fault_allows : (state : State) (due : Due Refusal) (line : Line) → IsAtFault due → refusal_by turns state due (Some line) ≡ None → ⊥
  fault_allows state (Refused n refusal text) line is none = none-some (turns.usual Misplaced) (sym none)
  fault_allows state due line is none = absurd is

  no_lines : (old : Stage State Refusal) (lines : List Line) (new : Stage State Refusal) → IsAtFault old.due → Reads turns old lines new
      → (lines ≡ []) × (old ≡ new)
  no_lines old [] new is reads = (refl, reads)
  no_lines old (line ∷ lines) new is reads = absurd (fault_allows old.state old.due line is reads.0)

  pub fault_stays : (old : Stage State Refusal) (front : List ℕ) (new : Stage State Refusal) → IsAtFault old.due → Goes turns old front new
      → (front ≡ []) × (old ≡ new)
  fault_stays old front new is goes =
      let none = no_lines old goes.lines new is goes.reads in
      (goes.bytes_are ∙ ap (text_of turns) none.0, none.1)

  fault_faults : (old : Stage State Refusal) (rest : List ℕ) (new : Stage State Refusal) → IsAtFault old.due → Faults turns old rest new
      → new ≡ old
  fault_faults old rest new is (inl faults) = faults.1
  fault_faults old rest new is (inr faults) = absurd (faults.0 is)

  fault_follows : (old : Stage State Refusal) (bytes : List ℕ) (new : Stage State Refusal) → IsAtFault old.due → Follows turns old bytes new
      → new ≡ old
  fault_follows old bytes new is (inl goes) = sym (fault_stays old bytes new is goes).1
  fault_follows old bytes new is (inr (front, rest, are, middle, goes, faults)) =
      let stays = (fault_stays old front middle is goes).1 in
      fault_faults middle rest new (subst (λ (s : Stage State Refusal). IsAtFault s.due) stays is) faults ∙ sym stays

  -- where one is, a log ends with it
  pub fault_end : (state : State) (due : Due Refusal) (rest : List ℕ) → IsAtFault due → due_at_end turns state due rest ≡ due
  fault_end state (Refused n refusal text) rest is = refl
  fault_end state due rest is = absurd is

  -- after a fault a line is faulty
  pub faults_at : (old : Stage State Refusal) (rest : List ℕ) (new : Stage State Refusal) → Faults turns old rest new → IsAtFault new.due
  faults_at old rest new (inl faults) = subst (λ (s : Stage State Refusal). IsAtFault s.due) (sym faults.1) faults.0
  faults_at old rest new (inr faults) = subst (λ (s : Stage State Refusal). IsAtFault s.due) (sym faults.5) tt

  -- and stays so whatever follows
  refuses_more : (stage : Stage State Refusal) (rest after : List ℕ) (refusal : Refusal) → RefusesNext turns stage rest refusal
      → RefusesNext turns stage (rest ++ after) refusal
  refuses_more stage rest after refusal (inl (text, more, whole, refused)) =
      inl (text, more ++ after, IsLine-more rest text more after whole, refused)
  refuses_more stage rest after refusal (inr long) = inr (IsTooLong-more rest after long.0, long.1)

  faults_more : (old : Stage State Refusal) (rest after : List ℕ) (new : Stage State Refusal) → Faults turns old rest new
      → Faults turns old (rest ++ after) new
  faults_more old rest after new (inl faults) = inl faults
  faults_more old rest after new (inr (clear, refusal, text, refused, front, new_is)) =
      inr (clear, refusal, text, refuses_more old rest after refusal refused, front_more rest after text front, new_is)

  pub follows_more : (first : Stage State Refusal) (bytes more : List ℕ) (old : Stage State Refusal)
      → (front : List ℕ) × (rest : List ℕ) × (bytes ≡ front ++ rest) × (middle : Stage State Refusal) × Goes turns first front middle
      × Faults turns middle rest old
      → Follows turns first (bytes ++ more) old
  follows_more first bytes more old (front, rest, are, middle, goes, faults) =
      inr (
        front,
        rest ++ more,
        ap (λ (b : List ℕ). b ++ more) are ∙ append_assoc front rest more,
        middle,
        goes,
        faults_more middle rest more old faults,
      )

  -- what is followed further
  pub follows_on : (first old new : Stage State Refusal) (bytes more : List ℕ) → Follows turns first bytes old → Follows turns old more new
      → Follows turns first (bytes ++ more) new
  follows_on first old new bytes more (inl goes) (inl next) = inl (goes_on turns first old new bytes more goes next)
  follows_on first old new bytes more (inl goes) (inr (front, rest, are, middle, next, faults)) =
      inr (
        bytes ++ front,
        rest,
        ap (λ (b : List ℕ). bytes ++ b) are ∙ sym (append_assoc bytes front rest),
        middle,
        goes_on turns first old middle bytes front goes next,
        faults,
      )
  follows_on first old new bytes more (inr faulty) next =
      let same = fault_follows old more new (faults_at faulty.3 faulty.1 old faulty.5) next in
      subst (Follows turns first (bytes ++ more)) (sym same) (follows_more first bytes more old faulty)

  -- unless a line is faulty, the bytes are lines that begin a log
  pub clear_goes : (old : Stage State Refusal) (bytes : List ℕ) (new : Stage State Refusal) → Follows turns old bytes new
      → (IsAtFault new.due → ⊥) → Goes turns old bytes new
  clear_goes old bytes new (inl goes) clear = goes
  clear_goes old bytes new (inr faulty) clear = absurd (clear (faults_at faulty.3 faulty.1 new faulty.5))

  -- a front and its rest are read where the rest begins with a faulty line
  pub stop_follows : (old new : Stage State Refusal) (front rest : List ℕ) → StopsAt turns old front rest Fault new
      → Follows turns old (front ++ rest) new
  stop_follows old new front rest (middle, goes, faults) = inr (front, rest, refl, middle, goes, faults)

  module _ (spelled : AreSpelled turns) where
    -- a line alone was taken; or memory is wanted for it
    pub whole_taken : (old new : Stage State Refusal) (bytes rest : List ℕ) (line : Line) → IsWholeLine bytes
        → Begins turns.IsInRange turns.spelling 10 bytes line rest → Takes turns old line new → Follows turns old bytes new
    whole_taken old new bytes rest line whole is takes =
        let none = whole_rest bytes (turns.spelling line) rest whole (line_is turns spelled line bytes rest is) in
        inl (subst (λ (b : List ℕ). Goes turns old b new) (sym (is.1 ∙ ap (λ (r : List ℕ). turns.spelling line ++ 10 ∷ r) none))
        (one_goes turns old new line is.0 takes))

    pub whole_lacks : (stage : Stage State Refusal) (bytes rest : List ℕ) → IsWholeLine bytes → Lacks turns stage bytes rest
        → Lacks turns stage bytes []
    whole_lacks stage bytes rest whole lacks =
        subst (Lacks turns stage bytes)
        (whole_rest bytes (turns.spelling lacks.line) rest whole (line_is turns spelled lacks.line bytes rest lacks.begins)) lacks

    -- the bytes are a line
    pub line_whole : (bytes : List ℕ) (line : Line) → Begins turns.IsInRange turns.spelling 10 bytes line [] → IsWholeLine bytes
    line_whole bytes line begins = inl (turns.spelling line, line_is turns spelled line bytes [] begins)

  module _ {start : Stage State Refusal} (laws : AreTurns turns start) where
    -- lines that are read lead to no faulty one
    clear_from : (from : Stage State Refusal) (lines : List Line) (to : Stage State Refusal) → (IsAtFault from.due → ⊥)
        → Reads turns from lines to → IsAtFault to.due → ⊥
    clear_from from [] to clear reads is = clear (subst (λ (s : Stage State Refusal). IsAtFault s.due) (sym reads) is)
    clear_from from (line ∷ lines) to clear reads is = clear_from (next_stage turns from line) lines to (laws.clear line) reads.1 is

    pub goes_clear : (bytes : List ℕ) (stage : Stage State Refusal) → Goes turns start bytes stage → IsAtFault stage.due → ⊥
    goes_clear bytes stage goes = clear_from start goes.lines stage laws.begun goes.reads
