-- Bytes have one reading, a line at a time, that stops, and no two ends, whatever their lines say.
use Rattle.std.specs.List.{AllByRecursion}
use Rattle.std.proofs.Common.{◌≡◌, ℕ, ◌+◌, inl, inr, List, [], ◌∷◌, ◌++◌, length, refl, sym, ap, subst, ◌∙◌, append_assoc, append-nil, arith}
use Rattle.std.proofs.Common.{Option, Some, None}
use Rattle.std.proofs.{Common.length-append, lemmas.Option.{none-some, same_Some}}
use Rattle.cap_ops.specs.declared.refusal.Refusal.TheVariants.{Misplaced}
use Rattle.cap_streams.specs.Front.{IsLine}
use Rattle.cap_streams.proofs.FrontLemmas.{IsLine-same, IsLine-not_too_long, IsLine-not_cut, IsTooLong-not_cut}
use Rattle.cap_log.specs.Parts.{ReadsAs}
use Rattle.cap_turns.specs.Turns.{Allows, Due, Ended, Goes, IsAtFault, Reads, Stage, Turns, refusal_at, refusal_by, next_stage, text_of}
use Rattle.cap_turns.specs.{Verdicts.{IsFirstFault, IsWhole, Refuses, RefusesCut, RefusesWhole}, Readings.{Follows, RefusesNext}}
use Rattle.cap_turns.proofs.{EndLemmas.refuses_next, FollowLemmas.goes_clear, TurnLemmas.IsLine-spelling, Laws.{AreSpelled, AreTurns}}

module _ {Line State Refusal : Type 0} (turns : Turns Line State Refusal) where
  -- no line that is allowed stands at the front of the bytes
  abbrev pub Stops : Stage State Refusal → List ℕ → Type 0
  Stops stage rest = (line : Line) (more : List ℕ) → turns.IsInRange line → Allows turns stage line
      → rest ≡ turns.spelling line ++ 10 ∷ more → ⊥

  -- the first line of a text
  pub text_cons : (line : Line) (lines : List Line) (rest : List ℕ)
      → text_of turns (line ∷ lines) ++ rest ≡ turns.spelling line ++ 10 ∷ (text_of turns lines ++ rest)
  text_cons line lines rest = simp (append_assoc)

  -- less than a line is refused with one refusal
  one_cut : (due : Due Refusal) (rest : List ℕ) (a b : Refusal) → RefusesCut turns due rest a → RefusesCut turns due rest b → a ≡ b
  one_cut Ended rest a b h k = h.1 ∙ sym k.1
  one_cut due rest a b h k = h ∙ sym k

  -- after the end line no line is allowed
  ended_stops : (stage : Stage State Refusal) (rest : List ℕ) → stage.due ≡ Ended → Stops stage rest
  ended_stops stage rest ended line more range allowed is =
      none-some (turns.usual Misplaced) (sym allowed ∙ ap (λ (d : Due Refusal). refusal_by turns stage.state d (Some line)) ended)

  -- where nothing follows the end line, nothing is refused
  nothing_refused : (state_is : State) (due_is : Due Refusal) (refusal : Refusal) → due_is ≡ Ended
      → Refuses turns (record { state = state_is; due = due_is }) [] refusal → ⊥
  nothing_refused state_is due_is refusal ended (inl long) = omega (arith, long.0.0)
  nothing_refused state_is due_is refusal ended (inr (inl cut)) =
      (subst (λ (d : Due Refusal). RefusesCut turns d [] refusal) ended cut.1).0 refl
  nothing_refused state_is due_is refusal ended (inr (inr line)) =
      omega (arith, ap length line.2.whole, length-append line.0 (10 ∷ line.1))

  -- nothing begins with a line where nothing is left
  nothing_stops : (stage : Stage State Refusal) → Stops stage []
  nothing_stops stage line more range allowed is =
      let long = ap length is in omega (arith, long, length-append (turns.spelling line) (10 ∷ more))

  nothing_next : (stage : Stage State Refusal) (refusal : Refusal) → RefusesNext turns stage [] refusal → ⊥
  nothing_next stage refusal (inl (text, more, whole, refused)) =
      let long = ap length whole.whole in omega (arith, long, length-append text (10 ∷ more))
  nothing_next stage refusal (inr long) = omega (arith, long.0.0)

  module _ (spelled : AreSpelled turns) where
    -- a text is that of one line at most
    one_form : (text : List ℕ) (a b : Option Line) → ReadsAs turns.IsInRange turns.spelling text a
        → ReadsAs turns.IsInRange turns.spelling text b → a ≡ b
    one_form text (Some line) (Some other) h k = ap Some (spelled.one line other h.0 k.0 (sym h.1 ∙ k.1))
    one_form text (Some line) None h k = absurd (k line h.0 h.1)
    one_form text None (Some line) h k = absurd (h line k.0 k.1)
    one_form text None None h k = refl

    -- texts that begin with lines in range begin with the same line, and go on alike
    pub same_front : (line other : Line) (more rest : List ℕ) → turns.IsInRange line → turns.IsInRange other
        → turns.spelling line ++ 10 ∷ more ≡ turns.spelling other ++ 10 ∷ rest → (line ≡ other) × (more ≡ rest)
    same_front line other more rest range range' same =
        let both = IsLine-same _ (turns.spelling line) more (turns.spelling other) rest (IsLine-spelling turns spelled line range more)
        (subst (λ (bytes : List ℕ). IsLine bytes (turns.spelling other) rest) (sym same) (IsLine-spelling turns spelled other range' rest)) in
        (spelled.one line other range range' both.0, both.1)

    -- two readings of the same bytes that stop are one
    pub one_reading : (from to to' : Stage State Refusal) (lines lines' : List Line) (rest rest' : List ℕ)
        → AllByRecursion turns.IsInRange lines → AllByRecursion turns.IsInRange lines' → Reads turns from lines to → Reads turns from lines' to'
        → Stops to rest → Stops to' rest' → text_of turns lines ++ rest ≡ text_of turns lines' ++ rest'
        → (lines ≡ lines') × (rest ≡ rest') × (to ≡ to')
    one_reading from to to' [] [] rest rest' range range' reads reads' stops stops' same = (refl, same, sym reads ∙ reads')
    one_reading from to to' [] (line ∷ lines) rest rest' range range' reads reads' stops stops' same =
        let allowed = subst (λ (stage : Stage State Refusal). Allows turns stage line) reads reads'.0 in
        absurd (stops line (text_of turns lines ++ rest') range'.0 allowed (same ∙ text_cons line lines rest'))
    one_reading from to to' (line ∷ lines) [] rest rest' range range' reads reads' stops stops' same =
        let allowed = subst (λ (stage : Stage State Refusal). Allows turns stage line) reads' reads.0 in
        absurd (stops' line (text_of turns lines ++ rest) range.0 allowed (sym same ∙ text_cons line lines rest))
    one_reading from to to' (line ∷ lines) (other ∷ lines') rest rest' range range' reads reads' stops stops' same =
        let first = same_front line other _ _ range.0 range'.0 (sym (text_cons line lines rest) ∙ same ∙ text_cons other lines' rest') in
        let moved = subst (λ (l : Line). Reads turns (next_stage turns from l) lines' to') (sym first.0) reads'.1 in
        let all = one_reading (next_stage turns from line) to to' lines lines' rest rest' range.1 range'.1 reads.1 moved stops stops' first.1 in
        (ap (λ (l : Line). l ∷ lines) first.0 ∙ ap (λ (ls : List Line). other ∷ ls) all.0, all.1, all.2)

    -- what refuses bytes that begin with a whole line refuses this line
    front_refused : (stage : Stage State Refusal) (rest text more : List ℕ) (refusal : Refusal) → IsLine rest text more
        → Refuses turns stage rest refusal → RefusesWhole turns stage text refusal
    front_refused stage rest text more refusal whole (inl long) = absurd (IsLine-not_too_long rest text more whole long.0)
    front_refused stage rest text more refusal whole (inr (inl cut)) = absurd (IsLine-not_cut rest text more whole cut.0)
    front_refused stage rest text more refusal whole (inr (inr h)) =
        subst (λ (t : List ℕ). RefusesWhole turns stage t refusal) (IsLine-same rest h.0 h.1 text more h.2 whole).0 h.3

    -- a whole line is refused with one refusal
    one_text : (stage : Stage State Refusal) (text : List ℕ) (a b : Refusal) → RefusesWhole turns stage text a → RefusesWhole turns stage text b
        → a ≡ b
    one_text stage text a b h k = same_Some a b (sym h.2 ∙ ap (refusal_at turns stage) (one_form text h.0 k.0 h.1 k.1) ∙ k.2)

    -- and so is what follows: too long, cut and a whole line exclude one another
    one_refusal : (stage : Stage State Refusal) (rest : List ℕ) (a b : Refusal) → Refuses turns stage rest a → Refuses turns stage rest b → a ≡ b
    one_refusal stage rest a b (inr (inr h)) k = one_text stage h.0 a b h.3 (front_refused stage rest h.0 h.1 b h.2 k)
    one_refusal stage rest a b h (inr (inr k)) = one_text stage k.0 a b (front_refused stage rest k.0 k.1 a k.2 h) k.3
    one_refusal stage rest a b (inl h) (inl k) = h.1 ∙ sym k.1
    one_refusal stage rest a b (inr (inl h)) (inr (inl k)) = one_cut stage.due rest a b h.1 k.1
    one_refusal stage rest a b (inl h) (inr (inl k)) = absurd (IsTooLong-not_cut rest h.0 k.0)
    one_refusal stage rest a b (inr (inl h)) (inl k) = absurd (IsTooLong-not_cut rest k.0 h.0)

    -- where a line is refused, the reading stops
    refused_stops : (stage : Stage State Refusal) (rest : List ℕ) (refusal : Refusal) → Refuses turns stage rest refusal → Stops stage rest
    refused_stops stage rest refusal refused line more range allowed is =
        let whole = subst (λ (bytes : List ℕ). IsLine bytes (turns.spelling line) more) (sym is) (IsLine-spelling turns spelled line range more) in
        let found = front_refused stage rest (turns.spelling line) more refusal whole refused in
        let same = one_form (turns.spelling line) (Some line) found.0 (range, refl) found.1 in
        none-some refusal (sym allowed ∙ ap (refusal_at turns stage) same ∙ found.2)

    module _ {start : Stage State Refusal} where
      -- two readings from the start
      same_reading : (bytes front front' rest rest' : List ℕ) (to to' : Stage State Refusal) (goes : Goes turns start front to)
          (goes' : Goes turns start front' to') → bytes ≡ front ++ rest → bytes ≡ front' ++ rest' → Stops to rest → Stops to' rest'
          → (goes.lines ≡ goes'.lines) × (rest ≡ rest') × (to ≡ to')
      same_reading bytes front front' rest rest' to to' goes goes' is is' stops stops' =
          one_reading start to to' goes.lines goes'.lines rest rest' goes.in_range goes'.in_range goes.reads goes'.reads stops stops'
          (ap (λ (t : List ℕ). t ++ rest) (sym goes.bytes_are) ∙ sym is ∙ is' ∙ ap (λ (t : List ℕ). t ++ rest') goes'.bytes_are)

      -- no bytes lead to two whole logs, to a whole log and a fault, or to two first faults
      pub one_whole : (bytes : List ℕ) (a b : Stage State Refusal) → IsWhole turns start bytes a → IsWhole turns start bytes b → a ≡ b
      one_whole bytes a b h k =
          (same_reading bytes bytes bytes [] [] a b h.goes k.goes (sym (append-nil bytes)) (sym (append-nil bytes))
          (ended_stops a [] h.ended) (ended_stops b [] k.ended)).2

      pub never_both : (bytes : List ℕ) (stage : Stage State Refusal) (line : ℕ) (refusal : Refusal) → IsWhole turns start bytes stage
          → IsFirstFault turns start bytes line refusal → ⊥
      never_both bytes stage line refusal whole fault =
          let same = same_reading bytes bytes fault.behind.front [] fault.rest stage fault.stage whole.goes fault.behind.goes (sym (append-nil bytes))
          fault.behind.bytes_are (ended_stops stage [] whole.ended) (refused_stops fault.stage fault.rest refusal fault.refused) in
          nothing_refused stage.state stage.due refusal whole.ended
          (subst (λ (s : Stage State Refusal). Refuses turns s [] refusal) (sym same.2)
          (subst (λ (r : List ℕ). Refuses turns fault.stage r refusal) (sym same.1) fault.refused))

      pub one_fault : (bytes : List ℕ) (line line' : ℕ) (refusal refusal' : Refusal) → IsFirstFault turns start bytes line refusal
          → IsFirstFault turns start bytes line' refusal' → (line ≡ line') × (refusal ≡ refusal')
      one_fault bytes line line' refusal refusal' h k =
          let same = same_reading bytes h.behind.front k.behind.front h.rest k.rest h.stage k.stage h.behind.goes k.behind.goes h.behind.bytes_are
          k.behind.bytes_are (refused_stops h.stage h.rest refusal h.refused) (refused_stops k.stage k.rest refusal' k.refused) in (
            h.number_is ∙ ap (λ (ls : List Line). length ls + 1) same.0 ∙ sym k.number_is,
            one_refusal h.stage h.rest refusal refusal' h.refused
                (subst (λ (s : Stage State Refusal). Refuses turns s h.rest refusal') (sym same.2)
                (subst (λ (r : List ℕ). Refuses turns k.stage r refusal') (sym same.1) k.refused)),
          )

      -- where all bytes lead to a stage, no line of them is refused
      pub none_refused : (bytes : List ℕ) (begun : Stage State Refusal) → Goes turns start bytes begun → (front rest : List ℕ)
          (middle : Stage State Refusal) (refusal : Refusal) → bytes ≡ front ++ rest → Goes turns start front middle
          → RefusesNext turns middle rest refusal → ⊥
      none_refused bytes begun begins front rest middle refusal are goes refused =
          let stops = refused_stops middle rest refusal
          (subst (λ (r : List ℕ). Refuses turns middle r refusal) (append-nil rest) (refuses_next turns middle rest refusal refused [])) in
          let same = same_reading bytes bytes front [] rest begun middle begins goes (sym (append-nil bytes)) are (nothing_stops begun) stops in
          nothing_next middle refusal (subst (λ (r : List ℕ). RefusesNext turns middle r refusal) (sym same.1) refused)

  -- so no line of them is faulty
  module _ {start : Stage State Refusal} (laws : AreTurns turns start) where
    pub never_faulty : (bytes : List ℕ) (begun new : Stage State Refusal) → Goes turns start bytes begun → Follows turns start bytes new
        → IsAtFault new.due → ⊥
    never_faulty bytes begun new begins (inl goes) = goes_clear turns laws bytes new goes
    never_faulty bytes begun new begins (inr (front, rest, are, middle, goes, inl faults)) = absurd (goes_clear turns laws front middle goes faults.0)
    never_faulty bytes begun new begins (inr (front, rest, are, middle, goes, inr (clear, refusal, text, refused, last, is))) =
        absurd (none_refused laws.spelled bytes begun begins front rest middle refusal are goes refused)
