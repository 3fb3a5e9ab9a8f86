-- What lines lead to, and where a judge stops, whatever the lines say.
use Rattle.std.proofs.Common.{◌≡◌, ◌≢◌, ℕ, ◌+◌, ◌-◌, arith, inl, inr, false, List, [], ◌∷◌, ◌++◌, length, take, drop}
use Rattle.std.proofs.Common.{refl, sym, ap, subst, ◌∙◌, append-nil, append_assoc, length-append, Option, None, Some}
use Rattle.std.proofs.lemmas.{Grind.flat_map-append}
use Rattle.cap_ops.specs.declared.refusal.Refusal.TheVariants.{Misplaced}
use Rattle.cap_log.specs.Parts.{Begins, BeginsWithNone}
use Rattle.cap_log.proofs.ElementLemmas.{AllByRecursion-append}
use Rattle.cap_streams.specs.Front.{IsCut, IsFrontText, IsLine}
use Rattle.cap_streams.proofs.FrontLemmas.{IsLine-not_cut, IsTooLong-not_cut}
use Rattle.cap_turns.specs.{declared.stops.Stop.Stop, Turns.{Ended, Goes, Reads, Stage, Turns, refusal_at, next_stage, text_of}}
use Rattle.cap_turns.specs.{Readings.{EndsBytes, EndsLine, RefusesNext, StopsAt, Takes, due_at_end, refused_by}, Verdicts.IsLastFront}
use Rattle.cap_turns.proofs.{LineLemmas.front_count, Laws.AreSpelled}

module _ {Line State Refusal : Type 0} (turns : Turns Line State Refusal) where
  -- Lines that are read

  -- one reading after another
  pub Reads-append : (from middle to : Stage State Refusal) (lines more : List Line) → Reads turns from lines middle
      → Reads turns middle more to → Reads turns from (lines ++ more) to
  Reads-append from middle to [] more h k = subst (λ (stage : Stage State Refusal). Reads turns stage more to) (sym h) k
  Reads-append from middle to (line ∷ lines) more h k = (h.0, Reads-append (next_stage turns from line) middle to lines more h.1 k)

  unfoldable pub goes_none : (stage : Stage State Refusal) → Goes turns stage [] stage
  goes_none stage = record { lines = []; in_range = tt; bytes_are = refl; reads = refl }

  unfoldable pub goes_on : (first old new : Stage State Refusal) (front more : List ℕ) → Goes turns first front old → Goes turns old more new
      → Goes turns first (front ++ more) new
  goes_on first old new front more so_far next = record {
    lines = so_far.lines ++ next.lines;
    in_range = AllByRecursion-append turns.IsInRange so_far.lines next.lines so_far.in_range next.in_range;
    bytes_are = ap (λ (t : List ℕ). t ++ more) so_far.bytes_are ∙ ap (λ (t : List ℕ). text_of turns so_far.lines ++ t) next.bytes_are
        ∙ sym (flat_map-append (λ (line : Line). turns.spelling line ++ 10 ∷ []) so_far.lines next.lines);
    reads = Reads-append first old new so_far.lines next.lines so_far.reads next.reads;
  }

  unfoldable pub one_goes : (old new : Stage State Refusal) (line : Line) → turns.IsInRange line → Takes turns old line new
      → Goes turns old (turns.spelling line ++ 10 ∷ []) new
  one_goes old new line range takes =
      record { lines = line ∷ []; in_range = (range, tt); bytes_are = sym (append-nil _); reads = (takes.0, sym takes.1) }

  -- the same of bytes that go on
  abbrev pub goes_more : (first old new : Stage State Refusal) (bytes front rest more behind : List ℕ) → bytes ≡ front ++ rest
      → Goes turns first front old → rest ≡ more ++ behind → Goes turns old more new
      → (fronts : List ℕ) × (bytes ≡ fronts ++ behind) × Goes turns first fronts new
  goes_more first old new bytes front rest more behind is so_far is_more next = (
    front ++ more,
    is ∙ ap (λ (r : List ℕ). front ++ r) is_more ∙ sym (append_assoc front more behind),
    goes_on first old new front more so_far next,
  )

  -- one line more
  abbrev pub goes_line : (first old new : Stage State Refusal) (bytes front rest behind : List ℕ) (line : Line) → bytes ≡ front ++ rest
      → Goes turns first front old → Begins turns.IsInRange turns.spelling 10 rest line behind → Takes turns old line new
      → (fronts : List ℕ) × (bytes ≡ fronts ++ behind) × Goes turns first fronts new
  goes_line first old new bytes front rest behind line is so_far begins takes =
      goes_more first old new bytes front rest (turns.spelling line ++ 10 ∷ []) behind is so_far
      (begins.1 ∙ sym (append_assoc (turns.spelling line) (10 ∷ []) behind)) (one_goes old new line begins.0 takes)

  -- nothing leads nowhere
  pub nothing_goes : (old new : Stage State Refusal) → Goes turns old [] new → new ≡ old
  nothing_goes old new goes = no_line_goes goes.lines goes.bytes_are goes.reads
    where
      no_line_goes : (lines : List Line) → [] ≡ text_of turns lines → Reads turns old lines new → new ≡ old
      no_line_goes [] is reads = sym reads
      no_line_goes (line ∷ lines) is reads =
          let long = ap length is in
          let text = turns.spelling line in
          let never : ⊥ = omega (arith, long, length-append (text ++ 10 ∷ []) (text_of turns lines), length-append text (10 ∷ [])) in
          absurd never

  -- Stops after what was taken

  stops_later : (first old new : Stage State Refusal) (front middle rest : List ℕ) (stop : Stop) → Goes turns first front old
      → StopsAt turns old middle rest stop new → StopsAt turns first (front ++ middle) rest stop new
  stops_later first old new front middle rest Stop.Cut so_far stop = (goes_on first old new front middle so_far stop.0, stop.1, stop.2)
  stops_later first old new front middle rest Stop.Fault so_far stop = (stop.0, goes_on first old stop.0 front middle so_far stop.1, stop.2)
  stops_later first old new front middle rest Stop.NoMemory so_far stop = (goes_on first old new front middle so_far stop.0, stop.1, stop.2)

  pub stops_after : (first old new : Stage State Refusal) (front rest : List ℕ) (stop : Stop) → Goes turns first front old
      → StopsAt turns old [] rest stop new → StopsAt turns first front rest stop new
  stops_after first old new front rest stop so_far stops =
      subst (λ (f : List ℕ). StopsAt turns first f rest stop new) (append-nil front) (stops_later first old new front [] rest stop so_far stops)

  -- where the whole stopped
  pub stops_here : (first old new : Stage State Refusal) (bytes so_far front middle rest : List ℕ) (stop : Stop) → bytes ≡ so_far ++ front
      → front ≡ middle ++ rest → Goes turns first so_far old → StopsAt turns old middle rest stop new
      → StopsAt turns first (take (length bytes - length rest) bytes) (drop (length bytes - length rest) bytes) stop new
  stops_here first old new bytes so_far front middle rest stop split there on stops =
      let whole = split ∙ ap (λ (b : List ℕ). so_far ++ b) there ∙ sym (append_assoc so_far middle rest) in
      let counts = front_count bytes (so_far ++ middle) rest whole in
      subst (λ (f : List ℕ). StopsAt turns first f (drop (length bytes - length rest) bytes) stop new) (sym counts.0)
      (subst (λ (r : List ℕ). StopsAt turns first (so_far ++ middle) r stop new) (sym counts.1)
      (stops_later first old new so_far middle rest stop on stops))

  -- Fronts

  -- a line that has no form
  pub formless : (stage : Stage State Refusal) (bytes : List ℕ) (n : ℕ) (refusal : Refusal) → IsLine bytes (take n bytes) (drop (n + 1) bytes)
      → BeginsWithNone turns.IsInRange turns.spelling 10 bytes → refusal_at turns stage None ≡ Some refusal
      → RefusesNext turns stage bytes refusal
  formless stage bytes n refusal is none refused =
      let rest = drop (n + 1) bytes in
      inl (take n bytes, rest, is, (None, (λ line range same. none line rest (range, is.whole ∙ ap (λ (t : List ℕ). t ++ 10 ∷ rest) same)), refused))

  -- the text of what is refused, whatever follows
  pub last_front : (stage : Stage State Refusal) (rest text : List ℕ) (refusal : Refusal) → RefusesNext turns stage rest refusal
      → IsFrontText rest text → IsLastFront rest false text
  last_front stage rest text refusal refused (inl long) = inl long
  last_front stage rest text refusal (inl line) (inr (inl cut)) = absurd (IsLine-not_cut rest line.0 line.1 line.2 cut.0)
  last_front stage rest text refusal (inr long) (inr (inl cut)) = absurd (IsTooLong-not_cut rest long.0 cut.0)
  last_front stage rest text refusal refused (inr (inr whole)) = inr (inr whole)

  -- Where the bytes end

  -- some bytes after the end line
  pub ended_some : (state : State) (rest : List ℕ) → rest ≢ []
      → due_at_end turns state Ended rest ≡ refused_by turns state Ended (turns.usual Misplaced) rest
  ended_some state [] some = absurd (some refl)
  ended_some state (b ∷ rest) some = refl

  module _ (spelled : AreSpelled turns) where
    pub IsLine-spelling : (line : Line) → turns.IsInRange line → (rest : List ℕ)
        → IsLine (turns.spelling line ++ 10 ∷ rest) (turns.spelling line) rest
    IsLine-spelling line range rest = record { whole = refl; one = spelled.plain line range; short = spelled.short line range }

    -- a line at the front of some bytes
    pub line_is : (line : Line) (bytes rest : List ℕ) → Begins turns.IsInRange turns.spelling 10 bytes line rest
        → IsLine bytes (turns.spelling line) rest
    line_is line bytes rest is = subst (λ (b : List ℕ). IsLine b (turns.spelling line) rest) (sym is.1) (IsLine-spelling line is.0 rest)

    -- one that is not taken
    pub ends_at : (stage : Stage State Refusal) (bytes rest : List ℕ) (line : Line) (end : Option Refusal)
        → Begins turns.IsInRange turns.spelling 10 bytes line rest → EndsLine turns stage line end → EndsBytes turns stage bytes end
    ends_at stage bytes rest line (Some refusal) is refused =
        inl (turns.spelling line, rest, line_is line bytes rest is, (Some line, (is.0, refl), refused))
    ends_at stage bytes rest line None is names = (rest, record { line = line; begins = is; allowed = names.0; wants = names.1 })
