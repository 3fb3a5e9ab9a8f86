-- Bytes are not both a log and at fault in a line.
use Rattle.std.specs.List.{AllByRecursion}
use Rattle.std.proofs.Common.{◌≡◌, ◌≢◌, ℕ, ◌+◌, ◌^◌, ◌<◌, ◌⊎◌, Some, None, inl, inr, List, [], ◌∷◌, ◌++◌, length}
use Rattle.std.proofs.Common.{map, refl, sym, ap, subst, ◌∙◌, append-nil, append_assoc, arith}
use Rattle.std.proofs.{Common.{Option, IsSome, length-append}, lemmas.Bool.{false≢true}}
use Rattle.std.proofs.lemmas.Option.{none-some}
use Rattle.cap_bounds.specs.declared.decoding.Interval.{Interval}
use Rattle.cap_streams.specs.Front.{IsLine, FrontIs}
use Rattle.cap_streams.proofs.FrontLemmas.{IsLine-same, IsLine-not_too_long, IsLine-not_cut}
use Rattle.cap_heap.specs.declared.{events.Event.{Event, TheVariants.{Malloc, Free}}, lines.HeapLine.HeapLine}
use Rattle.cap_heap.specs.declared.lines.HeapLine.TheVariants.{Header, Root, Happens, End}
use Rattle.cap_heap.specs.{declared.refusal.HeapRefusal.HeapRefusal, Beginnings.objects_after, Events.Throughout}
use Rattle.cap_heap.specs.{Events.{RefusesEvent, after_event}, HeapLines.{IsHeapLineInRange, SpellsHeapLine}}
use Rattle.cap_heap.specs.{HeapLines.heap_spelling, HeapLogs.{IsHeapLogOf, IsFirstHeapFault, RefusesHeapLine}}
use Rattle.cap_heap.specs.{HeapLogs.{RefusesText, RefusesHeap, heap_text_of}, Objects.{Objects, no_objects, IsApart}}
use Rattle.cap_heap.proofs.{LineLemmas.{line-plain, line-short, one_spelling}, RunLemmas.{from, now}}
use Rattle.cap_heap.proofs.Objects.{with_object-at, with_object-other}

-- a line at the front of some bytes
is_line : (line : HeapLine) → IsHeapLineInRange line → (rest : List ℕ) → IsLine (heap_spelling line ++ 10 ∷ rest) (heap_spelling line) rest
is_line line range rest = record { whole = refl; one = line-plain line range; short = line-short line range }

text_cons : (line : HeapLine) (lines : List HeapLine) (rest : List ℕ)
    → heap_text_of (line ∷ lines) ++ rest ≡ heap_spelling line ++ 10 ∷ (heap_text_of lines ++ rest)
text_cons line lines rest = simp (append_assoc)

-- texts that begin with lines in range begin with the same line, and go on alike
same_front : (line other : HeapLine) (more rest : List ℕ) → IsHeapLineInRange line → IsHeapLineInRange other
    → heap_spelling line ++ 10 ∷ more ≡ heap_spelling other ++ 10 ∷ rest → (line ≡ other) × (more ≡ rest)
same_front line other more rest range range' same =
    let both = IsLine-same _ (heap_spelling line) more (heap_spelling other) rest (is_line line range more)
    (subst (λ (bytes : List ℕ). IsLine bytes (heap_spelling other) rest) (sym same) (is_line other range' rest)) in
    (one_spelling (heap_spelling line) line other (range, refl) (range', both.0), both.1)

-- lines at the front of a text of lines are its first lines
record BeginsWith (lines more : List HeapLine) (rest : List ℕ) : Type 0 where
  tail : List HeapLine
  lines_are : lines ≡ more ++ tail
  rest_is : rest ≡ heap_text_of tail
  tail_range : AllByRecursion IsHeapLineInRange tail

first_lines : (lines more : List HeapLine) (rest : List ℕ) → AllByRecursion IsHeapLineInRange lines → AllByRecursion IsHeapLineInRange more
    → heap_text_of more ++ rest ≡ heap_text_of lines → BeginsWith lines more rest
first_lines lines [] rest range range' same = record { tail = lines; lines_are = refl; rest_is = same; tail_range = range }
first_lines [] (line ∷ more) rest range range' same =
    let long = ap length (sym (text_cons line more rest) ∙ same) in
    absurd (omega (arith, long, length-append (heap_spelling line) (10 ∷ (heap_text_of more ++ rest))))
first_lines (first ∷ lines) (line ∷ more) rest range range' same =
    let both = same_front line first _ _ range'.0 range.0
    (sym (text_cons line more rest) ∙ same ∙ sym (append-nil _) ∙ text_cons first lines []) in
    let next = first_lines lines more rest range.1 range'.1 (both.1 ∙ append-nil (heap_text_of lines)) in
    record {
      tail = next.tail;
      lines_are = ap (λ (l : HeapLine). l ∷ lines) (sym both.0) ∙ ap (λ (ls : List HeapLine). line ∷ ls) next.lines_are;
      rest_is = next.rest_is;
      tail_range = next.tail_range;
    }

-- the line at the front of a text of lines
front_line : (line : HeapLine) (lines : List HeapLine) (rest : List ℕ) → rest ≡ heap_text_of (line ∷ lines) → IsHeapLineInRange line
    → IsLine rest (heap_spelling line) (heap_text_of lines ++ [])
front_line line lines rest is range =
    subst (λ (bytes : List ℕ). IsLine bytes (heap_spelling line) (heap_text_of lines ++ []))
    (sym (is ∙ sym (append-nil (heap_text_of (line ∷ lines))) ∙ text_cons line lines [])) (is_line line range (heap_text_of lines ++ []))

-- what refuses a rest refuses the line at its front
front_refuses : (root : Interval) (events : List Event) (due line : HeapLine) (lines : List HeapLine) (rest : List ℕ) (refusal : HeapRefusal)
    → rest ≡ heap_text_of (line ∷ lines) → IsHeapLineInRange line
    → FrontIs rest (refusal ≡ HeapRefusal.LineTooLong) (refusal ≡ HeapRefusal.Truncated) (RefusesText root events due refusal)
    → RefusesText root events due refusal (heap_spelling line)
front_refuses root events due line lines rest refusal is range (inl long) =
    absurd (IsLine-not_too_long rest (heap_spelling line) (heap_text_of lines ++ []) (front_line line lines rest is range) long.0)
front_refuses root events due line lines rest refusal is range (inr (inl cut)) =
    absurd (IsLine-not_cut rest (heap_spelling line) (heap_text_of lines ++ []) (front_line line lines rest is range) cut.0)
front_refuses root events due line lines rest refusal is range (inr (inr h)) =
    subst (λ (t : List ℕ). RefusesText root events due refusal t)
    (IsLine-same rest h.0 h.1 (heap_spelling line) (heap_text_of lines ++ []) h.2 (front_line line lines rest is range)).0 h.3

-- a line of a form is refused as that
text_refuses : (Holds : HeapLine → Type 0) (line : HeapLine) (refusal : HeapRefusal) → IsHeapLineInRange line
    → ((((other : HeapLine) → SpellsHeapLine (heap_spelling line) other → ⊥) × (refusal ≡ HeapRefusal.BadLine))
    ⊎ ((other : HeapLine) × SpellsHeapLine (heap_spelling line) other × Holds other)) → Holds line
text_refuses Holds line refusal range (inl none) = absurd (none.0 line (range, refl))
text_refuses Holds line refusal range (inr found) = subst Holds (one_spelling (heap_spelling line) found.0 line found.1 (range, refl)) found.2

none_is_some : (o : Option ℕ) → o ≡ None → IsSome o → ⊥
none_is_some None is some = absurd (false≢true some)
none_is_some (Some n) is some = none-some n (sym is)

-- an event that happens in a log is no fault
no_fault : (root : Interval) (objects : Objects) (event : Event) (more : List Event) (refusal : HeapRefusal)
    → Throughout (IsApart root) objects (event ∷ more) → RefusesEvent root objects event refusal → ⊥
no_fault root objects (Malloc at size) more HeapRefusal.AddressTaken all fault = none_is_some (objects at) all.1 fault
no_fault root objects (Malloc at size) more HeapRefusal.OutsideHeap all fault =
    fault.1 ((now (IsApart root) (after_event objects (Malloc at size)) more all.2).inside at size (with_object-at objects at size))
no_fault root objects (Malloc at size) more HeapRefusal.Overlaps all (fresh, within, other, length, shares) =
    let apart = now (IsApart root) (after_event objects (Malloc at size)) more all.2 in
    let differ : at ≢ other = λ same. none-some length (sym fresh ∙ ap objects same ∙ shares.0) in
    apart.apart at other size length (with_object-at objects at size) differ
    (with_object-other objects at size other differ ∙ shares.0, shares.1, shares.2, shares.3, shares.4, shares.5)
no_fault root objects (Malloc at size) more refusal all fault = absurd fault
no_fault root objects (Free at) more refusal all fault = none_is_some (objects at) fault.1 all.1

-- lines that begin with those of some events go on with their end, or with one event more
abbrev GoesOn : List Event → List Event → ℕ → List HeapLine → Type 0
GoesOn events first n tail =
    ((events ≡ first) × (tail ≡ End n ∷ []))
    ⊎ ((event : Event) × (more : List Event) × (events ≡ first ++ event ∷ more) × (tail ≡ Happens event ∷ (map Happens more ++ End n ∷ [])))

goes_on : (events first : List Event) (n : ℕ) (tail : List HeapLine) → map Happens events ++ End n ∷ [] ≡ map Happens first ++ tail
    → GoesOn events first n tail
goes_on [] [] n tail same = inl (refl, sym same)
goes_on (event ∷ events) [] n tail same = inr (event, events, refl, sym same)
goes_on [] (event ∷ first) n tail same = let no : ⊥ = cc in absurd no
goes_on (event ∷ events) (other ∷ first) n tail same =
    let one : event ≡ other = cc in
    let others : map Happens events ++ End n ∷ [] ≡ map Happens first ++ tail = cc in
    elim (goes_on events first n tail others) [
      | inl ended ↦ inl (cc (one, ended.0), ended.1)
      | inr more ↦ inr (more.0, more.1, cc (one, more.2), more.3)
    ]

-- lines at the front of those of events and an end line stop before an event, before the end line, or behind it
abbrev Splits : List Event → ℕ → List HeapLine → List HeapLine → Type 0
Splits events n before due =
    ((event : Event) × (first : List Event) × (later : List HeapLine) × (before ≡ map Happens first) × (due ≡ Happens event ∷ later))
    ⊎ ((before ≡ map Happens events) × (due ≡ End n ∷ []))
    ⊎ ((before ≡ map Happens events ++ End n ∷ []) × (due ≡ []))

splits : (events : List Event) (n : ℕ) (before due : List HeapLine) → before ++ due ≡ map Happens events ++ End n ∷ [] → Splits events n before due
splits [] n [] due same = inr (inl (refl, same))
splits [] n (line ∷ []) due same =
    let one : line ≡ End n = cc in
    let none : due ≡ [] = cc in
    inr (inr (ap (λ (l : HeapLine). l ∷ []) one, none))
splits [] n (line ∷ other ∷ before) due same = let no : ⊥ = cc in absurd no
splits (event ∷ events) n [] due same = inl (event, [], map Happens events ++ End n ∷ [], refl, same)
splits (event ∷ events) n (line ∷ before) due same =
    let one : line ≡ Happens event = cc in
    let others : before ++ due ≡ map Happens events ++ End n ∷ [] = cc in
    elim (splits events n before due others) [
      | inl next ↦ inl (next.0, event ∷ next.1, next.2, cc (one, next.3), next.4)
      | inr (inl next) ↦ inr (inl (cc (one, next.0), next.1))
      | inr (inr next) ↦ inr (inr (cc (one, next.0), next.1))
    ]

-- the end line of a log is in range, and so are the first ones of its lines
end_range : (events : List Event) (n : ℕ) → AllByRecursion IsHeapLineInRange (map Happens events ++ End n ∷ []) → n < 2 ^ 32
end_range [] n all = all.0
end_range (event ∷ events) n all = end_range events n all.1

range_front : (lines more : List HeapLine) → AllByRecursion IsHeapLineInRange (lines ++ more) → AllByRecursion IsHeapLineInRange lines
range_front [] more all = tt
range_front (line ∷ lines) more all = (all.0, range_front lines more all.1)

one_root : (a b : Interval) → Root a ≡ Root b → a ≡ b
one_root a b same = cc

module _ (root : Interval) (events : List Event) (all : Throughout (IsApart root) no_objects events) (few : length events < 2 ^ 32)
    (refusal : HeapRefusal) where
  -- no event of a log is refused
  not_refused : (first more : List Event) (event : Event) (n : ℕ) → events ≡ first ++ event ∷ more
      → RefusesHeapLine root first (End n) (Happens event) refusal → ⊥
  not_refused first more event n are (inl passed) = omega (arith, passed.0, few, ap length are, length-append first (event ∷ more))
  not_refused first more event n are (inr fault) =
      no_fault root (objects_after no_objects first) event more refusal
      (from (IsApart root) no_objects first (event ∷ more) (subst (Throughout (IsApart root) no_objects) are all)) fault.1

  -- what stands in a log behind events of another that ends there is not refused
  body_end : (first : List Event) (tail : List HeapLine) (rest : List ℕ) → GoesOn events first (length events) tail → rest ≡ heap_text_of tail
      → AllByRecursion IsHeapLineInRange tail → RefusesHeap root first (End (length first) ∷ []) rest refusal → ⊥
  body_end first tail rest (inl ended) is range refused =
      let here = subst (λ (ls : List HeapLine). rest ≡ heap_text_of ls) ended.1 is in
      let fits = subst (AllByRecursion IsHeapLineInRange) ended.1 range in
      let why = text_refuses (λ line. RefusesHeapLine root first (End (length first)) line refusal) (End (length events)) refusal fits.0
      (front_refuses root first (End (length first)) (End (length events)) [] rest refusal here fits.0 refused) in
      why.0 (ap length ended.0)
  body_end first tail rest (inr (event, more, are, tail_is)) is range refused =
      let here = subst (λ (ls : List HeapLine). rest ≡ heap_text_of ls) tail_is is in
      let fits = subst (AllByRecursion IsHeapLineInRange) tail_is range in
      let why = text_refuses (λ line. RefusesHeapLine root first (End (length first)) line refusal) (Happens event) refusal fits.0
      (front_refuses root first (End (length first)) (Happens event) (map Happens more ++ End (length events) ∷ []) rest refusal here fits.0 refused) in
      not_refused first more event (length first) are why

  -- nor what stands behind some of them
  body_amid : (others first : List Event) (event : Event) (later tail : List HeapLine) (rest : List ℕ) → GoesOn events first (length events) tail
      → rest ≡ heap_text_of tail → AllByRecursion IsHeapLineInRange tail → RefusesHeap root others (Happens event ∷ later) rest refusal → ⊥
  body_amid others first event later tail rest (inl ended) is range refused =
      let here = subst (λ (ls : List HeapLine). rest ≡ heap_text_of ls) ended.1 is in
      let fits = subst (AllByRecursion IsHeapLineInRange) ended.1 range in
      text_refuses (λ line. ⊥) (End (length events)) refusal fits.0
      (front_refuses root others (Happens event) (End (length events)) [] rest refusal here fits.0 refused)
  body_amid others first event later tail rest (inr (next, more, are, tail_is)) is range refused =
      let here = subst (λ (ls : List HeapLine). rest ≡ heap_text_of ls) tail_is is in
      let fits = subst (AllByRecursion IsHeapLineInRange) tail_is range in
      text_refuses (λ line. ⊥) (Happens next) refusal fits.0
      (front_refuses root others (Happens event) (Happens next) (map Happens more ++ End (length events) ∷ []) rest refusal here fits.0 refused)

  -- nor anything behind a log
  behind_end : (others : List Event) (tail : List HeapLine) (rest : List ℕ) → GoesOn events others (length events) (End (length others) ∷ tail)
      → rest ≡ heap_text_of tail → RefusesHeap root others [] rest refusal → ⊥
  behind_end others tail rest (inl ended) is refused =
      let same = ended.1 in
      let none : tail ≡ [] = cc in
      refused.0 (is ∙ ap heap_text_of none)
  behind_end others tail rest (inr more) is refused = let clashing = more.3 in let no : ⊥ = cc in absurd no

  behind_root : (others : List Event) (before due tail : List HeapLine) (rest : List ℕ) → Splits others (length others) before due
      → map Happens events ++ End (length events) ∷ [] ≡ before ++ tail → rest ≡ heap_text_of tail → AllByRecursion IsHeapLineInRange tail
      → RefusesHeap root others due rest refusal → ⊥
  behind_root others before due tail rest (inl (event, first, later, before_is, due_is)) same is range refused =
      body_amid others first event later tail rest
      (goes_on events first (length events) tail (same ∙ ap (λ (ls : List HeapLine). ls ++ tail) before_is)) is range
      (subst (λ (ls : List HeapLine). RefusesHeap root others ls rest refusal) due_is refused)
  behind_root others before due tail rest (inr (inl (before_is, due_is))) same is range refused =
      body_end others tail rest (goes_on events others (length events) tail (same ∙ ap (λ (ls : List HeapLine). ls ++ tail) before_is)) is range
      (subst (λ (ls : List HeapLine). RefusesHeap root others ls rest refusal) due_is refused)
  behind_root others before due tail rest (inr (inr (before_is, due_is))) same is range refused =
      behind_end others tail rest
      (goes_on events others (length events) (End (length others) ∷ tail)
      (same ∙ ap (λ (ls : List HeapLine). ls ++ tail) before_is ∙ append_assoc (map Happens others) (End (length others) ∷ []) tail))
      is (subst (λ (ls : List HeapLine). RefusesHeap root others ls rest refusal) due_is refused)

  behind : (start : Interval) (others : List Event) (before due tail : List HeapLine) (rest : List ℕ)
      → before ++ due ≡ Header ∷ Root start ∷ (map Happens others ++ End (length others) ∷ [])
      → Header ∷ Root root ∷ (map Happens events ++ End (length events) ∷ []) ≡ before ++ tail
      → rest ≡ heap_text_of tail → AllByRecursion IsHeapLineInRange tail → RefusesHeap start others due rest refusal → ⊥
  behind start others [] due tail rest are same is range refused =
      let here = subst (λ (ls : List HeapLine). rest ≡ heap_text_of ls) (sym same) is in
      (front_refuses start others Header Header (Root root ∷ (map Happens events ++ End (length events) ∷ [])) rest refusal here tt
      (subst (λ (ls : List HeapLine). RefusesHeap start others ls rest refusal) are refused)).0 (tt, refl)
  behind start others (first ∷ []) due tail rest are same is range refused =
      let due_is : due ≡ Root start ∷ (map Happens others ++ End (length others) ∷ []) = cc in
      let tail_is : tail ≡ Root root ∷ (map Happens events ++ End (length events) ∷ []) = cc in
      let here = subst (λ (ls : List HeapLine). rest ≡ heap_text_of ls) tail_is is in
      let fits = subst (AllByRecursion IsHeapLineInRange) tail_is range in
      let why = text_refuses (λ line. RefusesHeapLine start others (Root start) line refusal) (Root root) refusal fits.0
      (front_refuses start others (Root start) (Root root) (map Happens events ++ End (length events) ∷ []) rest refusal here fits.0
      (subst (λ (ls : List HeapLine). RefusesHeap start others ls rest refusal) due_is refused)) in
      why.0 root refl
  behind start others (first ∷ second ∷ before) due tail rest are same is range refused =
      let root_is : Root start ≡ Root root = cc in
      let ours : before ++ due ≡ map Happens others ++ End (length others) ∷ [] = cc in
      let theirs : map Happens events ++ End (length events) ∷ [] ≡ before ++ tail = cc in
      behind_root others before due tail rest (splits others (length others) before due ours) theirs is range
      (subst (λ (r : Interval). RefusesHeap r others due rest refusal) (one_root start root root_is) refused)

-- the text of a log is at fault in no line
pub not_both : (lines : List HeapLine) (root : Interval) (events : List Event) → IsHeapLogOf IsApart lines root events → (number : ℕ)
    (refusal : HeapRefusal) → IsFirstHeapFault (heap_text_of lines) number refusal → ⊥
not_both lines root events (are, range, all) number refusal (start, others, before, due, rest, log, bytes_are, number_is, refused) =
    let ranges = subst (AllByRecursion IsHeapLineInRange) are range in
    let first = first_lines lines before rest range (range_front before due log.1) (sym bytes_are) in
    behind root events all (end_range events (length events) ranges.1.1) refusal start others before due first.tail rest log.0
    (sym are ∙ first.lines_are) first.rest_is first.tail_range refused
