-- What a progress stands for, and how it goes on.
use Rattle.std.proofs.Common.{◌≡◌, ◌⊎◌, ℕ, ◌+◌, inl, inr, List, [], ◌∷◌, ◌++◌, length, map, append-nil, codes, refl}
use Rattle.std.proofs.Common.{sym, ap, subst, ◌∙◌, arith, Result, Ok, Err, OnOk, OnErr, IfErr}
use Rattle.cap_bounds.specs.declared.decoding.Interval.{Interval}
use Rattle.cap_heap.specs.declared.events.{Event.Event, EventEnd.{EventEnd, TheVariants.{Refused, NoMemory}}}
use Rattle.cap_heap.specs.declared.{heap.Heap.Heap, lines.HeapLine.{HeapLine, TheVariants.{Root, Happens, End}}}
use Rattle.cap_heap.specs.declared.{progress.Progress.Progress, report.HeapReport.HeapReport, log_parts.LogPart.LogPart}
use Rattle.cap_heap.specs.Beginnings.{Beginning, Nothing, Headed, Body, Whole, lines_of, due_of, body_lines}
use Rattle.cap_heap.specs.{Beginnings.RefusesWhole, HeapLines.{IsHeapLineInRange, SpellsHeapLine}}
use Rattle.cap_heap.specs.{HeapReports.IsReportOf, HeapWhys.{count_in, due_text}, Heaps.{objects_in, live_in}}
use Rattle.cap_heap.specs.Objects.{no_objects}
use Rattle.cap_heap.specs.Progresses.{Reaches, StandsFor, Stays, Takes, EndsLine, EndsText, LacksMemory}
use Rattle.cap_heap.proofs.RunLemmas.{Reaches-start, lines-push}

-- after the root there is a body
record IsBody (progress : Progress) (beginning : Beginning) : Type 0 where
  root : Interval
  events : List Event
  is : Body root events ≡ beginning
  reaches : Reaches progress.heap progress.report progress.events root events

body : (progress : Progress) → progress.stage ≡ LogPart.Within → (beginning : Beginning) → StandsFor progress beginning → IsBody progress beginning
body progress within Nothing h = let no : ⊥ = cc in absurd no
body progress within Headed h = let no : ⊥ = cc in absurd no
body progress within (Body root events) h = record { root = root; events = events; is = refl; reaches = h.1 }
body progress within (Whole root events) h = let bad = h.0 in let no : ⊥ = cc in absurd no

headed : (progress : Progress) → progress.stage ≡ LogPart.Headed → (beginning : Beginning) → StandsFor progress beginning → Headed ≡ beginning
headed progress is Nothing h = let no : ⊥ = cc in absurd no
headed progress is Headed h = refl
headed progress is (Body root events) h = let bad = h.0 in let no : ⊥ = cc in absurd no
headed progress is (Whole root events) h = let bad = h.0 in let no : ⊥ = cc in absurd no

stays_for : (old new : Progress) → new.stage ≡ old.stage
    → ((root : Interval) (events : List Event) → Reaches old.heap old.report old.events root events
    → Reaches new.heap new.report new.events root events)
    → Stays old new
stays_for old new same told Nothing stands = same ∙ stands
stays_for old new same told Headed stands = same ∙ stands
stays_for old new same told (Body root events) stands = (same ∙ stands.0, told root events stands.1)
stays_for old new same told (Whole root events) stands = (same ∙ stands.0, told root events stands.1)

-- the lines of events are as many as these
count_events : (events : List Event) (later : List HeapLine) → count_in (map Happens events ++ later) ≡ length events + count_in later
count_events [] later = omega arith
count_events (event ∷ events) later = let rest = count_events events later in omega (arith, rest)

-- behind the root, as many events were counted as the lines so far have
pub counted : (progress : Progress) (beginning : Beginning) → (progress.stage ≡ LogPart.Within) ⊎ (progress.stage ≡ LogPart.Ended)
    → StandsFor progress beginning → progress.events ≡ count_in (lines_of beginning)
counted progress Nothing (inl within) h = let no : ⊥ = cc in absurd no
counted progress Nothing (inr ended) h = let no : ⊥ = cc in absurd no
counted progress Headed (inl within) h = let no : ⊥ = cc in absurd no
counted progress Headed (inr ended) h = let no : ⊥ = cc in absurd no
counted progress (Body root events) stage h =
    let all = ap count_in (append-nil (map Happens events)) in
    let are = count_events events [] in
    let have = h.1.count_is in
    let same : progress.events ≡ count_in (map Happens events) = omega (arith, all, are, have) in same
counted progress (Whole root events) stage h =
    let are = count_events events (End (length events) ∷ []) in
    let have = h.1.count_is in
    let same : progress.events ≡ count_in (map Happens events ++ End (length events) ∷ []) = omega (arith, are, have) in same

-- an event more
pub takes_event : {X : Type 0} (old new : Progress) (event : Event) → old.stage ≡ LogPart.Within → new.stage ≡ old.stage
    → (result : Result X EventEnd)
    → OnOk result ((root : Interval) (events : List Event) → Reaches old.heap old.report old.events root events
    → Reaches new.heap new.report new.events root (events ++ event ∷ []))
    → OnOk result (Takes old (Happens event) new)
takes_event old new event within same (Err end) told = tt
takes_event old new event within same (Ok done) told = λ beginning stands.
    let here = body old within beginning stands in (
      Body here.root (here.events ++ event ∷ []),
      (same ∙ within, told here.root here.events here.reaches),
      lines-push here.root here.events event
          ∙ ap (λ (b : Beginning). lines_of b ++ Happens event ∷ []) here.is,
    )

-- an event that can't happen leaves what the progress stands for
pub stays_event : {X : Type 0} (old new : Progress) → new.stage ≡ old.stage → (result : Result X EventEnd)
    → OnErr result ((root : Interval) (events : List Event) → Reaches old.heap old.report old.events root events
    → Reaches new.heap new.report new.events root events)
    → OnErr result (Stays old new)
stays_event old new same (Ok done) told = tt
stays_event old new same (Err end) told = λ beginning stands. stays_for old new same told beginning stands

-- the end line more
pub takes_end : (old new : Progress) (count : ℕ) → old.stage ≡ LogPart.Within → new.stage ≡ LogPart.Ended → new.heap ≡ old.heap
    → new.report ≡ old.report → new.events ≡ old.events → count ≡ old.events → Takes old (End count) new
takes_end old new count within ended same same_report same_events is beginning stands =
    let here = body old within beginning stands in
    let reaches = subst (λ (heap : Heap). Reaches heap new.report new.events here.root here.events) (sym same)
    (subst (λ (report : HeapReport). Reaches old.heap report new.events here.root here.events) (sym same_report)
    (subst (λ (events : ℕ). Reaches old.heap old.report events here.root here.events) (sym same_events) here.reaches)) in (
      Whole here.root here.events,
      (ended, reaches),
      ap (λ (n : ℕ). body_lines here.root here.events ++ End n ∷ []) (sym (is ∙ here.reaches.count_is))
          ∙ ap (λ (b : Beginning). lines_of b ++ End count ∷ []) here.is,
    )

-- the root more
pub takes_root : (old new : Progress) (bounds : Interval) → old.stage ≡ LogPart.Headed → new.stage ≡ LogPart.Within → new.events ≡ 0
    → IsHeapLineInRange (Root bounds) → new.heap.bounds ≡ bounds → objects_in new.heap ≡ no_objects → live_in new.heap ≡ 0
    → IsReportOf new.report [] → Takes old (Root bounds) new
takes_root old new bounds is within none range same objects live reported beginning stands = (
  Body bounds [],
  (
    within,
    subst (λ (events : ℕ). Reaches new.heap new.report events bounds []) (sym none)
        (Reaches-start new.heap new.report bounds range same objects live reported),
  ),
  ap (λ (b : Beginning). lines_of b ++ Root bounds ∷ []) (headed old is beginning stands),
)

-- a line after the root is not taken
pub ends_within : {X : Type 0} (progress : Progress) (text : List ℕ) (line : HeapLine) → progress.stage ≡ LogPart.Within → SpellsHeapLine text line
    → (result : Result X EventEnd)
    → IfErr result (λ end. (root : Interval) (events : List Event) → Reaches progress.heap progress.report progress.events root events
    → EndsLine root events line end)
    → IfErr result (EndsText progress text)
ends_within progress text line within spells (Ok done) told = tt
ends_within progress text line within spells (Err (Refused refusal)) told = λ beginning stands.
    let here = body progress within beginning stands in
    subst (λ (b : Beginning). RefusesWhole b text refusal) here.is (inr (line, spells, told here.root here.events here.reaches))
ends_within progress text line within spells (Err NoMemory) told = λ beginning stands.
    let here = body progress within beginning stands in
    subst (λ (b : Beginning). LacksMemory b text) here.is (line, spells, told here.root here.events here.reaches)

-- which lines may come: a root once the header was read, and else others
pub due_headed : (progress : Progress) (beginning : Beginning) → progress.stage ≡ LogPart.Headed → StandsFor progress beginning
    → codes "root BASE TOP, the bounds of the heap" ≡ due_text (due_of beginning)
due_headed progress beginning is stands = subst (λ (b : Beginning). codes "root BASE TOP, the bounds of the heap" ≡ due_text (due_of b)) (headed progress is beginning stands) refl

pub due_other : (progress : Progress) (beginning : Beginning) → (progress.stage ≡ LogPart.Headed → ⊥) → StandsFor progress beginning
    → codes "malloc, free or one end line, and nothing after it" ≡ due_text (due_of beginning)
due_other progress Nothing other stands = refl
due_other progress Headed other stands = absurd (other stands)
due_other progress (Body root events) other stands = refl
due_other progress (Whole root events) other stands = refl
