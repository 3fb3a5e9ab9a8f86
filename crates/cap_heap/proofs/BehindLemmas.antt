-- What is told of an event behind a beginning, by what its judge has read.
use Rattle.std.proofs.Common.{◌≡◌, ◌⊎◌, ℕ, List, [], ◌∷◌, length, refl, subst, fold}
use Rattle.cap_bounds.specs.declared.decoding.Interval.{Interval}
use Rattle.cap_heap.specs.declared.{events.Event.Event, lines.HeapLine.{HeapLine, TheVariants.{Happens, End}}}
use Rattle.cap_heap.specs.declared.{progress.Progress.Progress, refusal.HeapRefusal.HeapRefusal}
use Rattle.cap_heap.specs.declared.refusal.HeapRefusal.TheVariants.{BadHeader, LineTooLong, BadLine, Misplaced}
use Rattle.cap_heap.specs.declared.refusal.HeapRefusal.TheVariants.{Truncated, WrongCount, LimitPassed}
use Rattle.cap_heap.specs.declared.log_parts.LogPart.{LogPart}
use Rattle.cap_heap.specs.Beginnings.{Beginning, Nothing, Headed, Body, Whole, AreDetailsBehind, lines_of}
use Rattle.cap_heap.specs.{Events.after_event, HeapLines.SpellsHeapLine, HeapWhys.{AreHeapDetails, AreEventDetails}}
use Rattle.cap_heap.specs.{Heaps.objects_in, Objects.{Objects, no_objects}, Progresses.{AreEventDetailsIn, StandsFor}}

-- a refusal that a test of an event decides
pub record IsOfEvent (refusal : HeapRefusal) : Type 0 where
  pub no_header : refusal ≡ BadHeader → ⊥
  pub short : refusal ≡ LineTooLong → ⊥
  pub formed : refusal ≡ BadLine → ⊥
  pub placed : refusal ≡ Misplaced → ⊥
  pub whole : refusal ≡ Truncated → ⊥
  pub counted : refusal ≡ WrongCount → ⊥
  pub few : refusal ≡ LimitPassed → ⊥

-- what is told of a line by its event
abbrev pub OfEvent : Interval → Objects → List ℕ → HeapRefusal → List ℕ → Type 0
OfEvent root objects text refusal details =
    ((event : Event) × SpellsHeapLine text (Happens event) × AreEventDetails root objects event refusal details)
    ⊎ (((event : Event) → SpellsHeapLine text (Happens event) → ⊥) × (details ≡ []))

event_details : (root : Interval) (events : List Event) (before : List HeapLine) (text : List ℕ) (refusal : HeapRefusal) (details : List ℕ)
    → IsOfEvent refusal → OfEvent root (fold after_event no_objects events) text refusal details
    → AreHeapDetails root events before (End (length events) ∷ []) text refusal details
event_details root events before text BadHeader details is told = absurd (is.no_header refl)
event_details root events before text LineTooLong details is told = absurd (is.short refl)
event_details root events before text BadLine details is told = absurd (is.formed refl)
event_details root events before text Misplaced details is told = absurd (is.placed refl)
event_details root events before text Truncated details is told = absurd (is.whole refl)
event_details root events before text WrongCount details is told = absurd (is.counted refl)
event_details root events before text LimitPassed details is told = absurd (is.few refl)
event_details root events before text refusal details is told = told

pub behind : (progress : Progress) (beginning : Beginning) (text : List ℕ) (refusal : HeapRefusal) (details : List ℕ)
    → progress.stage ≡ LogPart.Within → StandsFor progress beginning → IsOfEvent refusal
    → AreEventDetailsIn progress.heap text refusal details → AreDetailsBehind beginning text refusal details
behind progress Nothing text refusal details within h is told = let no : ⊥ = cc in absurd no
behind progress Headed text refusal details within h is told = let no : ⊥ = cc in absurd no
behind progress (Body root events) text refusal details within h is told =
    event_details root events (lines_of (Body root events)) text refusal details is
    (subst (λ (objects : Objects). OfEvent root objects text refusal details) h.1.objects_are
    (subst (λ (bounds : Interval). OfEvent bounds (objects_in progress.heap) text refusal details) h.1.root_is told))
behind progress (Whole root events) text refusal details within h is told = let bad = h.0 in let no : ⊥ = cc in absurd no
