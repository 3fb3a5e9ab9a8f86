-- What is told of a line for its refusal.
use Rattle.std.proofs.Common.{◌≡◌, ◌≢◌, ◌⊎◌, ℕ, inl, inr, List, refl, sym, subst}
use Rattle.cap_bounds.specs.declared.decoding.Interval.{Interval}
use Rattle.cap_heap.specs.declared.{events.Event.{Event, TheVariants.Malloc}, lines.HeapLine.HeapLine}
use Rattle.cap_heap.specs.declared.{lines.HeapLine.TheVariants.Happens, refusal.HeapRefusal.HeapRefusal}
use Rattle.cap_heap.specs.declared.refusal.HeapRefusal.TheVariants.{Misplaced, WrongCount, LimitPassed}
use Rattle.cap_heap.specs.{declared.refusal.HeapRefusal.TheVariants.OutsideHeap, HeapLines.SpellsHeapLine}
use Rattle.cap_heap.specs.{HeapWhys.{AreHeapDetails, AreEventDetails, count_in, counted_lines}, Objects.Objects}
use Rattle.cap_heap.proofs.LineLemmas.{one_spelling}

-- no event is spelled where another line is
pub no_event : (text : List ℕ) (line : HeapLine) → SpellsHeapLine text line → ((event : Event) → line ≢ Happens event)
    → (event : Event) → SpellsHeapLine text (Happens event) → ⊥
no_event text line spells other event spells' = other event (one_spelling text line (Happens event) spells spells')

-- the details of a request that is refused for another reason than that it lies outside the heap
pub other_details : (heap : Interval) (objects : Objects) (at size : ℕ) (refusal other : HeapRefusal) (details : List ℕ)
    → (refusal ≡ OutsideHeap → ⊥) → (other ≡ Misplaced) → AreEventDetails heap objects (Malloc at size) other details
    → AreEventDetails heap objects (Malloc at size) refusal details
other_details heap objects at size OutsideHeap other details differs is told = absurd (differs refl)
other_details heap objects at size refusal other details differs is told =
    subst (λ (r : HeapRefusal). AreEventDetails heap objects (Malloc at size) r details) is told

-- the details of a line whose refusal is decided by how many events there were
pub count_details : (root : Interval) (events : List Event) (before due : List HeapLine) (text : List ℕ) (refusal : HeapRefusal) (details : List ℕ)
    → (refusal ≡ Misplaced) ⊎ ((refusal ≡ WrongCount) ⊎ (refusal ≡ LimitPassed))
    → details ≡ counted_lines due refusal (count_in before) → AreHeapDetails root events before due text refusal details
count_details root events before due text refusal details (inl e) is =
    subst (λ (r : HeapRefusal). details ≡ counted_lines due r (count_in before) → AreHeapDetails root events before due text r details) (sym e)
    (λ same. same) is
count_details root events before due text refusal details (inr (inl e)) is =
    subst (λ (r : HeapRefusal). details ≡ counted_lines due r (count_in before) → AreHeapDetails root events before due text r details) (sym e)
    (λ same. same) is
count_details root events before due text refusal details (inr (inr e)) is =
    subst (λ (r : HeapRefusal). details ≡ counted_lines due r (count_in before) → AreHeapDetails root events before due text r details) (sym e)
    (λ same. same) is
