-- Allocators' logs, and the first fault of bytes that are none. All of it is this profile's own.
use Rattle.std.specs.Prelude.{◌≡◌, ◌≢◌, ℕ, ◌+◌, ◌-◌, ◌^◌, ◌<◌, ◌⊎◌, None, List, [], ◌∷◌, ◌++◌, length, map, flat_map}
use Rattle.std.specs.{Prelude.fold, List.AllByRecursion}
use Rattle.cap_bounds.specs.declared.decoding.Interval.{Interval}
use Rattle.cap_streams.specs.Front.{FrontIs}
use Rattle.cap_heap.specs.declared.{events.Event.Event, lines.HeapLine.HeapLine}
use Rattle.cap_heap.specs.declared.lines.HeapLine.TheVariants.{Header, Root, Happens, End}
use Rattle.cap_heap.specs.declared.refusal.HeapRefusal.{HeapRefusal, TheVariants.{BadHeader, LineTooLong, BadLine}}
use Rattle.cap_heap.specs.declared.refusal.HeapRefusal.TheVariants.{Misplaced, Truncated, WrongCount, LimitPassed}
use Rattle.cap_heap.specs.{Events.{Throughout, RefusesEvent, after_event}, HeapLines.IsHeapLineInRange}
use Rattle.cap_heap.specs.{HeapLines.{SpellsHeapLine, heap_spelling}, Objects.{Objects, IsApart, CanBeGuarded}}

-- the text of lines: each line's spelling and a line feed
abbrev pub heap_text_of : List HeapLine → List ℕ
heap_text_of lines = flat_map (λ line. heap_spelling line ++ 10 ∷ []) lines

-- the lines are a log of these events inside this root: they keep to the grammar, each object comes to live where none
-- lives and is freed where it lives, and at every moment a fact holds of the root and the live objects
abbrev pub IsHeapLogOf : (Interval → Objects → Type 0) → List HeapLine → Interval → List Event → Type 0
IsHeapLogOf Fact lines root events = (lines ≡ Header ∷ Root root ∷ (map Happens events ++ End (length events) ∷ []))
    × AllByRecursion IsHeapLineInRange lines × Throughout (Fact root) (λ address. None) events

-- the bytes are a log to each of whose live objects, at every moment, a sound word can be given whose bounds hold it,
-- such that these lie apart and inside the root
abbrev pub CanBeGuardedThroughout : List ℕ → Type 0
CanBeGuardedThroughout bytes =
    (lines : List HeapLine) × (root : Interval) × (events : List Event) × (bytes ≡ heap_text_of lines) × IsHeapLogOf CanBeGuarded lines root events

-- why a line is refused behind these events where a log goes on with another one, a root or its end: the limit is
-- checked before an event
abbrev pub RefusesHeapLine : Interval → List Event → HeapLine → HeapLine → HeapRefusal → Type 0
RefusesHeapLine root events (Root bounds) line refusal = ((other : Interval) → line ≢ Root other) × (refusal ≡ Misplaced)
RefusesHeapLine root events (End count) (Happens event) refusal = ((length events ≡ 2 ^ 32 - 1) × (refusal ≡ LimitPassed))
    ⊎ ((length events < 2 ^ 32 - 1) × RefusesEvent root (fold after_event (λ address. None) events) event refusal)
RefusesHeapLine root events (End count) (End other) refusal = (other ≢ count) × (refusal ≡ WrongCount)
RefusesHeapLine root events (End count) line refusal = refusal ≡ Misplaced
RefusesHeapLine root events due line refusal = ⊥

-- why the text of a line is refused there: it has no form, or one that is refused
abbrev pub RefusesText : Interval → List Event → HeapLine → HeapRefusal → List ℕ → Type 0
RefusesText root events Header refusal text = (SpellsHeapLine text Header → ⊥) × (refusal ≡ BadHeader)
RefusesText root events due refusal text = (((line : HeapLine) → SpellsHeapLine text line → ⊥) × (refusal ≡ BadLine))
    ⊎ ((line : HeapLine) × SpellsHeapLine text line × RefusesHeapLine root events due line refusal)

-- why bytes are refused where a log goes on with these lines: after its end any byte is misplaced; before it the front
-- is too long, or cut, or a whole line that is refused
abbrev pub RefusesHeap : Interval → List Event → List HeapLine → List ℕ → HeapRefusal → Type 0
RefusesHeap root events [] rest refusal = (rest ≢ []) × (refusal ≡ Misplaced)
RefusesHeap root events (due ∷ later) rest refusal = FrontIs rest (refusal ≡ LineTooLong) (refusal ≡ Truncated) (RefusesText root events due refusal)

-- the bytes are the text of the first lines of a log, and then, where it goes on with lines that are due, a rest that
-- is refused: the line behind the first ones is at fault
abbrev pub IsFirstHeapFault : List ℕ → ℕ → HeapRefusal → Type 0
IsFirstHeapFault bytes number refusal = (root : Interval) × (events : List Event) × (before : List HeapLine) × (due : List HeapLine) × (rest : List ℕ)
    × IsHeapLogOf IsApart (before ++ due) root events × (bytes ≡ heap_text_of before ++ rest) × (number ≡ length before + 1)
    × RefusesHeap root events due rest refusal
