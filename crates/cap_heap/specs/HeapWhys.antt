-- The diagnosis after a `no`: the line that was refused, and what its checks saw (this profile's own, as are all below).
use Rattle.std.specs.Prelude.{◌≡◌, ◌⊎◌, ℕ, ◌+◌, Bool, ◌&&◌, nat_lt, if◌then◌else◌, List, [], ◌∷◌, ◌++◌, fold, Option}
use Rattle.std.specs.Prelude.{Some, None, MatchOption, codes, decimal}
use Rattle.cap_word.specs.Digits.{hex_digits}
use Rattle.cap_bounds.specs.{declared.decoding.Interval.Interval, Rounding.{rounded_base, rounded_top, alignment_of}}
use Rattle.cap_streams.specs.Front.{IsFrontText}
use Rattle.cap_texts.specs.{CapLines.bounds_line, ShownBytes.shown_line, TextLines.text_line, WrongLines.{cut_hint, hint_line}}
use Rattle.cap_heap.specs.declared.{events.Event.{Event, TheVariants.{Malloc, Free}}, lines.HeapLine.HeapLine}
use Rattle.cap_heap.specs.declared.{lines.HeapLine.TheVariants.{Happens, End, Root}, refusal.HeapRefusal.HeapRefusal}
use Rattle.cap_heap.specs.declared.refusal.HeapRefusal.TheVariants.{BadHeader, LineTooLong, BadLine, Misplaced}
use Rattle.cap_heap.specs.declared.refusal.HeapRefusal.TheVariants.{Truncated, WrongCount, LimitPassed, OutsideHeap}
use Rattle.cap_heap.specs.{BadLines.{AreBadLines, AreFirstLines}, Events.after_event, HeapLines.SpellsHeapLine}
use Rattle.cap_heap.specs.{HeapLogs.IsFirstHeapFault, Objects.{Objects, no_objects, Shares, LieApart}}

-- how many events there were
unfoldable pub count_line : ℕ → List ℕ
count_line count = text_line (codes "events") (decimal count)

-- the bounds that a request asks for, and those that it gets
unfoldable pub request_lines : List ℕ → ℕ → ℕ → List ℕ
request_lines name at size =
    bounds_line name (codes "request ") at (at + size) ++ bounds_line name (codes "rounded ") (rounded_base at size) (rounded_top at size)

-- the live object that overlaps it, where there is one
abbrev pub live_lines : Option (ℕ × ℕ) → List ℕ
live_lines None = []
live_lines (Some entry) = request_lines (codes "live ") entry.0 entry.1

-- what would be right: the length, and what addresses are multiples of
unfoldable pub right_lines : ℕ → List ℕ
right_lines size = text_line (codes "length") (hex_digits 17 (rounded_top 0 size)) ++ text_line (codes "alignment") (hex_digits 17 (alignment_of size))

-- the two requests themselves have an address in common
abbrev pub share_bytes : ℕ → ℕ → ℕ × ℕ → Bool
share_bytes at size entry = nat_lt at (entry.0 + entry.1) && nat_lt entry.0 (at + size)

-- the length that would be right for the live object, and what its address would be a multiple of
unfoldable pub live_right_lines : ℕ → List ℕ
live_right_lines size =
    text_line (codes "live length") (hex_digits 17 (rounded_top 0 size)) ++ text_line (codes "live alignment") (hex_digits 17 (alignment_of size))

-- what would keep a request apart from the live object: that its bounds are exact too; or nothing, where both share
-- bytes
abbrev pub apart_lines : ℕ → ℕ → Option (ℕ × ℕ) → List ℕ
apart_lines at size None = []
apart_lines at size (Some entry) =
    if share_bytes at size entry
    then text_line (codes "hint") (codes "the two objects share bytes: no bounds keep them apart")
    else live_right_lines entry.1

-- what freeing an address means that no live object begins at: one may have it in its bounds
abbrev pub free_hint : Option (ℕ × ℕ) → List ℕ
free_hint None = codes "no live object has this address: it was freed before, or never handed out"
free_hint (Some entry) = codes "the address lies in a live object: free takes its first one"

-- what is told of an address that is freed in vain among these objects: the live object that has it in its bounds, where
-- one has
abbrev pub AreFreeDetails : Objects → ℕ → List ℕ → Type 0
AreFreeDetails objects at details =
    (found : Option (ℕ × ℕ))
    × MatchOption found ((other length : ℕ) → objects other ≡ Some length → LieApart at 1 other length)
    (λ entry. Shares rounded_base rounded_top objects at 1 entry.0 entry.1)
    × (details ≡ live_lines found ++ text_line (codes "hint") (free_hint found))

-- what is told of an event that is refused among these objects: of a request its bounds, of one outside the heap the
-- heap's, of another a live object that has an address in common with it, where one has, and what would keep the two
-- apart
abbrev pub AreEventDetails : Interval → Objects → Event → HeapRefusal → List ℕ → Type 0
AreEventDetails heap objects (Free at) refusal details = AreFreeDetails objects at details
AreEventDetails heap objects (Malloc at size) OutsideHeap details =
    details ≡ request_lines [] at size ++ bounds_line (codes "root") (codes " ") heap.base heap.top ++ right_lines size
AreEventDetails heap objects (Malloc at size) refusal details =
    (found : Option (ℕ × ℕ))
    × MatchOption found ((other length : ℕ) → objects other ≡ Some length → LieApart at size other length)
    (λ entry. Shares rounded_base rounded_top objects at size entry.0 entry.1)
    × (details ≡ request_lines [] at size ++ live_lines found ++ right_lines size ++ apart_lines at size found)

-- how many of these lines are events
abbrev pub count_in : List HeapLine → ℕ
count_in [] = 0
count_in (Happens event ∷ lines) = count_in lines + 1
count_in (line ∷ lines) = count_in lines

-- which lines may come, where a log goes on with these
abbrev pub due_text : List HeapLine → List ℕ
due_text (Root bounds ∷ later) = codes "root BASE TOP, the bounds of the heap"
due_text due = codes "malloc, free or one end line, and nothing after it"

-- what has to come, after so many events
abbrev pub due_line : List HeapLine → HeapRefusal → ℕ → List ℕ
due_line due Misplaced count = text_line (codes "expected") (due_text due)
due_line due Truncated count = text_line (codes "expected") (codes "an end line, and a line feed after each line")
due_line due WrongCount count = text_line (codes "expected end") (decimal count)
due_line due refusal count = []

-- how many events there were, and what has to come
abbrev pub counted_lines : List HeapLine → HeapRefusal → ℕ → List ℕ
counted_lines due refusal count = count_line count ++ due_line due refusal count

-- what is told of a line after these events, for its refusal, where these lines come before it and a log goes on with
-- other lines: what is expected where it has no form, how many events come before it where that decides, and otherwise
-- what is told of its event
abbrev pub AreHeapDetails : Interval → List Event → List HeapLine → List HeapLine → List ℕ → HeapRefusal → List ℕ → Type 0
AreHeapDetails root events before due text BadHeader details = AreFirstLines text details
AreHeapDetails root events before due text LineTooLong details =
    details ≡ text_line (codes "expected") (codes "a line feed after at most 95 bytes")
AreHeapDetails root events before due text BadLine details = AreBadLines text details
AreHeapDetails root events before due text Misplaced details = details ≡ counted_lines due Misplaced (count_in before)
AreHeapDetails root events before due text Truncated details =
    details ≡ counted_lines due Truncated (count_in before) ++ hint_line (cut_hint text)
AreHeapDetails root events before due text WrongCount details = details ≡ counted_lines due WrongCount (count_in before)
AreHeapDetails root events before due text LimitPassed details = details ≡ counted_lines due LimitPassed (count_in before)
AreHeapDetails root events before (End count ∷ later) text refusal details =
    ((event : Event) × SpellsHeapLine text (Happens event) × AreEventDetails root (fold after_event no_objects events) event refusal details)
    ⊎ (((event : Event) → SpellsHeapLine text (Happens event) → ⊥) × (details ≡ []))
AreHeapDetails root events before due text refusal details = details ≡ []

-- the report of a first fault: of its root, its events, the lines before it, those that are due, and the line that its
-- rest begins with
pub record IsHeapReport (bytes : List ℕ) (number : ℕ) (refusal : HeapRefusal) (report : List ℕ) : Type 0 where
  pub fault : IsFirstHeapFault bytes number refusal
  pub text : List ℕ
  pub front : IsFrontText fault.4 text
  pub details : List ℕ
  pub are : AreHeapDetails fault.0 fault.1 fault.2 fault.3 text refusal details
  pub report_is : report ≡ shown_line text ++ details
