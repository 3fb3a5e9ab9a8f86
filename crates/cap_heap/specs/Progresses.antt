-- Which beginnings of a log the progress of its judge stands for, and how it goes on (this profile's own, as are all
-- below).
use Rattle.std.specs.Prelude.{◌≡◌, ◌⊎◌, ℕ, ◌+◌, ◌-◌, ◌^◌, ◌<◌, List, [], ◌∷◌, ◌++◌, length}
use Rattle.cap_bounds.specs.declared.decoding.Interval.{Interval}
use Rattle.cap_streams.specs.Front.{IsFrontText}
use Rattle.cap_heap.specs.declared.events.{Event.{Event, TheVariants.Malloc}, EventEnd.EventEnd}
use Rattle.cap_heap.specs.declared.{events.EventEnd.TheVariants.{Refused, NoMemory}, heap.Heap.Heap}
use Rattle.cap_heap.specs.declared.{lines.HeapLine.{HeapLine, TheVariants.{Happens, End}}, progress.Progress.Progress}
use Rattle.cap_heap.specs.declared.{refusal.HeapRefusal.HeapRefusal, report.HeapReport.HeapReport}
use Rattle.cap_heap.specs.Beginnings.{Beginning, Nothing, Headed, Body, Whole, Runs, IsAccepted, RefusesWhole}
use Rattle.cap_heap.specs.{Beginnings.{RefusesBehind, lines_of, objects_after}, Events.{HasRoom, mallocs, frees}}
use Rattle.cap_heap.specs.{HeapLines.SpellsHeapLine, HeapLogs.{RefusesHeapLine, heap_text_of}, HeapReports.IsReportOf}
use Rattle.cap_heap.specs.{HeapWhys.AreEventDetails, Heaps.{objects_in, live_in}, Objects.{no_objects, IsApart}}
use Rattle.cap_heap.specs.declared.log_parts.LogPart.TheVariants as stages

-- a root and events that are accepted lead to a heap, a report and a number of events
pub record Reaches (heap : Heap) (report : HeapReport) (count : ℕ) (root : Interval) (events : List Event) : Type 0 where
  pub runs : Runs IsApart root events
  pub root_is : heap.bounds ≡ root
  pub objects_are : objects_in heap ≡ objects_after no_objects events
  pub count_is : count ≡ length events
  pub live_is : live_in heap + frees events ≡ mallocs events
  pub report_is : IsReportOf report events

-- a beginning leads to the progress of a judge
abbrev pub StandsFor : Progress → Beginning → Type 0
StandsFor progress Nothing = progress.stage ≡ stages.Start
StandsFor progress Headed = progress.stage ≡ stages.Headed
StandsFor progress (Body root events) = (progress.stage ≡ stages.Within) × Reaches progress.heap progress.report progress.events root events
StandsFor progress (Whole root events) = (progress.stage ≡ stages.Ended) × Reaches progress.heap progress.report progress.events root events

-- whatever beginning the progress stood for, it still stands for
abbrev pub Stays : Progress → Progress → Type 0
Stays old new = (beginning : Beginning) → StandsFor old beginning → StandsFor new beginning

-- whatever beginning the progress stood for, it now stands for one with this line more
abbrev pub Takes : Progress → HeapLine → Progress → Type 0
Takes old line new =
    (beginning : Beginning) → StandsFor old beginning → (next : Beginning) × StandsFor new next × (lines_of next ≡ lines_of beginning ++ line ∷ [])

-- the same of the line that a text spells
abbrev pub TakesText : Progress → List ℕ → Progress → Type 0
TakesText old text new = (line : HeapLine) × SpellsHeapLine text line × Takes old line new

-- an object comes to live that no check refuses
abbrev pub WantsMemory : Interval → List Event → HeapLine → Type 0
WantsMemory root events line =
    (address : ℕ) × (size : ℕ) × (line ≡ Happens (Malloc address size)) × (length events < 2 ^ 32 - 1)
    × HasRoom root (objects_after no_objects events) address size

-- why a line after these events is not taken
abbrev pub EndsLine : Interval → List Event → HeapLine → EventEnd → Type 0
EndsLine root events line (Refused refusal) = RefusesHeapLine root events (End (length events)) line refusal
EndsLine root events line NoMemory = WantsMemory root events line

-- the line after a beginning is one for which there may be no memory
abbrev pub LacksMemory : Beginning → List ℕ → Type 0
LacksMemory (Body root events) text = (line : HeapLine) × SpellsHeapLine text line × WantsMemory root events line
LacksMemory beginning text = ⊥

-- whatever beginning the progress stands for, it does not take this line
abbrev pub EndsText : Progress → List ℕ → EventEnd → Type 0
EndsText progress text (Refused refusal) = (beginning : Beginning) → StandsFor progress beginning → RefusesWhole beginning text refusal
EndsText progress text NoMemory = (beginning : Beginning) → StandsFor progress beginning → LacksMemory beginning text

-- the bytes are the text of a beginning that the progress stands for, and this rest, which begins with the line of this
-- number
pub record IsAt (bytes : List ℕ) (progress : Progress) (rest : List ℕ) (line : ℕ) : Type 0 where
  pub beginning : Beginning
  pub stands : StandsFor progress beginning
  pub bytes_are : bytes ≡ heap_text_of (lines_of beginning) ++ rest
  pub line_is : line ≡ length (lines_of beginning) + 1

-- what is told of the event that a text spells, by the objects of a heap
abbrev pub AreEventDetailsIn : Heap → List ℕ → HeapRefusal → List ℕ → Type 0
AreEventDetailsIn heap text refusal details =
    ((event : Event) × SpellsHeapLine text (Happens event) × AreEventDetails heap.bounds (objects_in heap) event refusal details)
    ⊎ (((event : Event) → SpellsHeapLine text (Happens event) → ⊥) × (details ≡ []))

-- after a no, the progress stands for the beginning behind which a line was refused, whatever bytes follow where the
-- source has not ended, and the text is that line
pub record IsStopped (bytes : List ℕ) (progress : Progress) (text : List ℕ) (number : ℕ) (refusal : HeapRefusal) : Type 0 where
  pub beginning : Beginning
  pub rest : List ℕ
  pub bytes_are : bytes ≡ heap_text_of (lines_of beginning) ++ rest
  pub accepted : IsAccepted beginning
  pub number_is : number ≡ length (lines_of beginning) + 1
  pub refused : RefusesBehind beginning rest refusal
  pub stands : StandsFor progress beginning
  pub front : IsFrontText rest text
