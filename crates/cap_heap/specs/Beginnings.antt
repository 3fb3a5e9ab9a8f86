-- How a log begins, as its judge sees it (this profile's own, as are all below).
use Rattle.std.specs.{Prelude.{◌≡◌, ℕ, ◌^◌, ◌<◌, List, [], ◌∷◌, ◌++◌, length, map, fold}, List.AllByRecursion}
use Rattle.cap_bounds.specs.declared.decoding.Interval.{Interval}
use Rattle.cap_heap.specs.declared.{events.Event.Event, lines.HeapLine.{HeapLine, TheVariants.{Header, Root, Happens}}}
use Rattle.cap_heap.specs.declared.{lines.HeapLine.TheVariants.End, refusal.HeapRefusal.HeapRefusal}
use Rattle.cap_heap.specs.{declared.refusal.HeapRefusal.TheVariants.Misplaced, Events.{Throughout, after_event}}
use Rattle.cap_heap.specs.{HeapLines.IsHeapLineInRange, HeapLogs.{RefusesText, RefusesHeap}, HeapWhys.AreHeapDetails}
use Rattle.cap_heap.specs.Objects.{Objects, no_objects, IsApart}

-- not at all; with its header; with its root and events too; or with all of these and its end line
pub data Beginning : Type 0 where
  Nothing : Beginning
  Headed : Beginning
  Body : (root : Interval) (events : List Event) → Beginning
  Whole : (root : Interval) (events : List Event) → Beginning

-- a root and events that keep to the grammar and the limit, at each moment of which a fact holds
pub record Runs (Fact : Interval → Objects → Type 0) (root : Interval) (events : List Event) : Type 0 where
  pub range : IsHeapLineInRange (Root root)
  pub ranges : AllByRecursion IsHeapLineInRange (map Happens events)
  pub few : length events < 2 ^ 32
  pub always : Throughout (Fact root) no_objects events

-- a root where none was read
abbrev pub nowhere : Interval
nowhere = record { base = 0; top = 0 }

-- the root and the events so far
abbrev pub root_of : Beginning → Interval
root_of (Body root events) = root
root_of (Whole root events) = root
root_of beginning = nowhere

abbrev pub events_of : Beginning → List Event
events_of (Body root events) = events
events_of (Whole root events) = events
events_of beginning = []

-- the objects after events
abbrev pub objects_after : Objects → List Event → Objects
objects_after objects events = fold after_event objects events

-- the lines of a root and events
abbrev pub body_lines : Interval → List Event → List HeapLine
body_lines root events = Header ∷ Root root ∷ map Happens events

-- the lines so far
abbrev pub lines_of : Beginning → List HeapLine
lines_of Nothing = []
lines_of Headed = Header ∷ []
lines_of (Body root events) = body_lines root events
lines_of (Whole root events) = body_lines root events ++ End (length events) ∷ []

-- the lines with which a log without further events goes on
abbrev pub due_of : Beginning → List HeapLine
due_of Nothing = Header ∷ Root nowhere ∷ End 0 ∷ []
due_of Headed = Root nowhere ∷ End 0 ∷ []
due_of (Body root events) = End (length events) ∷ []
due_of (Whole root events) = []

-- a beginning that is accepted
abbrev pub IsAccepted : Beginning → Type 0
IsAccepted (Body root events) = Runs IsApart root events
IsAccepted (Whole root events) = Runs IsApart root events
IsAccepted beginning = Unit {0}

-- a whole line behind a beginning is refused
abbrev pub RefusesWhole : Beginning → List ℕ → HeapRefusal → Type 0
RefusesWhole Nothing text refusal = RefusesText nowhere [] Header refusal text
RefusesWhole Headed text refusal = RefusesText nowhere [] (Root nowhere) refusal text
RefusesWhole (Body root events) text refusal = RefusesText root events (End (length events)) refusal text
RefusesWhole (Whole root events) text refusal = refusal ≡ Misplaced

-- what follows a beginning is refused
abbrev pub RefusesBehind : Beginning → List ℕ → HeapRefusal → Type 0
RefusesBehind beginning rest refusal = RefusesHeap (root_of beginning) (events_of beginning) (due_of beginning) rest refusal

-- what is told of a line behind a beginning
abbrev pub AreDetailsBehind : Beginning → List ℕ → HeapRefusal → List ℕ → Type 0
AreDetailsBehind beginning text refusal details = AreHeapDetails (root_of beginning) (events_of beginning) (lines_of beginning) (due_of beginning) text refusal details
