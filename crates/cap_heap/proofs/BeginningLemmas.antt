-- How a log begins, as its judge sees it and as its definition says.
use Rattle.std.proofs.Common.{ℕ, List, [], ◌∷◌, ◌++◌, length, map, refl, sym, subst, append-nil, arith}
use Rattle.cap_bounds.specs.declared.decoding.Interval.{Interval}
use Rattle.cap_log.proofs.ElementLemmas.{AllByRecursion-append}
use Rattle.cap_heap.specs.declared.{events.Event.Event, lines.HeapLine.{HeapLine, TheVariants.{Happens, End}}}
use Rattle.cap_heap.specs.declared.{progress.Progress.Progress, refusal.HeapRefusal.HeapRefusal}
use Rattle.cap_heap.specs.Beginnings.{Beginning, Nothing, Headed, Body, Whole, IsAccepted, Runs, body_lines, lines_of}
use Rattle.cap_heap.specs.{Beginnings.{due_of, events_of, nowhere, root_of}, HeapLines.IsHeapLineInRange}
use Rattle.cap_heap.specs.{HeapLogs.{IsHeapLogOf, IsFirstHeapFault}, Objects.IsApart, Progresses.IsStopped}
use Rattle.cap_heap.proofs.RunLemmas.{Runs-start}

-- a root and events that run are a log with their end line
pub is_log : (root : Interval) (events : List Event) → Runs IsApart root events
    → IsHeapLogOf IsApart (body_lines root events ++ End (length events) ∷ []) root events
is_log root events runs = (
  refl,
  (
    tt,
    (runs.range, AllByRecursion-append IsHeapLineInRange (map Happens events) (End (length events) ∷ []) runs.ranges (omega (arith, runs.few), tt)),
  ),
  runs.always,
)

-- a beginning that is accepted is that of a log
pub begins : (beginning : Beginning) → IsAccepted beginning
    → IsHeapLogOf IsApart (lines_of beginning ++ due_of beginning) (root_of beginning) (events_of beginning)
begins Nothing accepted = is_log nowhere [] (Runs-start nowhere (omega arith, omega arith, omega arith))
begins Headed accepted = is_log nowhere [] (Runs-start nowhere (omega arith, omega arith, omega arith))
begins (Body root events) runs = is_log root events runs
begins (Whole root events) runs =
    subst (λ (lines : List HeapLine). IsHeapLogOf IsApart lines root events) (sym (append-nil (lines_of (Whole root events)))) (is_log root events runs)

-- where a judge stopped there is the first fault
abbrev pub fault_of : {bytes : List ℕ} {progress : Progress} {text : List ℕ} {number : ℕ} {refusal : HeapRefusal}
    → IsStopped bytes progress text number refusal → IsFirstHeapFault bytes number refusal
fault_of stop = (
  root_of stop.beginning,
  events_of stop.beginning,
  lines_of stop.beginning,
  due_of stop.beginning,
  stop.rest,
  begins stop.beginning stop.accepted,
  stop.bytes_are,
  stop.number_is,
  stop.refused,
)
