-- Events one after another.
use Rattle.std.specs.List.{AllByRecursion}
use Rattle.std.proofs.Common.{◌≡◌, ℕ, ◌+◌, ◌-◌, ◌^◌, ◌<◌, List, [], ◌∷◌, ◌++◌, length, map, cond, not, refl, sym, ap}
use Rattle.std.proofs.{Common.{subst, ◌∙◌, arith}, lemmas.List.{map-append, length_push}}
use Rattle.std.proofs.lemmas.{List.Sums.{fold-append, sum_by-append}, Option.none-some}
use Rattle.cap_bounds.specs.declared.decoding.Interval.{Interval}
use Rattle.cap_log.proofs.ElementLemmas.{AllByRecursion-append}
use Rattle.cap_heap.specs.declared.{events.Event.{Event, TheVariants.{Malloc, Free}}, heap.Heap.Heap}
use Rattle.cap_heap.specs.declared.lines.HeapLine.{HeapLine, TheVariants.{Header, Root, Happens}}
use Rattle.cap_heap.specs.{declared.report.HeapReport.HeapReport, Beginnings.{Runs, body_lines, objects_after}}
use Rattle.cap_heap.specs.Events.{CanHappen, Throughout, after_event, is_malloc, mallocs, frees}
use Rattle.cap_heap.specs.{HeapLines.IsHeapLineInRange, HeapReports.IsReportOf, Heaps.{objects_in, live_in}}
use Rattle.cap_heap.specs.{Objects.{Objects, no_objects, IsApart}, Progresses.Reaches}
use Rattle.cap_heap.proofs.Objects.{IsApart-with, IsApart-without}

-- one event more
pub objects_after-push : (objects : Objects) (events : List Event) (event : Event)
    → objects_after objects (events ++ event ∷ []) ≡ after_event (objects_after objects events) event
objects_after-push objects events event = fold-append after_event objects events (event ∷ [])

pub mallocs-push : (events : List Event) (event : Event) → mallocs (events ++ event ∷ []) ≡ mallocs events + mallocs (event ∷ [])
mallocs-push events event = sum_by-append (λ one. cond (is_malloc one) 1 0) events (event ∷ [])

pub frees-push : (events : List Event) (event : Event) → frees (events ++ event ∷ []) ≡ frees events + frees (event ∷ [])
frees-push events event = sum_by-append (λ one. cond (not (is_malloc one)) 1 0) events (event ∷ [])

pub lines-push : (root : Interval) (events : List Event) (event : Event)
    → body_lines root (events ++ event ∷ []) ≡ body_lines root events ++ Happens event ∷ []
lines-push root events event = ap (λ (lines : List HeapLine). Header ∷ Root root ∷ lines) (map-append Happens events (event ∷ []))

-- bounds stay apart with an event that can happen
apart_after : (heap : Interval) (objects : Objects) (event : Event) → IsApart heap objects → CanHappen heap objects event
    → IsApart heap (after_event objects event)
apart_after heap objects (Malloc at size) known can = IsApart-with heap objects _ at size known can (λ other. refl)
apart_after heap objects (Free at) known can = IsApart-without heap objects _ at known (λ other. refl)

-- what holds at every moment holds now
pub now : (Fact : Objects → Type 0) (objects : Objects) (events : List Event) → Throughout Fact objects events → Fact objects
now Fact objects [] all = all
now Fact objects (Malloc at size ∷ events) all = all.0
now Fact objects (Free at ∷ events) all = all.0

-- and from each moment on
pub from : (Fact : Objects → Type 0) (objects : Objects) (first more : List Event) → Throughout Fact objects (first ++ more)
    → Throughout Fact (objects_after objects first) more
from Fact objects [] more all = all
from Fact objects (Malloc at size ∷ first) more all = from Fact (after_event objects (Malloc at size)) first more all.2
from Fact objects (Free at ∷ first) more all = from Fact (after_event objects (Free at)) first more all.2

-- and in the end
pub at_end : (Fact : Objects → Type 0) (objects : Objects) (events : List Event) → Throughout Fact objects events
    → Fact (objects_after objects events)
at_end Fact objects [] all = all
at_end Fact objects (Malloc at size ∷ events) all = at_end Fact (after_event objects (Malloc at size)) events all.2
at_end Fact objects (Free at ∷ events) all = at_end Fact (after_event objects (Free at)) events all.2

-- and with an event more that can happen
throughout-push : (Fact : Objects → Type 0) (heap : Interval) (objects : Objects) (events : List Event) (event : Event)
    → Throughout Fact objects events → CanHappen heap (objects_after objects events) event
    → Fact (after_event (objects_after objects events) event) → Throughout Fact objects (events ++ event ∷ [])
throughout-push Fact heap objects [] (Malloc at size) all can last = (all, can.fresh, last)
throughout-push Fact heap objects [] (Free at) all can last = (all, can, last)
throughout-push Fact heap objects (Malloc at size ∷ events) event all can last =
    (all.0, all.1, throughout-push Fact heap (after_event objects (Malloc at size)) events event all.2 can last)
throughout-push Fact heap objects (Free at ∷ events) event all can last =
    (all.0, all.1, throughout-push Fact heap (after_event objects (Free at)) events event all.2 can last)

none_apart : (heap : Interval) → IsApart heap no_objects
none_apart heap = record {
  inside = λ at size is. absurd (none-some size is);
  apart = λ at other size length is differ shares. absurd (none-some size is);
}

pub Runs-start : (root : Interval) → IsHeapLineInRange (Root root) → Runs IsApart root []
Runs-start root range = record { range = range; ranges = tt; few = omega arith; always = none_apart root }

Runs-push : (root : Interval) (events : List Event) (event : Event) → Runs IsApart root events → IsHeapLineInRange (Happens event)
    → length events < 2 ^ 32 - 1 → CanHappen root (objects_after no_objects events) event → Runs IsApart root (events ++ event ∷ [])
Runs-push root events event runs range few can = record {
  range = runs.range;
  ranges = subst (AllByRecursion IsHeapLineInRange) (sym (map-append Happens events (event ∷ [])))
      (AllByRecursion-append IsHeapLineInRange (map Happens events) (Happens event ∷ []) runs.ranges (range, tt));
  few = omega (arith, few, length_push events event);
  always = throughout-push (IsApart root) root no_objects events event runs.always can
      (apart_after root (objects_after no_objects events) event (at_end (IsApart root) no_objects events runs.always) can);
}

-- a heap of no objects
pub Reaches-start : (heap : Heap) (report : HeapReport) (root : Interval) → IsHeapLineInRange (Root root) → heap.bounds ≡ root
    → objects_in heap ≡ no_objects → live_in heap ≡ 0 → IsReportOf report [] → Reaches heap report 0 root []
Reaches-start heap report root range bounds none count told = record {
  runs = Runs-start root range;
  root_is = bounds;
  objects_are = none;
  count_is = refl;
  live_is = omega (arith, count);
  report_is = told;
}

-- a heap of the same objects
pub Reaches-same : (old new : Heap) (report : HeapReport) (count : ℕ) (root : Interval) (events : List Event) → new.bounds ≡ old.bounds
    → objects_in new ≡ objects_in old → live_in new ≡ live_in old → Reaches old report count root events → Reaches new report count root events
Reaches-same old new report count root events bounds same live reaches = record {
  runs = reaches.runs;
  root_is = bounds ∙ reaches.root_is;
  objects_are = same ∙ reaches.objects_are;
  count_is = reaches.count_is;
  live_is = omega (arith, live, reaches.live_is);
  report_is = reaches.report_is;
}

-- one event more
module _ (old new : Heap) (report later : HeapReport) (count : ℕ) (root : Interval) (events : List Event) (event : Event)
    (reaches : Reaches old report count root events) (range : IsHeapLineInRange (Happens event)) (few : length events < 2 ^ 32 - 1)
    (can : CanHappen old.bounds (objects_in old) event) (told : objects_in new ≡ after_event (objects_in old) event)
    (live : live_in new + frees (event ∷ []) ≡ live_in old + mallocs (event ∷ [])) (bounds : new.bounds ≡ old.bounds) where
  pub live_after : live_in new + frees (events ++ event ∷ []) ≡ mallocs (events ++ event ∷ [])
  live_after = omega (arith, live, reaches.live_is, mallocs-push events event, frees-push events event)

  pub Reaches-push : IsReportOf later (events ++ event ∷ []) → Reaches new later (count + 1) root (events ++ event ∷ [])
  Reaches-push reported = record {
    runs = Runs-push root events event reaches.runs range few
        (subst (λ (objects : Objects). CanHappen root objects event) reaches.objects_are
        (subst (λ (heap : Interval). CanHappen heap (objects_in old) event) reaches.root_is can));
    root_is = bounds ∙ reaches.root_is;
    objects_are = told ∙ ap (λ (objects : Objects). after_event objects event) reaches.objects_are ∙ sym (objects_after-push no_objects events event);
    count_is = omega (arith, reaches.count_is, length_push events event);
    live_is = live_after;
    report_is = reported;
  }
