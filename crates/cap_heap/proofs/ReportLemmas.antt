-- The report of one event more.
use Rattle.std.proofs.Common.{◌≡◌, ℕ, ◌+◌, ◌≤◌, inl, inr, List, [], ◌∷◌, ◌++◌, length, sym, subst, ◌∙◌, arith, max}
use Rattle.std.proofs.{Common.{sum_by, take_all}, lemmas.{Bool.cases_lt, List.{length_push, take-append-le}}}
use Rattle.std.proofs.lemmas.List.Sums.{sum_by-append}
use Rattle.cap_heap.specs.declared.{events.Event.{Event, TheVariants.{Malloc, Free}}, report.HeapReport.HeapReport}
use Rattle.cap_heap.specs.{Events.{mallocs, frees}, HeapReports.{Adds, AreLive, IsMost, IsReportOf, capped, excess_of}}
use Rattle.cap_heap.specs.HeapReports.{gap_of, inexact_of, padding_of}
use Rattle.cap_heap.proofs.RunLemmas.{mallocs-push, frees-push}

sum-push : (cost : Event → ℕ) (events : List Event) (event : Event) → sum_by cost (events ++ event ∷ []) ≡ sum_by cost events + cost event
sum-push cost events event = omega (arith, sum_by-append cost events (event ∷ []))

capped-push : (cost : Event → ℕ) (events : List Event) (event : Event) (old new : ℕ) → old ≡ capped (sum_by cost events)
    → new ≡ capped (old + cost event) → new ≡ capped (sum_by cost (events ++ event ∷ []))
capped-push cost events event old new was is = omega (arith, was, is, sum-push cost events event)

-- how many live with one event more: as many as before at each earlier moment, and so many after it
live_before : (events : List Event) (event : Event) (moment live : ℕ) → moment ≤ length events → AreLive events moment live
    → AreLive (events ++ event ∷ []) moment live
live_before events event moment live within are =
    subst (λ (es : List Event). live + frees es ≡ mallocs es) (sym (take-append-le moment events (event ∷ []) within)) are

module _ (events : List Event) (event : Event) (most live : ℕ) (was : IsMost events most)
    (are : live + frees (events ++ event ∷ []) ≡ mallocs (events ++ event ∷ [])) where
  -- what is true of the new moment, and was of all earlier ones, is so of all
  below : (bound : ℕ) → most ≤ bound → live ≤ bound → (other count : ℕ) → AreLive (events ++ event ∷ []) other count → count ≤ bound
  below bound earlier now other count counted = elim (cases_lt (length events) other) [
    | inl past ↦
        let all = take_all other (events ++ event ∷ []) (omega (arith, past, length_push events event)) in
        let here = subst (λ (es : List Event). count + frees es ≡ mallocs es) all counted in
        omega arith
    | inr within ↦
        let here = subst (λ (es : List Event). count + frees es ≡ mallocs es) (take-append-le other events (event ∷ []) within) counted in
        omega (arith, was.greatest other count here)
  ]

  -- the moment at which most live, as one of the events before
  early : (moment : ℕ) × (moment ≤ length events) × AreLive events moment most
  early = elim (cases_lt (length events) was.moment) [
    | inl past ↦ (
      length events,
      omega arith,
      subst (λ (es : List Event). most + frees es ≡ mallocs es)
          (take_all was.moment events (omega (arith, past)) ∙ sym (take_all (length events) events (omega arith))) was.reached,
    )
    | inr within ↦ (was.moment, within, was.reached)
  ]

  most_stays : live ≤ most → IsMost (events ++ event ∷ []) most
  most_stays fewer = record {
    moment = early.0;
    reached = live_before events event early.0 most early.1 early.2;
    greatest = below most (omega arith) fewer;
  }

  most_grows : most ≤ live → IsMost (events ++ event ∷ []) live
  most_grows more = record {
    moment = length events + 1;
    reached = subst (λ (es : List Event). live + frees es ≡ mallocs es)
        (sym (take_all (length events + 1) (events ++ event ∷ []) (omega (arith, length_push events event)))) are;
    greatest = below live more (omega arith);
  }

  most_push : (new : ℕ) → new ≡ max most live → IsMost (events ++ event ∷ []) new
  most_push new is = elim (cases_lt most live) [
    | inl more ↦ let same : live ≡ new = omega (arith, is) in subst (IsMost (events ++ event ∷ [])) same (most_grows (omega arith))
    | inr fewer ↦ let same : most ≡ new = omega (arith, is) in subst (IsMost (events ++ event ∷ [])) same (most_stays fewer)
  ]

-- an object that is freed leaves a report as it was
pub report-free : (report : HeapReport) (events : List Event) (at live : ℕ) → IsReportOf report events
    → live + frees (events ++ Free at ∷ []) ≡ mallocs (events ++ Free at ∷ []) → IsReportOf report (events ++ Free at ∷ [])
report-free report events at live was are =
    let before = was.most.greatest (length events) (live + 1)
    (subst (λ (es : List Event). live + 1 + frees es ≡ mallocs es) (sym (take_all (length events) events (omega arith)))
    (omega (arith, are, mallocs-push events (Free at), frees-push events (Free at)))) in
    record {
      objects = omega (arith, was.objects, mallocs-push events (Free at));
      inexact = omega (arith, was.inexact, sum-push inexact_of events (Free at));
      excess = omega (arith, was.excess, sum-push excess_of events (Free at));
      padding = omega (arith, was.padding, sum-push padding_of events (Free at));
      gaps = omega (arith, was.gaps, sum-push gap_of events (Free at));
      most = most_stays events (Free at) report.most live was.most are (omega (arith, before));
    }

-- a new one is added
pub report-malloc : (old new : HeapReport) (events : List Event) (at size live : ℕ) → IsReportOf old events → Adds old (Malloc at size) live new
    → live + frees (events ++ Malloc at size ∷ []) ≡ mallocs (events ++ Malloc at size ∷ []) → IsReportOf new (events ++ Malloc at size ∷ [])
report-malloc old new events at size live was adds are = record {
  objects = omega (arith, was.objects, adds.objects, mallocs-push events (Malloc at size));
  inexact = capped-push inexact_of events (Malloc at size) old.inexact new.inexact was.inexact adds.inexact;
  excess = capped-push excess_of events (Malloc at size) old.excess new.excess was.excess adds.excess;
  padding = capped-push padding_of events (Malloc at size) old.padding new.padding was.padding adds.padding;
  gaps = capped-push gap_of events (Malloc at size) old.gaps new.gaps was.gaps adds.gaps;
  most = most_push events (Malloc at size) old.most live was.most are new.most adds.most;
}
