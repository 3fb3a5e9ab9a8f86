-- What the author of an allocator wants to know of a log: what the bounds of its objects reach, and what exact ones
-- would cost (this profile's own, as are all below).
use Rattle.std.specs.Prelude.{◌≡◌, ℕ, ◌+◌, ◌-◌, ◌%◌, ◌^◌, ◌≤◌, ◌==◌, if◌then◌else◌, min, max, List, ◌++◌, take, codes}
use Rattle.std.specs.Prelude.{decimal, sum_by}
use Rattle.cap_bounds.specs.Rounding.{rounded_base, rounded_top, alignment_of}
use Rattle.cap_texts.specs.TextLines.{text_line}
use Rattle.cap_heap.specs.declared.{events.Event.{Event, TheVariants.{Malloc, Free}}, report.HeapReport.HeapReport}
use Rattle.cap_heap.specs.Events.{mallocs, frees}

-- how many bytes the bounds of a new object reach beyond it
abbrev pub excess_of : Event → ℕ
excess_of (Malloc at size) = rounded_top at size - (rounded_base at size + size)
excess_of (Free at) = 0

-- whether they are not exact
abbrev pub inexact_of : Event → ℕ
inexact_of event = if excess_of event == 0 then 0 else 1

-- how many bytes more it would need to have a length that can be exact
abbrev pub padding_of : Event → ℕ
padding_of (Malloc at size) = rounded_top 0 size - size
padding_of (Free at) = 0

-- how many bytes it would have to be moved up, to where such a length is exact
abbrev pub gap_of : Event → ℕ
gap_of (Malloc at size) = if at % alignment_of size == 0 then 0 else alignment_of size - at % alignment_of size
gap_of (Free at) = 0

-- a sum as a number of 64 bits: the greatest one where it is more
abbrev pub capped : ℕ → ℕ
capped sum = min sum (2 ^ 64 - 1)

-- so many objects live at a moment of events
abbrev pub AreLive : List Event → ℕ → ℕ → Type 0
AreLive events moment live = live + frees (take moment events) ≡ mallocs (take moment events)

-- so many live at once at most
pub record IsMost (events : List Event) (most : ℕ) : Type 0 where
  pub moment : ℕ
  pub reached : AreLive events moment most
  pub greatest : (other live : ℕ) → AreLive events other live → live ≤ most

-- a report is that of events
pub record IsReportOf (report : HeapReport) (events : List Event) : Type 0 where
  pub objects : report.objects ≡ capped (mallocs events)
  pub inexact : report.inexact ≡ capped (sum_by inexact_of events)
  pub excess : report.excess ≡ capped (sum_by excess_of events)
  pub padding : report.padding ≡ capped (sum_by padding_of events)
  pub gaps : report.gaps ≡ capped (sum_by gap_of events)
  pub most : IsMost events report.most

-- a new object is added to a report, and so many live then
pub record Adds (old : HeapReport) (event : Event) (live : ℕ) (new : HeapReport) : Type 0 where
  pub objects : new.objects ≡ capped (old.objects + 1)
  pub inexact : new.inexact ≡ capped (old.inexact + inexact_of event)
  pub excess : new.excess ≡ capped (old.excess + excess_of event)
  pub padding : new.padding ≡ capped (old.padding + padding_of event)
  pub gaps : new.gaps ≡ capped (old.gaps + gap_of event)
  pub most : new.most ≡ max old.most live

-- the lines of a report
unfoldable pub report_lines : HeapReport → List ℕ
report_lines report =
    text_line (codes "objects") (decimal report.objects)
    ++ text_line (codes "most") (decimal report.most)
    ++ text_line (codes "inexact") (decimal report.inexact)
    ++ text_line (codes "excess") (decimal report.excess)
    ++ text_line (codes "padding") (decimal report.padding)
    ++ text_line (codes "gaps") (decimal report.gaps)
