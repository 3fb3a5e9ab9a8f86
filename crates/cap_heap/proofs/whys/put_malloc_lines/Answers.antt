use Rattle.std.proofs.Common.{[], ◌++◌, refl, sym, subst, codes}
use Rattle.cap_streams.specs.Written.{◌⨾◌}
use Rattle.cap_texts.specs.CapLines.{bounds_line}
use Rattle.cap_heap.specs.declared.{events.Event.TheVariants.Malloc, refusal.HeapRefusal.HeapRefusal}
use Rattle.cap_heap.specs.{declared.refusal.HeapRefusal.TheVariants.Misplaced, HeapWhys.{AreEventDetails, apart_lines}}
use Rattle.cap_heap.specs.{HeapWhys.{live_lines, request_lines, right_lines}, Heaps.objects_in}
use Rattle.cap_heap.proofs.WhyLemmas.{other_details}
use Rattle.cap_heap.proofs.whys.put_malloc_lines.Goals as goal

pub returns-in-OutsideHeap-clause-written : goal.returns-in-OutsideHeap-clause-written
unfolding right_lines
returns-in-OutsideHeap-clause-written c =
    let bounds = c.args.heap.now.bounds in
    let details = request_lines [] c.args.address c.args.size ++ bounds_line (codes "root") (codes " ") bounds.base bounds.top
    ++ right_lines c.args.size in
    let root = rw c.bounds-base.ensures.value at c.put_bounds_line-at.ensures.written in (
      details,
      subst (λ (r : HeapRefusal). AreEventDetails bounds (objects_in c.args.heap.now) (Malloc c.args.address c.args.size) r details)
          (sym c.in-OutsideHeap.is) refl,
      c.put_request_lines-at.ensures.written ⨾ root ⨾ c.put_right_lines.ensures.written,
    )

pub returns-in_default-clause-written : goal.returns-in_default-clause-written
unfolding right_lines
returns-in_default-clause-written c =
    let details = request_lines [] c.args.address c.args.size ++ live_lines c.overlapped-found.result ++ right_lines c.args.size ++ apart_lines c.args.address c.args.size c.overlapped-found.result in (
      details,
      other_details c.args.heap.now.bounds (objects_in c.args.heap.now) c.args.address c.args.size c.args.refusal Misplaced details
          c.in_default.not-OutsideHeap refl (c.overlapped-found.result, c.overlapped-found.ensures.shared, refl),
      c.put_request_lines-at.ensures.written ⨾ c.put_live_lines-at.ensures.written ⨾ c.put_right_lines-at.ensures.written ⨾ c.put_apart_lines.ensures.written,
    )
