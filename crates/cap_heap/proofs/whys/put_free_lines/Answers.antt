use Rattle.std.proofs.Common.{◌≡◌, ◌∙◌, ◌++◌, List, ℕ, ap, codes, refl, subst, sym}
use Rattle.cap_streams.specs.Written.{Writes, ◌⨾◌}
use Rattle.cap_texts.specs.TextLines.{text_line}
use Rattle.cap_heap.specs.HeapWhys.{free_hint, live_lines}
use Rattle.cap_heap.proofs.whys.put_free_lines.Goals.{in-Some, in-None}
use Rattle.cap_heap.proofs.whys.put_free_lines.Goals as goal

pub returns-clause-written : goal.returns-clause-written
returns-clause-written c =
    let found = c.overlapped-found.result in
    let live = c.put_live_lines-at in
    let hint : c.match-found.hint.now ≡ free_hint found = elim c.match-found.branch [
      | in-Some w ↦ ap (λ hint. hint.now) w.hint-is ∙ sym (ap free_hint w.in-Some.is)
      | in-None w ↦ ap (λ hint. hint.now) w.hint-is ∙ sym (ap free_hint w.in-None.is)
    ] in
    let line = subst (λ (text : List ℕ). Writes live.result (text_line (codes "hint") text) live.new.buffer c.put_line.new.buffer c.put_line.result)
    hint c.put_line.ensures.written in
    (live_lines found ++ text_line (codes "hint") (free_hint found), (found, c.overlapped-found.ensures.shared, refl), live.ensures.written ⨾ line)
