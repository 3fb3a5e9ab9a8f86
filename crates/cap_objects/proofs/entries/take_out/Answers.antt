use Rattle.std.proofs.Common.{◌≢◌, ◌<◌, ◌≤◌, ◌-◌, List, length, take, drop, get_or, sym, ap, subst, ◌∙◌, arith}
use Rattle.std.proofs.lemmas.List.{get_or_default}
use Rattle.cap_objects.specs.declared.entries.Entry.{Entry}
use Rattle.cap_objects.specs.Blocks.{Each, Takes}
use Rattle.cap_objects.proofs.CountLemmas.{blank, takes-here, takes-not}
use Rattle.cap_objects.proofs.entries.take_out.Goals.{else-count-gt0-via-then-count-gt0+else-index-key, else-count-gt0-via-else-count-gt0}
use Rattle.cap_objects.proofs.entries.take_out.Goals as goal

pub returns-then-index-key : goal.returns-then-index-key
returns-then-index-key c =
    let n = c.count_to-count in
    let x = c.index.result.now in
    subst (Takes c.args.entries.now.items c.args.key) (sym c.remove.ensures.items)
    (takes-here c.args.entries.now.items c.requires (n.result - 1) x (omega (arith, n.ensures.within, c.if-count-gt0.true)) c.args.key
    (sym (ap (λ (e : Entry). e.key) c.index.ensures) ∙ omega (arith, c.if-index-key.true)))

pub returns-else-count-gt0 : goal.returns-else-count-gt0
returns-else-count-gt0 c =
    let n = c.count_to-count in
    let xs = c.args.entries.now.items in
    let value = c.deref.ensures.value in
    let within : n.result ≤ length xs = subst (λ (l : List Entry). n.result ≤ length l) value n.ensures.within in
    let low = subst (λ (l : List Entry). Each (λ e. e.key ≤ c.args.key) (take n.result l)) value n.ensures.low in
    let high = subst (λ (l : List Entry). Each (λ e. c.args.key < e.key) (drop n.result l)) value n.ensures.high in
    let other : 0 < n.result → (get_or xs (n.result - 1) blank).key ≢ c.args.key =
    λ some same. elim c.else-count-gt0.branch [
      | else-count-gt0-via-then-count-gt0+else-index-key w ↦
          let here = get_or_default xs (n.result - 1) blank w.index.result.now (omega (arith, within, some)) in
          w.if-index-key.false (ap (λ (e : Entry). e.key) (w.index.ensures ∙ sym here) ∙ same)
      | else-count-gt0-via-else-count-gt0 w ↦ omega (arith, w.if-count-gt0.false, some)
    ] in
    takes-not xs c.requires n.result c.args.key blank within low high other
