use Rattle.std.proofs.Common.{◌≢◌, ◌<◌, ◌-◌, get_or, arith}
use Rattle.cap_objects.proofs.CountLemmas.{blank, first-next, first-none, first-same}
use Rattle.cap_objects.proofs.entries.first_from.Goals.{then-count-gt0+else-last-key, else-count-gt0}
use Rattle.cap_objects.proofs.entries.first_from.Goals as goal

pub returns-then-last-key : goal.returns-then-last-key
returns-then-last-key c =
    let n = c.count_to-count in
    first-same c.args.entries.now c.requires n.result c.args.key blank n.ensures.within n.ensures.low n.ensures.high (omega (arith, c.if-count-gt0.true))
    (omega (arith, c.if-last-key.true))

pub returns-then-count-entries : goal.returns-then-count-entries
returns-then-count-entries c =
    let n = c.count_to-count in
    let other : 0 < n.result → (get_or c.args.entries.now (n.result - 1) blank).key ≢ c.args.key =
    λ some same. elim c.if-count-gt0.branch [
      | then-count-gt0+else-last-key w ↦ omega (arith, w.if-last-key.false, same)
      | else-count-gt0 w ↦ omega (arith, w.if-count-gt0.false, some)
    ] in
    first-none c.args.entries.now c.requires n.result c.args.key blank n.ensures.within n.ensures.low n.ensures.high other
    (omega (arith, c.if-count-entries.true))

pub returns : goal.returns
returns c =
    let n = c.count_to-count in
    let other : 0 < n.result → (get_or c.args.entries.now (n.result - 1) blank).key ≢ c.args.key =
    λ some same. elim c.if-count-gt0.branch [
      | then-count-gt0+else-last-key w ↦ omega (arith, w.if-last-key.false, same)
      | else-count-gt0 w ↦ omega (arith, w.if-count-gt0.false, some)
    ] in
    first-next c.args.entries.now c.requires n.result c.args.key blank n.ensures.within n.ensures.low n.ensures.high other
    (omega (arith, c.if-count-entries.false, n.ensures.within))
