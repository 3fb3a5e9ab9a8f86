use Rattle.std.proofs.Common.{◌≡◌, ◌⊎◌, inl, inr, refl, ◌∙◌, arith}
use Rattle.tagmem_lent.proofs.Merging.{IsMerging-begun, merged, stepped}
use Rattle.tagmem_lent.proofs.lent_store.merge_down.Goals.{then-loop-left-test+else-right-gt0, else-loop-left-test}
use Rattle.tagmem_lent.proofs.lent_store.merge_down.Goals as goal

pub loop-left-init : goal.loop-left-init
loop-left-init c =
    IsMerging-begun c.args.slots.now c.args.middle c.args.end c.requires.ordered c.requires.room c.requires.left c.requires.right _
    c.copy_within.ensures.len c.copy_within.ensures.after

pub loop-left-preserved : goal.loop-left-preserved
loop-left-preserved c =
    stepped c.args.slots.now c.args.middle c.args.end c.loop-left.slots c.loop-left.left c.loop-left.right c.requires.ordered c.requires.room
    c.loop-left.invariant c.loop-left-test.true c.if-right-gt0.true _ c.pick.result refl c.pick.ensures

pub returns : goal.returns
returns c =
    let done : (c.loop-left.left ≡ 0) ⊎ (c.loop-left.right ≡ 0) = elim c.loop-left-test.branch [
      | then-loop-left-test+else-right-gt0 w ↦ inr (omega (arith, w.if-right-gt0.false))
      | else-loop-left-test w ↦ inl (omega (arith, w.loop-left-test.false))
    ] in
    let is = merged c.args.slots.now c.args.middle c.args.end c.loop-left.slots c.loop-left.left c.loop-left.right c.requires.ordered
    c.requires.room c.loop-left.invariant done _ c.copy_within-2.ensures.after in
    record { len = c.copy_within-2.ensures.len ∙ c.loop-left.invariant.len; permuted = is.0; rises = is.1 }
