use Rattle.std.proofs.Common.{arith}
use Rattle.cap_context.specs.Writers.{written}
use Rattle.cap_context.proofs.KeptLemmas.{line_dropped}
use Rattle.cap_context.proofs.keepings.dropped.Goals as goal

pub loop-left-preserved : goal.loop-left-preserved
loop-left-preserved c = λ given kept.
    let short = c.if-text-rest.false in
    line_dropped c.loop-left.skipped c.loop-left.hart.now c.hart_after-hart.result.now (written c.loop-left.writers) (written c.keep_writers.new.writers) c.loop-left.rest.now given
    c.cut.result.0.now c.cut.result.1.now c.cut.ensures.before c.cut.ensures.after (omega (arith, short)) c.hart_after-hart.ensures.value c.in_ok-keep_writers.ensures.ok
    (c.loop-left.invariant given kept)
