use Rattle.std.proofs.Common.{◌≤◌, ◌∙◌, arith, length, rules}
use Rattle.cap_streams.specs.KnownLaws.{Consumes-nothing}
use Rattle.capdiag.proofs.FrontLemmas.{front_long, read_at_end, read_more, read_none}
use Rattle.capdiag.proofs.fronts.read_front.Goals as goal
use Rattle.capdiag.proofs.fronts.read_front.Goals.{in-Ok, in-Err+else-ne}

pub loop-init : goal.loop-init
loop-init g c = record { few = omega arith; long = c.told-front; read = Consumes-nothing (g.R.Read.remaining c.args.input.now) }

pub returns-then-length-ge6-clause-fits : goal.returns-then-length-ge6-clause-fits
returns-then-length-ge6-clause-fits g c = c.loop.invariant.few

pub returns-then-length-ge6-clause-read : goal.returns-then-length-ge6-clause-read
returns-then-length-ge6-clause-read g c = c.loop.invariant.read

pub returns-in-Ok-eq0-clause-read : goal.returns-in-Ok-eq0-clause-read
returns-in-Ok-eq0-clause-read g c =
    let inv = c.loop.invariant in
    read_at_end c.loop.length _ c.in-Ok-eq0.field-0 c.loop.front c.read.new.buf _ _ _ (omega (arith, inv.few, inv.long)) c.in-Ok-eq0.field-0-test
    c.in-Ok-eq0.ensures.bound.0 inv.read c.in-Ok-eq0.ensures.bytes.0

pub loop-preserved : goal.loop-preserved
loop-preserved g c =
    let inv = c.loop.invariant in
    let inside : c.loop.length ≤ length c.loop.front = omega (arith, inv.few, inv.long) in
    let remaining = g.R.Read.remaining in
    elim c.match-read.branch [
      | in-Ok w ↦ record {
        few = search rules;
        long = front_long c.loop.length _ c.loop.front c.read.new.buf (search rules) (omega (arith, inv.few, inv.long)) ∙ inv.long;
        read = rw w.length-is (read_more c.loop.length _ w.in-Ok.count c.loop.front c.read.new.buf _ _ _ inside w.in-Ok.ensures.bound.0 inv.read w.in-Ok.ensures.bytes.0);
      }
      | in-Err+else-ne w ↦ record {
        few = rw w.length-is inv.few;
        long = front_long c.loop.length _ c.loop.front c.read.new.buf (search rules) (omega (arith, inv.few, inv.long)) ∙ inv.long;
        read = rw w.length-is (read_none c.loop.length _ c.loop.front c.read.new.buf _ _ _ inside inv.read w.in-Err.ensures.bytes);
      }
    ]
