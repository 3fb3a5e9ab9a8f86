use Rattle.capdiag.proofs.RenderingLemmas.{name_more}
use Rattle.capdiag.proofs.forms.push_name.Goals as goal

pub loop-byte-preserved : goal.loop-byte-preserved
loop-byte-preserved c =
    name_more c.args.is_raw c.args.name.now c.args.text.now.items c.loop-byte.text.items c.push_name_byte.new.text.items c.loop-byte.byte-index
    c.loop-byte-test.true c.loop-byte.invariant c.in_ok-push_name_byte.ensures.ok
