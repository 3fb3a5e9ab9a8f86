use Rattle.cap_json.proofs.WordLemmas.{escaped_more}
use Rattle.cap_json.proofs.words.push_escaped.Goals as goal

pub loop-byte-preserved : goal.loop-byte-preserved
loop-byte-preserved c =
    escaped_more c.args.bytes.now c.args.object.now.items c.loop-byte.object.items c.push_escaped_byte.new.object.items c.loop-byte.byte-index
    c.loop-byte-test.true c.loop-byte.invariant c.in_ok-push_escaped_byte.ensures.ok
