use Rattle.cap_log.proofs.ResultLemmas.{same_lanes}
use Rattle.cap_log.proofs.parts.results.is_same.Goals as goal

pub returns : goal.returns
returns c = record { same = same_lanes c.args.bytes.now c.args.text.now c.told-bytes c.told-text }
