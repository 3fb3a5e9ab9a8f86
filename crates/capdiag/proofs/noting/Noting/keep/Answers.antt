use Rattle.std.proofs.Common.{rules}
use Rattle.capdiag.proofs.NotingLemmas.{kept_front}
use Rattle.capdiag.proofs.noting.Noting.keep.Goals as goal

pub returns-clause-noted : goal.returns-clause-noted
returns-clause-noted g c =
    kept_front c.args.self.now.length _ c.min-count.result c.args.self.now.front c.args.bytes.now c.copy_from_slice.new.self (search rules) (search rules)
    c.min-count.ensures (search rules)
