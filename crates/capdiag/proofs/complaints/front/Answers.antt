use Rattle.capdiag.proofs.ComplaintLemmas.{take_few}
use Rattle.capdiag.proofs.complaints.front.Goals as goal

pub returns-clause-value : goal.returns-clause-value
returns-clause-value c = take_few c.args.bytes.now c.min.result c.min.ensures
