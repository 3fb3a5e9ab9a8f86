use Rattle.std.proofs.Common.{length}
use Rattle.cap_json.proofs.members.+push_filled.Given as goal

abbrev pub decreases-push_filled : goal.decreases-push_filled
decreases-push_filled l = length l.form.now
