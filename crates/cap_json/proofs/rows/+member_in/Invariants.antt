use Rattle.std.proofs.Common.{length}
use Rattle.cap_json.proofs.rows.+member_in.Given as goal

abbrev pub decreases-member_in : goal.decreases-member_in
decreases-member_in l = length l.rows.now
