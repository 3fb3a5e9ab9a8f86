use Rattle.std.proofs.Common.{length}
use Rattle.cap_json.proofs.words.+begins.Given as goal

abbrev pub decreases-begins : goal.decreases-begins
decreases-begins l = length l.name.now
