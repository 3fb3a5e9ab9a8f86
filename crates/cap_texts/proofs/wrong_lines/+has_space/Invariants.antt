use Rattle.std.proofs.Common.{length}
use Rattle.cap_texts.proofs.wrong_lines.+has_space.Given as goal

abbrev pub decreases-has_space : goal.decreases-has_space
decreases-has_space l = length l.text.now
