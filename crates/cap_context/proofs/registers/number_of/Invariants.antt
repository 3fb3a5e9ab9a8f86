use Rattle.std.proofs.Common.{◌≡◌, fold, length}
use Rattle.cap_context.specs.Contexts.{number_of, with_digit}
use Rattle.cap_context.proofs.registers.number_of.Given as goal

-- the number so far, and the digits that are left, are those of all digits
abbrev pub invariant-loop-digit : goal.invariant-loop-digit
invariant-loop-digit l = fold with_digit l.number l.rest ≡ number_of l.digits

abbrev pub decreases-loop-digit : goal.decreases-loop-digit
decreases-loop-digit l = length l.rest
