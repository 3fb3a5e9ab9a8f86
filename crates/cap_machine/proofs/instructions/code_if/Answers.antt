use Rattle.std.proofs.Common.{◌≡◌, ◌∙◌, ℕ, Bool, ap, arith, bit_and, false, true, ◌%◌, ◌-◌, ◌<◌, ◌^◌}
use Rattle.std.proofs.lemmas.Nat.{and_mask}
use Rattle.cap_machine.specs.Changes.{code_for}
use lib.Bits.{and_zero_r}
use mir.Val.{bool_byte}
use Rattle.cap_machine.proofs.instructions.code_if.Goals as goal

-- a code under a mask of all bits is itself, and under one of none 0
masked : (tag : Bool) (code mask : ℕ) → code < 2 ^ 64 → mask ≡ (2 ^ 64 - bool_byte tag) % 2 ^ 64 → bit_and code mask ≡ code_for tag code
masked true code mask lt is = ap (bit_and code) is ∙ and_mask code 64 ∙ omega (arith, lt)
masked false code mask lt is = ap (bit_and code) is ∙ and_zero_r code

pub returns : goal.returns
returns c = masked c.args.tag c.args.code c.wrapping_neg.result c.ranges.code.fits (grind (arith, c.from.ensures, c.wrapping_neg.ensures))
