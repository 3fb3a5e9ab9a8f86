use Rattle.std.proofs.Common.{◌≡◌, ◌∙◌, ◌↔◌, ℕ, arith, nat_lt, sym}
use Rattle.std.proofs.lemmas.Bool.Decides.{nat_tests}
use Rattle.std.specs.Prelude.{IsTrue}
use Rattle.cap_log.specs.Ranges.{IsDataValue}
use Rattle.cap_log.proofs.parts.sized.fits.Goals as goal

-- the values of two bytes
below_two : (size value : ℕ) → size ≡ 2 → IsTrue (nat_lt value 65536) ↔ IsDataValue size value
below_two size value is = rw is (λ below. grind (arith, nat_tests), λ few. grind (arith, nat_tests))

pub returns-in-2 : goal.returns-in-2
returns-in-2 c = below_two c.args.size c.args.value (sym c.size.view_is ∙ c.in-2.is)
