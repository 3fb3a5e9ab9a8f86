use Rattle.std.{specs.Prelude.{◌==◌}, proofs.{Common.{ap, arith, w64}, lemmas.Nat.{or_lt, Bits.{bit_at_set_same, bit_at_set_other}}}}
use Rattle.tagmem.proofs.Regions.{HasPage-with}
use Rattle.tagmem.proofs.region.Region.add.Goals as goal

pub invariant_of-self-clause-small : goal.invariant_of-self-clause-small
invariant_of-self-clause-small c = or_lt 64 _ _ c.args.self.now.small (omega arith)

pub invariant_of-self-clause-used : goal.invariant_of-self-clause-used
invariant_of-self-clause-used c =
    HasPage-with _ c.args.place (ap (λ bit. bit == 1) (bit_at_set_same w64 c.args.self.now.there c.args.place (omega arith)))

pub returns-clause-own : goal.returns-clause-own
returns-clause-own c = ap (λ bit. bit == 1) (bit_at_set_same w64 c.args.self.now.there c.args.place (omega arith))

pub returns-clause-others : goal.returns-clause-others
returns-clause-others c = λ other differs. ap (λ bit. bit == 1) (bit_at_set_other w64 c.args.self.now.there c.args.place (omega arith) other differs)
