use Rattle.std.{specs.Prelude.{◌==◌}, proofs.{Common.{ap}, lemmas.Nat.{one_shl, Bits.{bit_at-pow_same, bit_at-pow_other}}}}
use Rattle.tagmem.{proofs.Regions.HasPage-with}
use Rattle.tagmem.proofs.region.Region.new.Goals as goal

pub invariant_of-result-clause-used : goal.invariant_of-result-clause-used
invariant_of-result-clause-used c =
    rw (one_shl c.args.place 64 c.requires.place) (HasPage-with _ c.args.place (ap (λ bit. bit == 1) (bit_at-pow_same c.args.place)))

pub returns-clause-others : goal.returns-clause-others
returns-clause-others c = λ other differs.
    rw (one_shl c.args.place 64 c.requires.place) (ap (λ bit. bit == 1) (bit_at-pow_other c.args.place other differs))
