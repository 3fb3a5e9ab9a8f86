use Rattle.std.proofs.Common.{◌*◌, ◌%◌, ◌^◌, refl, arith}
use Rattle.cap_bounds.specs.Bounds.{base_of, top_of, length_of, raw_base_at, top_at}
use Rattle.cap_bounds.proofs.Keeping.{KeepsBounds-always}
use Rattle.cap_ops.proofs.recent.RecentAuthority.new.Goals as goal

pub invariant_of-result-2 : goal.invariant_of-result-2
unfolding base_of top_of length_of raw_base_at top_at
invariant_of-result-2 c = record {
  unsealed = refl;
  near = λ address _ _. KeepsBounds-always (0x1fff_fc01_8004 * 2 ^ 64) (address % 2 ^ 64) (omega arith) (omega arith);
}
