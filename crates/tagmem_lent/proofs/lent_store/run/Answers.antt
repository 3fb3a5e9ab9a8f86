use Rattle.std.proofs.Common.{arith}
use Rattle.tagmem_lent.proofs.Runs.{run_end-le, run_end-rises}
use Rattle.tagmem_lent.proofs.lent_store.run.Goals as goal

-- no shift loses a bit
pub returns : goal.returns
returns c =
    let below = run_end-le c.args.number c.args.level in
    let rises = run_end-rises c.args.number c.args.level in record {
      from = omega (arith, below, rises, c.ranges.number.fits);
      to = omega (arith, below, c.ranges.number.fits);
      ordered = omega (arith, below, rises, c.ranges.number.fits);
      inside = omega (arith, below, c.ranges.number.fits);
    }
