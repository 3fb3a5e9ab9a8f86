use Rattle.std.proofs.Common.{arith, take_all}
use Rattle.tagmem.proofs.Granules.{overwritten_whole}
use Rattle.tagmem.proofs.overwrites.overwrite.Goals as goal

-- sixteen bytes begin at the first and leave none of the old
pub returns-in-Some : goal.returns-in-Some
returns-in-Some c = record {
  written =
      grind (arith, c.in-Some.ensures.cases, take_all 16 c.args.bytes.now, overwritten_whole c.args.granule.now c.args.bytes.now, c.told-granule);
}

pub returns-in-8 : goal.returns-in-8
returns-in-8 c = record { written = c.overwrite_with.ensures }

pub returns-in_default-len : goal.returns-in_default-len
returns-in_default-len c = record { written = c.overwrite_any.ensures }

pub returns-in-4 : goal.returns-in-4
returns-in-4 c = record { written = c.overwrite_with-in-4.ensures }

pub returns-in-2 : goal.returns-in-2
returns-in-2 c = record { written = c.overwrite_with-in-2.ensures }

pub returns-in-1 : goal.returns-in-1
returns-in-1 c = record { written = c.overwrite_with-in-1.ensures }
