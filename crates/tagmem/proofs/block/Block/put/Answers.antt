use Rattle.std.proofs.Common.{Some, ◌∙◌, arith}
use Rattle.tagmem.proofs.Blocks.{slot_of, bytes-slot_with, slots_with-set}
use Rattle.tagmem.proofs.block.Block.put.Goals as goal

pub returns-clause-slots : goal.returns-clause-slots
returns-clause-slots c =
    let b = c.args.self.now in
    slots_with-set b.tags b.rows b.codes c.args.slot (Some c.args.tag) c.overwrite.new.granule c.args.code
    ∙ grind (arith, slot_of b c.args.slot, bytes-slot_with, b.blank c.args.slot, c.overwrite.ensures.written)
