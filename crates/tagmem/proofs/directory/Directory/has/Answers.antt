use Rattle.std.proofs.Common.{refl, sym, ◌∙◌}
use Rattle.tagmem.proofs.Regions.{none_there, there_own}
use Rattle.tagmem.proofs.directory.Directory.has.Goals as goal

pub returns-in-Ok : goal.returns-in-Ok
returns-in-Ok c =
    let s = c.args.self.now in
    let stands = rw c.in-Ok.is at c.requires in
    c.has.ensures ∙ sym (there_own s.regions.items c.in-Ok.at c.index.result.now _ c.index.ensures stands s.distinct c.args.page refl)

pub returns-in-Err : goal.returns-in-Err
returns-in-Err c =
    let ends = rw c.in-Err.is at c.requires in
    sym (none_there c.args.self.now.regions.items c.args.page ends.absent)
