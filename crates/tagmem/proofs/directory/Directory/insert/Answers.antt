use Rattle.std.proofs.Common.{set, refl}
use Rattle.std.proofs.Math.Seq.{map-set_same}
use Rattle.tagmem.specs.{declared.region.Region.Region, Directories.there_in, Regions.{is_there}}
use Rattle.tagmem.proofs.Regions.{AreCounted-with, IsWith_set}
use Rattle.tagmem.proofs.directory.Directory.insert.Goals as goal

pub returns-in-Ok-clause-ok : goal.returns-in-Ok-clause-ok
returns-in-Ok-clause-ok c =
    IsWith_set c.args.self.now.regions.items c.in-Ok.at c.index_mut.result.now _ c.index_mut.ensures.value (rw c.in-Ok.is at c.requires.region)
    c.args.page c.add.new.self refl c.add.ensures.number c.add.ensures.own c.add.ensures.others

pub invariant_of-self : goal.invariant_of-self
invariant_of-self c =
    let s = c.args.self.now in
    let old = s.regions.items in
    let with = IsWith_set old c.in-Ok.at c.index_mut.result.now _ c.index_mut.ensures.value (rw c.in-Ok.is at c.requires.region)
    c.args.page c.add.new.self refl c.add.ensures.number c.add.ensures.own c.add.ensures.others in
    let numbers = map-set_same (λ (r : Region). r.number) old c.in-Ok.at c.add.new.self c.index_mut.result.now (cc) in
    let children = map-set_same (λ (r : Region). r.children) old c.in-Ok.at c.add.new.self c.index_mut.result.now (cc) in
    record {
      distinct = rw numbers s.distinct;
      linked = rw (numbers, children) s.linked;
      counted = AreCounted-with (there_in s) (is_there (set old c.in-Ok.at c.add.new.self)) c.args.page s.count with s.counted;
    }
