use Rattle.std.proofs.Common.{refl, subst}
use Rattle.cap_heap.specs.{declared.lines.HeapLine.TheVariants.Root, HeapLines.SpellsHeapLine}
use Rattle.cap_heap.proofs.ProgressLemmas.{takes_root}
use Rattle.cap_heap.proofs.progress.Progress.take_root.Goals as goal

pub returns-in-Some-Root-clause-ok : goal.returns-in-Some-Root-clause-ok
returns-in-Some-Root-clause-ok c =
    let spells = subst (SpellsHeapLine c.args.text.now) c.in-Some-Root.field-0-is c.in-Some-Root.ensures.some in (
      Root c.in-Some-Root.bounds,
      spells,
      takes_root c.args.self.now _ c.in-Some-Root.bounds c.requires refl refl spells.0 c.new.ensures.bounds
          c.new.ensures.objects c.new.ensures.count c.new-self.ensures,
    )
