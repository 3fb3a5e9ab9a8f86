use Rattle.std.proofs.Common.{◌≡◌, suc, ◌-◌, set, subst, arith}
use Rattle.std.proofs.{Math.Seq.map-set_same}
use Rattle.tagmem.specs.{declared.region.Region.Region, Orders.IsLinkedTo, Regions.{links_of, has_number}}
use Rattle.tagmem.proofs.{Orders.IsLinkedTo-set, Regions.list_any-set}
use Rattle.tagmem.proofs.directory.join.Goals as goal

pub returns-clause-numbers : goal.returns-clause-numbers
returns-clause-numbers c =
    map-set_same (λ (r : Region). r.number) c.args.regions.now.items (c.args.end.0 - 1) c.lead.new.self c.index_mut.result.now (cc)

pub returns-clause-there : goal.returns-clause-there
returns-clause-there c = λ page.
    list_any-set (has_number page) c.args.regions.now.items (c.args.end.0 - 1) c.lead.new.self c.index_mut.result.now (cc)

pub returns-clause-linked : goal.returns-clause-linked
returns-clause-linked c =
    let regions = c.args.regions.now.items in
    let counted : suc (c.args.end.0 - 1) ≡ c.args.end.0 = omega (arith, c.if-end-eq0.false) in
    let new = set regions (c.args.end.0 - 1) c.lead.new.self in
    subst (λ l. IsLinkedTo (links_of c.args.roots.now.items regions) (links_of c.args.roots.now.items new) l c.args.end.1 c.args.link) counted
    (IsLinkedTo-set c.args.roots.now.items regions (c.args.end.0 - 1) c.args.end.1 c.args.link c.index_mut.result.now c.lead.new.self
    (omega (arith, c.requires.in_range)) c.index_mut.ensures.value (omega (arith, c.requires.digit)) c.lead.ensures.children)
