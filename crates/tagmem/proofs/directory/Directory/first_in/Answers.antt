use Rattle.std.proofs.Common.{◌≡◌, ◌/◌, ◌∙◌, arith}
use Rattle.tagmem.proofs.Regions.{least_in, none_in, none_there}
use Rattle.tagmem.proofs.directory.Directory.first_in.Goals as goal

pub returns-in-Some-clause-first : goal.returns-in-Some-clause-first
returns-in-Some-clause-first c =
    let s = c.args.self.now in
    rw c.from.ensures
    (least_in s.regions.items c.in-Ok.at c.index.result.now c.args.region c.index.ensures c.in-Ok.ensures s.distinct
    c.args.place c.in-Some.first c.in-Some.ensures.small c.in-Some.ensures.first)

pub returns-in-None-clause-first : goal.returns-in-None-clause-first
returns-in-None-clause-first c =
    let s = c.args.self.now in
    none_in s.regions.items c.in-Ok.at c.index.result.now c.args.region c.index.ensures c.in-Ok.ensures s.distinct
    c.args.place c.in-None.ensures.first

pub returns-in-Err-clause-first : goal.returns-in-Err-clause-first
returns-in-Err-clause-first c = λ page le lt.
    let own : page / 64 ≡ c.args.region = omega arith in
    none_there c.args.self.now.regions.items page (λ at in_range same. c.in-Err.ensures.absent at in_range (same ∙ own))
