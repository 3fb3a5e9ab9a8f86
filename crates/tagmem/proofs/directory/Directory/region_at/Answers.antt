use Rattle.std.proofs.Common.{◌≡◌, ◌∙◌, ◌<◌, ℕ, List, true, ap, arith, get_or, length, ltb-true, nat_lt, sym}
use Rattle.std.proofs.lemmas.List.{get_or-map, length-map}
use Rattle.tagmem.specs.{declared.region.Region.Region, Regions.numbers_of}
use Rattle.tagmem.proofs.directory.Directory.region_at.Goals as goal

pub find-requires-clause-linked : goal.find-requires-clause-linked
find-requires-clause-linked c = rw (c.deref-in_default.ensures.value, c.deref-in_default-2.ensures.value) c.args.self.now.linked

pub returns-in_default : goal.returns-in_default
returns-in_default c = rw (c.deref-in_default.ensures.value, c.deref-in_default-2.ensures.value) at c.find.ensures

-- a region that is read stands there by its number
stands : (regions : List Region) (at : ℕ) (region : Region) (number : ℕ) → nat_lt at (length regions) ≡ true → region ≡ get_or regions at region
    → region.number ≡ number → (at < length (numbers_of regions)) × (get_or (numbers_of regions) at 0 ≡ number)
stands regions at region number within read is =
    let number_of = λ (r : Region). r.number in
    let lt = ltb-true at (length regions) within in
    (omega (arith, lt, length-map regions number_of), get_or-map number_of regions at region 0 lt ∙ ap number_of (sym read) ∙ is)

pub returns-in-Some : goal.returns-in-Some
returns-in-Some c =
    let lookup = rw c.deref.ensures.value at c.in-Some.ensures.lookup in
    let s = c.args.self.now in
    stands s.regions.items s.last c.in-Some.last.now c.args.region (sym lookup.0) lookup.1 c.if-last-region.true
